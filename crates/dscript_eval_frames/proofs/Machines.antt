-- Steps that are spent, and work that is added and taken.
use Rattle.std.proofs.Common.{◌≡◌, ℕ, ◌-◌, ◌+◌, ◌<◌, ◌≤◌, cond, List, [], ◌∷◌, ◌++◌, length, reverse}
use Rattle.std.proofs.Common.{MatchOption, MatchResult, Option, Some, None, Result, Ok, Err, ap, sym, ◌∙◌}
use Rattle.std.specs.Prelude.{option_to_list}
use Rattle.std.proofs.lemmas.Bool.{le-leb, lt-leb}
use Rattle.std.proofs.lemmas.List.{append-nil, reverse-append}
use Rattle.bx_tree.proofs.Lists.{none_left}
use Rattle.dscript_eval_meaning.specs.Evaluating.{fails}
use Rattle.dscript_eval_meaning.specs.States.{State}
use Rattle.dscript_eval_meaning.specs.declared.fault.EvalKind.TheVariants as kinds
use Rattle.dscript_eval_frames.specs.Steps.{Spent, Unspent}
use Rattle.dscript_eval_frames.specs.Views.{View}
use Rattle.dscript_eval_frames.specs.declared.stop.Stop.{Stop}
use Rattle.dscript_eval_frames.specs.declared.stop.Stop.TheVariants as stops
use Rattle.dscript_eval_frames.specs.declared.work.Work.{Work}

-- what is added last is first from the end
pub reversed_push : {A : Type 0} (xs ys : List A) (x : A) → ys ≡ xs ++ x ∷ [] → reverse ys ≡ x ∷ reverse xs
reversed_push xs ys x is = ap reverse is ∙ reverse-append xs (x ∷ [])

-- one more work before others
pub pushed_more
    : (r : Result (Unit {0}) Stop) (old mid now : View) (w : Work) (ws : List Work) → mid ≡ record old { work = ws }
    → MatchResult r (λ _. now ≡ record mid { work = w ∷ mid.work }) (λ stop. stop ≡ stops.Memory)
    → MatchResult r (λ _. now ≡ record old { work = w ∷ ws }) (λ stop. stop ≡ stops.Memory)
pushed_more (Ok done) old mid now w ws is more = more ∙ ap (λ (v : View). record v { work = w ∷ v.work }) is
pushed_more (Err stop) old mid now w ws is more = more

-- two more works before others
pub pushed_two_more
    : (r : Result (Unit {0}) Stop) (old mid now : View) (w x : Work) (ws : List Work) → mid ≡ record old { work = ws }
    → MatchResult r (λ _. now ≡ record mid { work = w ∷ x ∷ mid.work }) (λ stop. stop ≡ stops.Memory)
    → MatchResult r (λ _. now ≡ record old { work = w ∷ x ∷ ws }) (λ stop. stop ≡ stops.Memory)
pushed_two_more (Ok done) old mid now w x ws is more =
    more ∙ ap (λ (v : View). record v { work = w ∷ x ∷ v.work }) is
pushed_two_more (Err stop) old mid now w x ws is more = more

-- the work that is taken was the first
pub popped
    : (r : Option Work) (xs ys : List Work) (n m : ℕ) (v : View) → xs ≡ ys ++ option_to_list r → n ≡ length xs
    → MatchOption r ((n ≡ 0) × (m ≡ 0)) (λ x. m + 1 ≡ n)
    → MatchOption r ((reverse xs ≡ []) × (record v { work = reverse ys } ≡ record v { work = reverse xs }))
    (λ x. record v { work = reverse xs } ≡ record v { work = x ∷ reverse ys })
popped None xs ys n m v is len none = (
  ap reverse (none_left xs (sym len ∙ none.0)),
  ap (λ (l : List Work). record v { work = reverse l }) (sym (is ∙ append-nil ys)),
)
popped (Some x) xs ys n m v is len some = ap (λ (l : List Work). record v { work = l }) (reversed_push ys xs x is)

pub spent_when
    : (n : ℕ) (v w : View) → n ≤ v.state.left
    → w ≡ record v { state = record v.state { left = v.state.left - n } } → Spent n v w
spent_when n v w le is = record {
  state = ap (λ b. cond b (Ok (tt, record v.state { left = v.state.left - n })) (fails kinds.Budget v.state)) (le-leb n v.state.left le)
      ∙ ap (λ (z : View). Ok (tt, z.state)) (sym is);
  others = is ∙ ap (λ (z : View). record v { state = z.state }) (sym is);
}

pub unspent_when
    : (n : ℕ) (v : View) (stop : Stop) → v.state.left < n
    → stop ≡ stops.Fault kinds.Budget v.state.frame.file None → Unspent n v stop
unspent_when n v stop lt is = record {
  state = ap (λ b. cond b (Ok (tt, record v.state { left = v.state.left - n })) (fails kinds.Budget v.state)) (lt-leb n v.state.left lt);
  fault = is;
}
