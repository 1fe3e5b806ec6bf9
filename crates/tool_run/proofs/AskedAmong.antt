-- The asks among accesses, one access after the other.
use Rattle.std.proofs.Common.{◌≡◌, ℕ, suc, ◌+◌, ◌<◌, true, false, List, [], ◌∷◌, ◌++◌, length, drop, get_or, Option, Some, None, refl, ap, sym, ◌∙◌, add-one, append_assoc}
use Rattle.std.specs.Prelude.{is_some}
use Rattle.std.proofs.lemmas.List.{append-nil}
use Rattle.std.proofs.Math.Seq.{drop-cons}
use Rattle.observed.specs.declared.access.Access.{Access}
use Rattle.observed.specs.declared.access.Access.TheVariants.{Asked, Wrote, WriteDenied}
use Rattle.observed.specs.declared.access.Answer.{Answer}
use Rattle.observed.specs.declared.ask.Ask.{Ask}
use Rattle.tool_run.specs.Description.{Description, given}
use Rattle.tool_run.specs.Run.{asks_of, with_ask}

-- an ask that a declared file answers
pub ask_given : (o : Option Answer) (ask : Ask) (asks : List Ask) → is_some o ≡ true → asks ≡ asks ++ with_ask o ask []
ask_given (Some answer) ask asks e = sym (append-nil asks)
ask_given None ask asks e = absurd cc

-- an ask that none answers
pub ask_added : (o : Option Answer) (ask shared : Ask) (asks new : List Ask) → is_some o ≡ false → shared ≡ ask → new ≡ asks ++ shared ∷ []
    → new ≡ asks ++ with_ask o ask []
ask_added (Some answer) ask shared asks new e is added = absurd cc
ask_added None ask shared asks new e is added = added ∙ ap (λ a. asks ++ a ∷ []) is

with_more : (o : Option Answer) (ask : Ask) (rest : List Ask) → with_ask o ask [] ++ rest ≡ with_ask o ask rest
with_more (Some answer) ask rest = refl
with_more None ask rest = refl

first_asks : (d : Description) (x : Access) (rest : List Access) → asks_of d (x ∷ []) ++ asks_of d rest ≡ asks_of d (x ∷ rest)
first_asks d (Asked ask answer) rest = with_more (given d ask) ask (asks_of d rest)
first_asks d (Wrote path) rest = refl
first_asks d (WriteDenied path) rest = refl

-- one access more
pub asks_after : (d : Description) (xs : List Access) (i : ℕ) (x : Access) (asks new whole : List Ask) → i < length xs → x ≡ get_or xs i x
    → new ≡ asks ++ asks_of d (x ∷ []) → asks ++ asks_of d (drop i xs) ≡ whole → new ++ asks_of d (drop (i + 1) xs) ≡ whole
asks_after d xs i x asks new whole l is added so_far =
    let rest = asks_of d (drop (i + 1) xs) in
    ap (λ as'. as' ++ rest) added
    ∙ append_assoc asks (asks_of d (x ∷ [])) rest
    ∙ ap (λ as'. asks ++ as')
    (first_asks d x (drop (i + 1) xs)
    ∙ ap (λ n. asks_of d (x ∷ drop n xs)) (add-one i)
    ∙ ap (λ y. asks_of d (y ∷ drop (suc i) xs)) is
    ∙ sym (ap (asks_of d) (drop-cons xs i x l)))
    ∙ so_far
