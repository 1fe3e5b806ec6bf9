-- The run on stored answers is the run that they were stored of.
use Rattle.std.proofs.Common.{◌≡◌, Bool, true, false, List, [], ◌∷◌, length, map, cond, refl, ap, sym, ◌∙◌, subst, inl, inr}
use Rattle.std.proofs.lemmas.List.{length-map}
use Rattle.observed.specs.Asks.{same_ask}
use Rattle.observed.specs.Orders.{same_ask_is, same_ask_itself}
use Rattle.observed.specs.declared.ask.Ask.{Ask}
use Rattle.observed.specs.declared.access.Access.{Access}
use Rattle.observed.specs.declared.access.Answer.{Answer}
use Rattle.pip_model_types.specs.declared.desc.Desc.{Desc}
use Rattle.tool_run.specs.Description.{Description}
use Rattle.tool_run.specs.Described.{described}
use Rattle.std.specs.List.{AllByRecursion}
use Rattle.bx_tree.specs.Members.{Has}
use Rattle.tool_run.specs.Laws.{DependsOnPathSet, IsAnswered, RunInvariant}
use Rattle.tool_run.specs.Run.{Run, path_set, run_of}
use Rattle.run_record.specs.declared.outcome.Outcome.{Outcome}
use Rattle.run_record.specs.Outcomes.{outcome_of}
use Rattle.run_record.specs.Answered.{answered, given_in}
use Rattle.run_record.proofs.Recorded.{all_given}
use Rattle.run_record.specs.Facts.{AreOf, Facts, IsRun, Sound, run_for}
use Rattle.run_record.specs.Traces.{facts_of}

chosen : (t : Bool) (a : Ask → Answer) (x q : Ask) (other : Answer) → same_ask x q ≡ t → (same_ask x q ≡ false → other ≡ a q) → cond t (a x) other ≡ a q
chosen true a x q other e on = ap a (same_ask_is x q e)
chosen false a x q other e on = on e

-- what is stored of an answerer is what it answers
pub stored_all : (a : Ask → Answer) (xs : List Ask) (q : Ask) → Has xs q → answered xs (map a xs) q ≡ a q
stored_all a [] q h = absurd h
stored_all a (x ∷ xs) q h =
    chosen (same_ask x q) a x q (answered xs (map a xs) q) refl (λ other. elim h [
      | inl e ↦ absurd (let yes : same_ask x q ≡ true = subst (λ (y : Ask). same_ask x y ≡ true) e (same_ask_itself x) in let no : true ≡ false = sym yes ∙ other in cc)
      | inr r ↦ stored_all a xs q r
    ])

-- a run that the answers to the path set's asks decide is not changed when it is given those answers alone
pub same_run : (d : Description) (a : Ask → Answer) → DependsOnPathSet d → (paths : List Ask) → path_set d (run_of d a).accesses ≡ paths
    → run_of d (answered paths (map a paths)) ≡ run_of d a
same_run d a depends paths is =
    depends a (answered paths (map a paths)) (λ q h. sym (stored_all a paths q (subst (λ (ps : List Ask). Has ps q) is h)))

pub sound : (f : Facts) (d : Desc) (a : Ask → Answer) → DependsOnPathSet (described d) → IsRun f d a → Sound f
sound f d a depends run =
    let same : run_for f.desc (answered f.paths f.answers) ≡ run_for d a =
    ap (λ (x : Desc). run_for x (answered f.paths f.answers)) run.desc
    ∙ ap (λ as'. run_for d (answered f.paths as')) run.answers
    ∙ same_run (described d) a depends f.paths (ap (λ (x : Desc). path_set (described x) (run_for d a).accesses) (sym run.desc) ∙ run.run.paths) in
    record { number = ap length run.answers ∙ length-map f.paths a; run = subst (λ (r : Run). AreOf f r) (sym same) run.run }

-- the record that is made of a run
pub made_run : (d : Desc) (a : Ask → Answer) (r : Run) (paths : List Ask) (stored : List Answer) (outcome : Outcome)
    → RunInvariant (described d) a (run_for d a) → r ≡ run_for d a → paths ≡ path_set (described d) r.accesses → stored ≡ map (given_in r.accesses) paths
    → outcome ≡ outcome_of (described d) r
    → IsRun (record { desc = d; paths = paths; answers = stored; accesses = r.accesses; outcome = outcome }) d a
made_run d a r paths stored outcome holds ran set given judged =
    let all = subst (λ (x : Run). AllByRecursion (IsAnswered (described d) a) x.accesses) (sym ran) holds.answered in
    record {
      desc = refl;
      run = record {
        paths = ap (λ (x : Run). path_set (described d) x.accesses) (sym ran) ∙ sym set;
        accesses = ap (λ (x : Run). x.accesses) (sym ran);
        outcome = ap (outcome_of (described d)) (sym ran) ∙ sym judged;
      };
      answers = given ∙ ap (map (given_in r.accesses)) set ∙ all_given (described d) a r.accesses all ∙ ap (map a) (sym set);
    }

-- ## Accesses that are not kept

-- the accesses of sound facts are those of the run on their own answers: what holds of the facts holds with these in place of them
pub with_own : (P : Facts → Type 0) (f : Facts) → Sound f → P f → P (facts_of f.desc (record { paths = f.paths; answers = f.answers }) f.outcome)
with_own P f sound holds = subst (λ (xs : List Access). P (record f { accesses = xs })) (sym sound.run.accesses) holds

-- and the run on what is stored gives them again
pub made_again : (f : Facts) (d : Desc) (paths : List Ask) (stored : List Answer) (see : Ask → Answer) (r : Run) → Sound f → d ≡ f.desc → paths ≡ f.paths → stored ≡ f.answers
    → see ≡ answered paths stored → r ≡ run_for d see → r.accesses ≡ f.accesses
made_again f d paths stored see r sound desc_is paths_are stored_are sees is =
    ap (λ (x : Run). x.accesses) (is ∙ ap (run_for d) sees
    ∙ ap (λ (x : Desc). run_for x (answered paths stored)) desc_is
    ∙ ap (λ (qs : List Ask). run_for f.desc (answered qs stored)) paths_are
    ∙ ap (λ (as' : List Answer). run_for f.desc (answered f.paths as')) stored_are)
    ∙ sound.run.accesses
