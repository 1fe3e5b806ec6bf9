use Rattle.std.proofs.Common.{rules, arith, ◌≡◌, ℕ, ◌<◌, Bool, true, false, List, [], ◌∷◌, length, MatchBool, refl}
use Rattle.std.specs.List.{AllByRecursion, AllWithin, HoldsAt}
use Rattle.std.proofs.lemmas.Bool.{false≢true}
use Rattle.std.proofs.lemmas.Iterator.{cases_from_all}
use Rattle.std.proofs.lemmas.Iterator.Splits.{YieldsList-from_slice_split}
use Rattle.std.proofs.lemmas.List.Elements.{recursion_from_All, All-from_recursion, All-from_all_within}
use Rattle.bx_tree.specs.Paths.{IsAtom}
use Rattle.bx_tree.proofs.PathTexts.{is_slash}
use Rattle.bx_tree.proofs.path.has_atoms.Goals as goal

all_or_not : {X : Type 0} (P : X → Type 0) (r : Bool) (xs : List X)
    → MatchBool r (AllWithin P xs 0 (length xs)) ((k : ℕ) × (k < length xs) × HoldsAt (λ x. P x → ⊥) xs k)
    → ((r ≡ true) → AllByRecursion P xs) × (AllByRecursion P xs → r ≡ true)
all_or_not P true xs h = (λ _. recursion_from_All P xs (All-from_all_within P xs h), λ _. refl)
all_or_not P false [] h = (λ e. absurd (false≢true e), λ all. absurd (omega (arith, h.1)))
all_or_not P false (x ∷ xs) h =
    (λ e. absurd (false≢true e), λ all. absurd (h.2 x (All-from_recursion P (x ∷ xs) all h.0 x h.1)))

pub returns : goal.returns
returns c =
    all_or_not IsAtom _ _ (cases_from_all _ _ _ IsAtom (λ x. IsAtom x → ⊥) c.all.ensures.ran
    (YieldsList-from_slice_split _ is_slash c.args.text.now c.split.ensures.rest c.split.ensures.done c.split.ensures.closure (λ x b q k. search rules))
    (λ x q k. search rules) (λ x q k. search rules))
