-- What the slots give to a pip, input by input.
use Rattle.std.proofs.Common.{◌≡◌, ℕ, ◌+◌, ◌<◌, ◌≤◌, List, [], ◌∷◌, ◌++◌, length, map, get_or, take, refl, ap, sym, ◌∙◌, subst, arith}
use Rattle.std.specs.List.{All}
use Rattle.std.specs.List.Sorted.{IsStrictlyIncreasing}
use Rattle.std.proofs.lemmas.Grind.{get_or_default_zero}
use Rattle.std.proofs.lemmas.List.{get_or-take, length-map, length-take, map-append, take_more}
use Rattle.std.proofs.lemmas.List.Elements.{All-map}
use Rattle.std.proofs.lemmas.List.Kept.{AllPairs-from_increasing}
use Rattle.bx_tree.specs.Trees.{Files}
use Rattle.pip_model.specs.Plans.{AreInputs, PlanData}
use Rattle.pip_view_inputs.specs.Results.{ByPip, inputs_at}
use Rattle.pip_view_inputs.proofs.KeptInputs.{inputs_each}
use Rattle.sched_board_slots.specs.Slots.{held_files, own_inputs, slot_at}
use Rattle.sched_board_slots.specs.declared.held.Held.{Held}
use Rattle.sched_board_slots.proofs.Inputs.{files_at, pairs_alike}

-- a pip with the files in its slot
abbrev pub pair_of : List Held → ℕ → ℕ × Files
pair_of slots j = (j, held_files (slot_at slots j))

-- of numbers that rise those before a place are less than the one there
pub below_next : (slots : List Held) (ins : List ℕ) (k : ℕ) → IsStrictlyIncreasing ins → k < length ins
    → All (λ (pair : ℕ × Files). pair.0 < get_or ins k 0) (map (pair_of slots) (take k ins))
below_next slots ins k rising l =
    All-map (λ (pair : ℕ × Files). pair.0 < get_or ins k 0) (pair_of slots) (take k ins)
    (λ i d w.
    let less : i < k = omega (arith, w, length-take k ins, l) in
    let read : get_or (take k ins) i d ≡ get_or ins i 0 = get_or-take k ins i d less ∙ get_or_default_zero ins i d (omega (arith, less, l)) in
    subst (λ (n : ℕ). n < get_or ins k 0) (sym read) (AllPairs-from_increasing ins rising i k 0 less l))

pub one_more_pair : (slots : List Held) (ins : List ℕ) (k : ℕ) → k < length ins
    → map (pair_of slots) (take (k + 1) ins) ≡ map (pair_of slots) (take k ins) ++ pair_of slots (get_or ins k 0) ∷ []
one_more_pair slots ins k l =
    ap (map (pair_of slots)) (take_more ins k 0 l) ∙ map-append (pair_of slots) (take k ins) (get_or ins k 0 ∷ [])

-- with all inputs this is what the pip is given
pub all_given : (plan : PlanData) (slots : List Held) (pip : ℕ) (ins : List ℕ) → pip < length plan.pips → length slots ≡ length plan.pips
    → AreInputs plan.pips pip ins → All (λ input. input < pip) ins → map (pair_of slots) ins ≡ own_inputs plan slots pip
all_given plan slots pip ins l size are below =
    pairs_alike (λ j. held_files (slot_at slots j)) (λ j. get_or (map held_files slots) j []) ins (λ j h. sym (files_at slots j))
    ∙ sym (inputs_each plan.pips pip (map held_files slots) ins are below (omega (arith, l, size, length-map slots held_files)))
