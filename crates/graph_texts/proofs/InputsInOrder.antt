-- Files that rise by path, as they are known to and as their lines are tested.
use Rattle.std.proofs.Common.{◌≡◌, true, List, map, subst, ◌∙◌}
use Rattle.std.specs.List.{AllByRecursion}
use Rattle.std.specs.List.Sorted.{IsStrictlySortedBy}
use Rattle.std.proofs.lemmas.List.{map-id}
use Rattle.bx_tree.specs.FileInputs.{input_path}
use Rattle.bx_tree.specs.Orders.{path_cmp_total}
use Rattle.bx_tree.specs.Paths.{path_cmp}
use Rattle.bx_tree.specs.declared.file_input.FileInput.{FileInput}
use Rattle.pip_model_types.specs.Inputs.{RiseByPath}
use Rattle.prints.specs.Lines.{rises}
use Rattle.prints.proofs.Rising.{rising_sorted, sorted_rising}
use Rattle.graph_texts.specs.Inputs.{IsInput, input_before}

pub inputs_rise : (files : List FileInput) → RiseByPath files → rises input_before files ≡ true
inputs_rise files h = sorted_rising path_cmp_total input_path files h

pub inputs_sorted : (files : List FileInput) → rises input_before files ≡ true → IsStrictlySortedBy path_cmp (map input_path files)
inputs_sorted files e = rising_sorted path_cmp_total input_path files e

-- what holds of each line of files holds of the files
pub inputs_fit : (files list : List FileInput) → list ≡ files → AllByRecursion IsInput (map (λ f. f) list) → AllByRecursion IsInput files
inputs_fit files list same fit = subst (AllByRecursion IsInput) (map-id list ∙ same) fit
