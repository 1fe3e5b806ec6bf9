use Rattle.std.proofs.Common.{List, [], map, subst, sym}
use Rattle.std.specs.List.{IsDistinct}
use Rattle.bx_tree.specs.Paths.{same_path}
use Rattle.bx_tree.specs.declared.file_input.FileInput.{FileInput}
use Rattle.tests_pips.proofs.tests.no_files.Goals as goal
use Rattle.bx_tree.specs.FileInputs.{input_path}

no_paths : IsDistinct same_path (map input_path [])
unfolding IsDistinct
no_paths = tt

pub of-requires : goal.of-requires
of-requires c = subst (λ (fs : List FileInput). IsDistinct same_path (map input_path fs)) (sym c.new.ensures.items) no_paths
