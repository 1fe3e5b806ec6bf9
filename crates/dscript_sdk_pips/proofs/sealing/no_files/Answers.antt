use Rattle.std.proofs.Common.{[], length, map, ap, sym, ◌∙◌, subst}
use Rattle.std.specs.List.{IsDistinct}
use Rattle.std.proofs.lemmas.List.Sorted.{length_permutation}
use Rattle.bx_tree.specs.Paths.{same_path}
use Rattle.dscript_sdk_pips.proofs.sealing.no_files.Goals as goal
use Rattle.bx_tree.specs.FileInputs.{input_path}
use Rattle.bx_tree.proofs.Lists.{none_left}

none_distinct : IsDistinct same_path []
unfolding IsDistinct
none_distinct = tt

pub of-requires : goal.of-requires
of-requires c = subst (λ xs. IsDistinct same_path (map input_path xs)) (sym c.new.ensures.items) none_distinct

pub returns : goal.returns
returns c =
    none_left c.of.result (length_permutation c.new.result.items c.of.result c.of.ensures.kept ∙ ap length c.new.ensures.items)
