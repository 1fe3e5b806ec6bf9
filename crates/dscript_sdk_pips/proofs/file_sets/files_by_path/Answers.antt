use Rattle.std.proofs.Common.{map, ap, sym, ◌∙◌, subst}
use Rattle.std.specs.List.{IsDistinct}
use Rattle.std.specs.List.Sorted.{IsPermutation}
use Rattle.bx_tree.specs.Paths.{same_path}
use Rattle.dscript_sdk_pips.specs.FileSets.{AreCounted, files_by_path}
use Rattle.dscript_sdk_pips.proofs.Counted.{are_counted}
use Rattle.dscript_sdk_pips.proofs.FilesKept.{files_rise, values}
use Rattle.dscript_sdk_pips.proofs.file_sets.files_by_path.Goals as goal
use Rattle.bx_tree.specs.FileInputs.{input_path}
use Rattle.bx_tree.proofs.InOrder.{rising_distinct, moved_same}
use Rattle.bx_tree.specs.Orders.{path_cmp_total}

pub of-requires : goal.of-requires
of-requires c =
    let sorted = c.in_ok-sorted.ensures ∙ ap values c.in_ok-kept.ensures in
    subst (λ xs. IsDistinct same_path (map input_path xs)) (sym sorted)
    (rising_distinct (map input_path (files_by_path c.args.files.now)) (files_rise c.args.files.now))

pub returns-clause-sorted : goal.returns-clause-sorted
returns-clause-sorted c =
    let sorted = c.in_ok-sorted.ensures ∙ ap values c.in_ok-kept.ensures in
    moved_same path_cmp_total input_path (files_by_path c.args.files.now) c.of.result
    (subst (λ xs. IsPermutation xs c.of.result) sorted c.of.ensures.kept) (files_rise c.args.files.now) c.of.ensures.rising

pub returns-clause-counted : goal.returns-clause-counted
returns-clause-counted c =
    let sorted = c.in_ok-sorted.ensures ∙ ap values c.in_ok-kept.ensures in
    subst (AreCounted c.args.files.now)
    (sym (moved_same path_cmp_total input_path (files_by_path c.args.files.now) c.of.result
    (subst (λ xs. IsPermutation xs c.of.result) sorted c.of.ensures.kept) (files_rise c.args.files.now) c.of.ensures.rising))
    (are_counted c.args.files.now)
