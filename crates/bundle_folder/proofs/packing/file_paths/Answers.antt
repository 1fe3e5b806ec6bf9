use Rattle.std.proofs.Common.{◌<◌, arith, length}
use Rattle.std.proofs.lemmas.Result.{err_from_is_err_and}
use Rattle.bx_tree.specs.declared.limits.TheConstants.{MAX_FILES}
use Rattle.bundle_folder.proofs.Held.{entry_cause, many_files, paths_of_folder}
use Rattle.bundle_folder.proofs.packing.file_paths.Goals as goal

pub returns-in_err-paths_in-clause-paths : goal.returns-in_err-paths_in-clause-paths
returns-in_err-paths_in-clause-paths c left_out nodes lists =
    let p = err_from_is_err_and c.from_residual.result c.from_residual.ensures.1 in
    let cause = c.in_err-paths_in.ensures in
    rw (p.1, p.2) (entry_cause left_out nodes cause.0 c.in_err-paths_in.field-0.0 (lists.held cause.0 cause.1) cause.2)

pub returns-then-len-gt-MAX_FILES-clause-paths : goal.returns-then-len-gt-MAX_FILES-clause-paths
returns-then-len-gt-MAX_FILES-clause-paths c left_out nodes lists =
    let order = c.in_order-paths.result.items in
    let many : MAX_FILES < length order = omega arith in
    many_files left_out nodes order (paths_of_folder left_out nodes c.args.entries.now c.in_ok-paths_in.field-0.items order lists
    c.in_ok-paths_in.ensures c.in_order-paths.ensures.rising c.in_order-paths.ensures.held) many

pub returns-clause-paths : goal.returns-clause-paths
returns-clause-paths c left_out nodes lists =
    paths_of_folder left_out nodes c.args.entries.now c.in_ok-paths_in.field-0.items c.in_order-paths.result.items lists
    c.in_ok-paths_in.ensures c.in_order-paths.ensures.rising c.in_order-paths.ensures.held
