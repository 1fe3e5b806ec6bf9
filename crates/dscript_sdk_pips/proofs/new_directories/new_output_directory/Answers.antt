use Rattle.std.proofs.Common.{Err, arith, ap, sym}
use Rattle.std.specs.Fmt.{decimal}
use Rattle.std.proofs.lemmas.Result.{err_from_is_err_and}
use Rattle.dscript_sdk_pips.specs.NewOutputDirectory.{named_directory, new_output_directory}
use Rattle.dscript_sdk_pips.specs.States.{count_in}
use Rattle.dscript_sdk_pips.proofs.ShortPaths.{long_with_more}
use Rattle.dscript_sdk_pips.proofs.new_directories.new_output_directory.Goals as goal

pub returns-in_err-dir-clause-fault : goal.returns-in_err-dir-clause-fault
unfolding new_output_directory
returns-in_err-dir-clause-fault c =
    let p = err_from_is_err_and c.from_residual-in_err-dir.result c.from_residual-in_err-dir.ensures.1 in
    let dir = named_directory c.args.site.now.file c.in_ok-name.name.now in
    rw (p.1, p.2)
    (λ n.
    let long = long_with_more dir (decimal (count_in c.args.state.now.counts dir)) (omega arith) (c.in_err-dir.ensures n).1 in
    simp (c.in_ok-name.ensures.1, long) (ap Err (sym (c.in_err-dir.ensures n).0)))
