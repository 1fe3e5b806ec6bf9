use Rattle.std.proofs.Common.{arith}
use Rattle.dscript_types_known.proofs.Opening.{count_begins, count_ends, count_goes}
use Rattle.dscript_types_known.proofs.table.count_decls.Goals as goal

pub counted-init : goal.counted-init
counted-init c = count_begins c.args.program.now _ c.files-files.ensures

pub counted-preserved : goal.counted-preserved
counted-preserved c =
    count_goes c.args.program.now _ c.counted.file-index c.file-item.result c.counted.count _ c.len.result c.counted-test.true c.file-item.is
    (omega (arith, c.len.ensures, c.file-item.result.decls.ok.0)) c.in-Some.ensures.1 c.counted.invariant

pub returns : goal.returns
returns c = count_ends c.args.program.now _ c.counted.file-index c.counted.count c.counted-test.false c.counted.invariant
