use Rattle.std.proofs.Common.{arith, refl}
use Rattle.dscript_types_notes.proofs.Going.{if_ok}
use Rattle.dscript_types.proofs.Judged.{reach_begins, reach_ends, reach_goes}
use Rattle.dscript_types.proofs.checking.reach_of.Goals as goal

pub counted-init : goal.counted-init
counted-init c = reach_begins c.args.program.now _ _ _ c.files-files.ensures c.functions.ensures refl

pub counted-preserved : goal.counted-preserved
counted-preserved c =
    reach_goes c.args.program.now _ c.counted.file-index c.file-item.result c.counted.count _ c.len.result c.counted-test.true c.file-item.is
    (omega (arith, c.len.ensures, c.file-item.result.decls.ok.0)) c.in_ok-count.ensures c.counted.invariant

pub returns : goal.returns
returns c =
    if_ok _ _ _
    (λ total is. reach_ends c.args.program.now _ c.counted.file-index c.counted.count total c.counted-test.false is c.counted.invariant)
    c.sum_of-2.ensures
