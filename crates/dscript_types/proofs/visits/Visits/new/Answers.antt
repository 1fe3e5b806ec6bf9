use Rattle.std.proofs.Common.{arith}
use Rattle.dscript_types.proofs.Seeing.{new_begins, new_goes, new_none, new_size}
use Rattle.dscript_types.proofs.visits.Visits.new.Goals as goal

pub bound-init : goal.bound-init
bound-init c = new_begins c.args.program.now _ _ c.in_ok-files.ensures.items c.files-bound.ensures

pub bound-preserved : goal.bound-preserved
bound-preserved c =
    new_goes c.args.program.now _ c.bound.file-index c.file-item.result _ _ _ c.len.result c.bound-test.true c.file-item.is
    (omega (arith, c.len.ensures, c.file-item.result.decls.ok.0)) (c.in_ok-vec.ensures.items_if_clones_equal (λ y h. h)) c.in_ok-push.ensures.items c.bound.invariant

pub returns-clause-none : goal.returns-clause-none
returns-clause-none c = new_none c.args.program.now _ c.bound.file-index c.bound.files.items c.bound-test.false c.bound.invariant

pub returns-clause-size : goal.returns-clause-size
returns-clause-size c = new_size c.args.program.now _ c.bound.file-index c.bound.files.items c.bound-test.false c.bound.invariant
