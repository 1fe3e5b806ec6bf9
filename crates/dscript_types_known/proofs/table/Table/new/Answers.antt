use Rattle.dscript_types_known.proofs.Opening.{open_begins, open_counted, open_ends, open_goes}
use Rattle.dscript_types_known.proofs.table.Table.new.Goals as goal

pub bound-init : goal.bound-init
bound-init c = open_begins c.args.program.now _ _ c.in_ok-files.ensures.items c.files-bound.ensures

pub bound-preserved : goal.bound-preserved
bound-preserved c =
    open_goes c.args.program.now _ c.bound.file-index c.file-item.result _ _ _ _ c.bound-test.true c.file-item.is
    c.as_slice.ensures.value c.in_ok-open_entries.ensures c.in_ok-push.ensures.items c.bound.invariant

pub invariant_of-result : goal.invariant_of-result
invariant_of-result c =
    open_counted c.args.program.now _ c.bound.file-index _ c.bound.files.items c.bound-test.false c.bound.invariant
    c.in_ok-count_decls.ensures

pub returns : goal.returns
returns c = open_ends c.args.program.now _ c.bound.file-index c.bound.files.items c.bound-test.false c.bound.invariant
