use Rattle.pip_view_inputs.proofs.TakenFiles.{one_more}
use Rattle.pip_view_inputs.proofs.making.input_list.Goals as goal

pub files-preserved : goal.files-preserved
files-preserved c =
    one_more c.args.sources.now c.args.inputs.now c.args.files.now c.files.file-index c.file-item.result c.files.taken.items
    c.push.new.self.items c.in_ok-next.next c.files-test.true c.file-item.is c.files.invariant c.in_ok-next.ensures
    c.in_ok-push.ensures.items
