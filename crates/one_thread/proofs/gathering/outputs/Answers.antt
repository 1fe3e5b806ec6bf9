use Rattle.one_thread.proofs.PutFiles.{slot_more}
use Rattle.one_thread.proofs.gathering.outputs.Goals as goal

pub slots-preserved : goal.slots-preserved
slots-preserved c =
    slot_more c.args.slots.now c.slots.slot-index c.slot-item.result c.slots.files.entries _ _ c.slots-test.true c.slot-item.is
    c.in_ok-put_slot.ensures c.slots.invariant
