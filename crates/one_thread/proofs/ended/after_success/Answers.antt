use Rattle.std.proofs.Common.{ap, map, sym, take, ◌∙◌}
use Rattle.violations.specs.Slots.{slot_files}
use Rattle.one_thread.specs.OneThread.{succeeded, unless_clash}
use Rattle.one_thread.specs.Shared.{all_shared}
use Rattle.one_thread.proofs.SharedSets.{no_clash}
use Rattle.one_thread.proofs.ended.after_success.Goals as goal

pub returns-then-not-clashes-clause-result : goal.returns-then-not-clashes-clause-result
returns-then-not-clashes-clause-result g c =
    let pips = c.args.frame.now.plan.now.pips in
    let made = map slot_files c.args.slots.now in
    c.succeeded.ensures.result ∙ ap succeeded c.in_ok-share.ensures
    ∙ sym (ap (unless_clash c.args.made.now) (no_clash pips made c.args.pip c.args.made.now c.in_ok-clashes.clashes c.if-not-clashes.true
    (c.in_ok-clashes.ensures (all_shared (take c.args.pip pips) made) c.requires.shared)))
