use Rattle.two_phase.proofs.Noted.{noted_or_none}
use Rattle.two_phase.proofs.held.HeldContents.note.Goals as goal

pub returns : goal.returns
returns c =
    noted_or_none _ c.args.content.now c.args.self.now c.forget.new.self c.add.new.self c.add.result (c.forget.ensures c.args.content.now)
    c.add.ensures.added c.add.ensures.refused
