use Rattle.std.proofs.Common.{ℕ, subst}
use Rattle.two_phase.specs.Held.{Tracks}
use Rattle.two_phase.proofs.Noted.{noted, on_err, unchanged}
use Rattle.two_phase.proofs.held.HeldContents.add.Goals as goal

pub returns-in_err-insert-clause-refused : goal.returns-in_err-insert-clause-refused
returns-in_err-insert-clause-refused c = on_err _ _ (unchanged c.args.self.now (record { contents = c.insert.new.self }) c.in_err-insert.ensures.err)

pub returns-clause-added : goal.returns-clause-added
returns-clause-added c =
    subst (λ (k : ℕ). Tracks c.args.self.now (record { contents = c.insert.new.self }) k c.args.content.now) c.key_of.ensures
    (noted c.key_of.result c.args.content.now c.in_ok-share.field-0 c.args.self.now (record { contents = c.insert.new.self })
    c.in_ok-share.ensures c.in_ok-insert.ensures.updates)
