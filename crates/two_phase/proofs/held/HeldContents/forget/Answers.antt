use Rattle.std.proofs.Common.{ℕ, subst}
use Rattle.two_phase.specs.Held.{Tracks}
use Rattle.two_phase.proofs.Noted.{forgotten}
use Rattle.two_phase.proofs.held.HeldContents.forget.Goals as goal

pub returns : goal.returns
returns c = λ content.
    subst (λ (k : ℕ). Tracks c.args.self.now (record { contents = c.remove.new.self }) k content) c.key_of.ensures
    (forgotten c.key_of.result c.args.self.now (record { contents = c.remove.new.self }) c.remove.ensures.updates content)
