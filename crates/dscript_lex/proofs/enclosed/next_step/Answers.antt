use Rattle.std.proofs.Common.{sym, subst}
use Rattle.dscript_lex.specs.Scanning.{Means, reach}
use Rattle.dscript_lex.proofs.ReachByStep.{means}
use Rattle.dscript_lex.proofs.enclosed.next_step.Goals as goal

pub returns : goal.returns
returns c = subst (λ s. Means c.args.delimiter c.args.bytes.now s (reach c.args.delimiter c.args.bytes.now)) (sym c.step_of.ensures) (means c.args.delimiter c.args.bytes.now)
