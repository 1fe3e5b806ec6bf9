use Rattle.std.proofs.Common.{◌<◌, ◌^◌, IfOk, Option, subst, sym}
use Rattle.observed.specs.declared.access.End.{End}
use Rattle.tool_run.specs.Described.{described}
use Rattle.tool_run.specs.Machine.{Machine}
use Rattle.tool_run.specs.Run.{turn}
use Rattle.tool_run.specs.Seen.{Turns}
use Rattle.tool_run.specs.States.{machine_of}
use Rattle.tool_run.proofs.running.take_turn.Goals as goal

pub take_effect-requires : goal.take_effect-requires
take_effect-requires g c = subst (λ (m : Machine). m.place < 2 ^ 63) (sym (c.in_ok-go.ensures.stays c.if-branch.false)) c.requires

pub returns-clause-turn : goal.returns-clause-turn
returns-clause-turn g c =
    subst (λ (m : Machine). IfOk c.take_effect.result (λ (end : Option End).
    Turns (turn (described c.args.desc.now) (g.V.View.answers c.args.view.now) m c.args.instr.now) (machine_of c.take_effect.new.state) c.args.accesses.now.items c.take_effect.new.accesses.items end))
    (c.in_ok-go.ensures.stays c.if-branch.false) c.take_effect.ensures.turn
