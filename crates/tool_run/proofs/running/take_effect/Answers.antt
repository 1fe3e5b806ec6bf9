use Rattle.std.proofs.Common.{◌<◌, ◌^◌, subst, sym}
use Rattle.tool_run.specs.Described.{described}
use Rattle.tool_run.specs.States.{machine_of}
use Rattle.tool_run.proofs.AskPlaces.{asks_there}
use Rattle.tool_run.proofs.Turns.{asked_turn}
use Rattle.tool_run.proofs.running.take_effect.Goals as goal

pub take_answer-requires : goal.take_answer-requires
take_answer-requires g c =
    let there = asks_there (described c.args.desc.now) (machine_of c.args.state.now) (machine_of c.act.new.self) c.args.instr.now c.in-Asks.ask
    c.in_ok-act.field-0 c.in_ok-act.ensures c.in-Asks.is in
    subst (λ n. n < 2 ^ 63) (sym there) c.requires

pub returns-in_ok-push-in-Asks-clause-turn : goal.returns-in_ok-push-in-Asks-clause-turn
returns-in_ok-push-in-Asks-clause-turn g c =
    asked_turn (described c.args.desc.now) (g.V.View.answers c.args.view.now) (machine_of c.args.state.now) c.args.instr.now c.in-Asks.ask c.in_ok-answer-in-Asks.answer
    c.in_ok-act.field-0 (machine_of c.act.new.self) (machine_of c.take_answer.new.self) c.in_ok-end-in-Asks.end c.args.accesses.now.items c.push.new.self.items
    c.in_ok-act.ensures c.in-Asks.is c.in_ok-answer-in-Asks.ensures.answer c.in_ok-end-in-Asks.ensures c.in_ok-push-in-Asks.ensures.items
