use Rattle.tool_run.specs.Described.{described}
use Rattle.tool_run.specs.Description.{resolved}
use Rattle.tool_run.specs.Instructions.{value}
use Rattle.tool_run.specs.States.{machine_of}
use Rattle.tool_run.proofs.PatternListings.{by_none, by_pattern}
use Rattle.tool_run.proofs.state.State.look_by.Goals as goal

pub returns-in_default : goal.returns-in_default
returns-in_default c =
    let m = machine_of c.args.self.now in
    by_none m c.args.instr.now (value m c.args.y.now) c.value.result.now (resolved (described c.args.desc.now).dir (value m c.args.x.now))
    c.value.ensures (rw c.in_default.is at c.in_ok-pattern.ensures)

pub returns : goal.returns
returns c =
    let m = machine_of c.args.self.now in
    let is = rw c.in-Some.is at c.in_ok-pattern.ensures in
    by_pattern m (machine_of c.look.new.self) c.args.instr.now (value m c.args.y.now) c.value.result.now c.in-Some.pattern
    (resolved (described c.args.desc.now).dir (value m c.args.x.now)) c.look.result c.value.ensures is.0 is.1 c.look.ensures
