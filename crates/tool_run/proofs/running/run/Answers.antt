use Rattle.std.proofs.Common.{◌≡◌, ◌∙◌, ◌-◌, ap, sym, subst, arith, Option, Some, None, IfOk}
use Rattle.std.specs.Prelude.{slice_get}
use Rattle.observed.specs.declared.access.End.{End}
use Rattle.tool_run.specs.Described.{described}
use Rattle.tool_run.specs.Run.{Run, run_after, run_of, turn}
use Rattle.tool_run.specs.Seen.{Turns, seen}
use Rattle.tool_run.specs.States.{machine_of}
use Rattle.tool_run.proofs.Turns.{ends_there, goes_on, over}
use Rattle.tool_run.proofs.running.run.Goals as goal

pub returns-in-Some-2-clause-ran : goal.returns-in-Some-2-clause-ran
returns-in-Some-2-clause-ran g c =
    let d = described c.args.desc.now in
    let a = g.V.View.answers c.args.view.now in
    let now = g.V.View.answers c.turns.view in
    let m = machine_of c.turns.state in
    let at : slice_get c.args.tool.now m.place ≡ Some c.in-Some.instr.now = sym c.in-Some.ensures.at in
    let turns = subst (λ (o : Option End). Turns (turn d now m c.in-Some.instr.now) (machine_of c.take_turn.new.state) c.turns.accesses.items c.take_turn.new.accesses.items o)
    c.in-Some-2.is c.in_ok-end.ensures.turn in
    subst (λ (r : Run). IfOk c.finished-in-Some-2.result (λ ran. seen ran ≡ r))
    (ends_there d a now c.args.tool.now c.turns.left m (machine_of c.take_turn.new.state) c.in-Some.instr.now c.turns.accesses.items c.take_turn.new.accesses.items
    (c.args.desc.now.budget - c.turns.left) (c.args.desc.now.budget - (c.turns.left - 1)) (run_of d a) c.in-Some-2.end
    c.turns.invariant.same at (omega arith) turns (omega arith) c.turns.invariant.comes)
    c.finished-in-Some-2.ensures

pub turns-preserved : goal.turns-preserved
turns-preserved g c =
    let d = described c.args.desc.now in
    let a = g.V.View.answers c.args.view.now in
    let now = g.V.View.answers c.turns.view in
    let m = machine_of c.turns.state in
    let at : slice_get c.args.tool.now m.place ≡ Some c.in-Some.instr.now = sym c.in-Some.ensures.at in
    let turns = subst (λ (o : Option End). Turns (turn d now m c.in-Some.instr.now) (machine_of c.take_turn.new.state) c.turns.accesses.items c.take_turn.new.accesses.items o)
    c.in_default-2.is c.in_ok-end.ensures.turn in
    record {
      within = omega arith;
      same = c.in_ok-end.ensures.same ∙ c.turns.invariant.same;
      comes = goes_on d a now c.args.tool.now c.turns.left m (machine_of c.take_turn.new.state) c.in-Some.instr.now c.turns.accesses.items c.take_turn.new.accesses.items
          (c.args.desc.now.budget - c.turns.left) (c.args.desc.now.budget - (c.turns.left - 1)) (run_of d a)
          c.turns.invariant.same at (omega arith) turns (omega arith) c.turns.invariant.comes;
    }

pub returns-clause-ran : goal.returns-clause-ran
returns-clause-ran g c =
    let d = described c.args.desc.now in
    let a = g.V.View.answers c.args.view.now in
    let m = machine_of c.turns.state in
    let at : slice_get c.args.tool.now m.place ≡ None = sym c.in_default.ensures.at in
    subst (λ (r : Run). IfOk c.finished-2.result (λ ran. seen ran ≡ r))
    (ap (run_after c.turns.accesses.items (c.args.desc.now.budget - c.turns.left)) (sym (over d a c.args.tool.now c.turns.left m at)) ∙ c.turns.invariant.comes)
    c.finished-2.ensures
