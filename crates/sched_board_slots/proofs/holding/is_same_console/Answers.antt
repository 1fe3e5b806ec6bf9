use Rattle.std.proofs.Common.{sym, ◌∙◌}
use Rattle.sched_board_slots.proofs.Tests.{console_none}
use Rattle.sched_board_slots.proofs.holding.is_same_console.Goals as goal

pub returns-in-Some : goal.returns-in-Some
returns-in-Some c = (λ e. c.is_console.ensures.0 e ∙ sym c.in-Some.is, λ same. c.is_console.ensures.1 (same ∙ c.in-Some.is))

pub returns-in-None : goal.returns-in-None
returns-in-None c = console_none c.args.a.now c.args.b.now c.is_none.result c.is_none.ensures c.in-None.is
