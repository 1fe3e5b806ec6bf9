-- Nobody holds a pip where the seats of all workers are empty.
use Rattle.std.proofs.Common.{◌∙◌, ap, is_none}
use Rattle.std.specs.List.{list_all}
use Rattle.sched_core.proofs.Seats.{idle_by_seats}
use Rattle.sched_core.specs.Table.{CoreState, is_idle}
use Rattle.sched_core.proofs.machine.Core.is_idle.Goals as goal

pub returns : goal.returns
returns c =
    c.are_free.ensures ∙ ap (λ seats. list_all (λ seat. is_none seat) seats) c.as_slice.ensures.value
    ∙ idle_by_seats c.self.inside.states.items c.self.inside.seats.items c.self.invariant.are_seats
    ∙ ap (λ (s : CoreState). is_idle s.states) c.self.view_is
