-- The flags are those of the pips that may start.
use Rattle.std.proofs.Common.{ap, ◌∙◌}
use Rattle.sched_core.proofs.CoreSteps.{none_least, some_least, starts_are}
use Rattle.sched_core.specs.Sets.{flag_at}
use Rattle.sched_core.specs.Table.{CoreState, may_start}
use Rattle.sched_core.proofs.machine.Core.least_start.Goals as goal

pub returns-clause-some : goal.returns-clause-some
returns-clause-some c =
    let ready = c.self.inside.ready in
    let s : CoreState = record { nodes = c.self.inside.graph; states = c.self.inside.states.items; left = c.self.inside.left.items } in
    some_least (flag_at ready.starts) (may_start c.args.self.now) c.least_start.result c.as_pip.result c.as_pip.ensures
    (λ p. starts_are s c.self.inside.dependents.items ready c.self.inside.seats.items c.self.invariant p ∙ ap (λ (v : CoreState). may_start v p) c.self.view_is)
    c.least_start.ensures.some

pub returns-clause-none : goal.returns-clause-none
returns-clause-none c =
    let ready = c.self.inside.ready in
    let s : CoreState = record { nodes = c.self.inside.graph; states = c.self.inside.states.items; left = c.self.inside.left.items } in
    none_least (flag_at ready.starts) (may_start c.args.self.now) c.least_start.result c.as_pip.result c.as_pip.ensures
    (λ p. starts_are s c.self.inside.dependents.items ready c.self.inside.seats.items c.self.invariant p ∙ ap (λ (v : CoreState). may_start v p) c.self.view_is)
    c.least_start.ensures.none
