use Rattle.std.proofs.Common.{ap}
use Rattle.pip_model_types.specs.declared.args.EnvPair.{EnvPair}
use Rattle.sched_board_slots.proofs.Tests.{refuted, variable_is}
use Rattle.sched_board_slots.proofs.holding.is_same_variable.Goals as goal

pub returns-then-not-is_same_text : goal.returns-then-not-is_same_text
returns-then-not-is_same_text c =
    refuted _ _ c.is_same_text.result c.if-not-is_same_text.true c.is_same_text.ensures (λ same. ap (λ (v : EnvPair). v.name) same)

pub returns : goal.returns
returns c = (
  λ e. variable_is c.args.a.now c.args.b.now (c.is_same_text.ensures.0 c.if-not-is_same_text.false) (c.is_same_text-2.ensures.0 e),
  λ same. c.is_same_text-2.ensures.1 (ap (λ (v : EnvPair). v.value) same),
)
