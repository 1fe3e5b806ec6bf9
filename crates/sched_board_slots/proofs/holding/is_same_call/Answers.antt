use Rattle.std.proofs.Common.{sym, ◌∙◌}
use Rattle.sched_board_slots.proofs.Tests.{refuted}
use Rattle.sched_board_slots.proofs.holding.is_same_call.Goals as goal

pub returns-then-not-is_same_path : goal.returns-then-not-is_same_path
returns-then-not-is_same_path c = refuted _ _ c.is_same_path.result c.if-not-is_same_path.true c.is_same_path.ensures (λ same. same.exe)

pub returns-then-not-are_same_texts : goal.returns-then-not-are_same_texts
returns-then-not-are_same_texts c =
    refuted _ _ c.are_same_texts.result c.if-not-are_same_texts.true c.are_same_texts.ensures
    (λ same. c.texts.ensures ∙ same.args ∙ sym c.texts-2.ensures)

pub returns-then-not-are_same_variables : goal.returns-then-not-are_same_variables
returns-then-not-are_same_variables c =
    refuted _ _ c.are_same_variables.result c.if-not-are_same_variables.true c.are_same_variables.ensures
    (λ same. c.pairs.ensures.pairs ∙ same.env ∙ sym c.pairs-2.ensures.pairs)

pub returns : goal.returns
returns c = (
  λ e. record {
    exe = c.is_same_path.ensures.0 c.if-not-is_same_path.false;
    args = sym c.texts.ensures ∙ c.are_same_texts.ensures.0 c.if-not-are_same_texts.false ∙ c.texts-2.ensures;
    env = sym c.pairs.ensures.pairs ∙ c.are_same_variables.ensures.0 c.if-not-are_same_variables.false ∙ c.pairs-2.ensures.pairs;
    dir = c.is_same_path-2.ensures.0 e;
  },
  λ same. c.is_same_path-2.ensures.1 same.dir,
)
