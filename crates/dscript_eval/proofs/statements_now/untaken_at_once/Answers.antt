use Rattle.std.proofs.Common.{refl, sym, ◌∙◌}
use Rattle.dscript_program.specs.Views.{expr_data}
use Rattle.dscript_eval_frames.specs.Views.{seen}
use Rattle.dscript_eval.proofs.StmtsNow.{untaken_passes}
use Rattle.dscript_eval.proofs.statements_now.untaken_at_once.Goals as goal

pub returns-else-holds-clause-given : goal.returns-else-holds-clause-given
returns-else-holds-clause-given c holds = λ m.
    untaken_passes (seen c.args.machine.now) _ (expr_data c.args.condition.now) m _ _ _ _ c.in-Some.ensures.0
    c.in-Some.ensures.1 c.in-Some-value_now.ensures (sym c.is_true-holds.ensures ∙ c.if-holds.false) c.of-known.ensures refl
