use Rattle.std.proofs.Common.{ap, option_map, ◌∙◌}
use Rattle.dscript_program.specs.BoundTree as tree
use Rattle.dscript_program.specs.BoundTree.{no_stmt, to_stmt}
use Rattle.dscript_program.specs.Views.{expr_data, stmt_data}
use Rattle.dscript_program.proofs.NodeViews.{stmt_data-Assign, stmt_data-Const, stmt_data-If}
use Rattle.dscript_eval.proofs.StmtsNow.{passes_as}
use Rattle.dscript_eval.proofs.statements_now.statement_at_once.Goals as goal

pub returns-in-Const-clause-given : goal.returns-in-Const-clause-given
returns-in-Const-clause-given c holds =
    passes_as _ _ _ _ (ap stmt_data c.in-Const.is ∙ stmt_data-Const _ _ _) (c.bound_at_once.ensures.given holds)

pub returns-in-Assign-clause-given : goal.returns-in-Assign-clause-given
returns-in-Assign-clause-given c holds =
    passes_as _ _ _ _ (ap stmt_data c.in-Assign.is ∙ stmt_data-Assign _ _) (c.bound_at_once-in-Assign.ensures.given holds)

pub returns-in-None-clause-given : goal.returns-in-None-clause-given
returns-in-None-clause-given c holds =
    let e = expr_data c.in-If.condition in
    let m = stmt_data c.in-If.field-1.value in
    passes_as _ _ _ (tree.If e m no_stmt)
    (ap stmt_data c.in-If.is ∙ stmt_data-If _ _ _
    ∙ ap (λ o. tree.If e m (to_stmt (option_map (λ b. stmt_data b.value) o))) c.in-None.is)
    (c.untaken_at_once.ensures.given holds m)
