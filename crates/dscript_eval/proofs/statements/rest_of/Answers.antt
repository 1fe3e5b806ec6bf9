use Rattle.std.proofs.Common.{ap, ◌∙◌}
use Rattle.dscript_program.specs.Views.{stmt_data}
use Rattle.dscript_program.proofs.NodeViews.{stmt_data-Assign, stmt_data-Block, stmt_data-Const, stmt_data-Empty, stmt_data-For}
use Rattle.dscript_program.proofs.NodeViews.{stmt_data-If, stmt_data-Let, stmt_data-Return, stmt_data-Value}
use Rattle.dscript_eval_frames.specs.Views.{seen}
use Rattle.dscript_eval.proofs.StmtRests.{block_from, for_from, if_from, stmt_as}
use Rattle.dscript_eval.proofs.statements.rest_of.Goals as goal

pub returns-in-Const : goal.returns-in-Const
returns-in-Const c =
    stmt_as _ (seen c.args.machine.now) _ _ _ (ap stmt_data c.in-Const.is ∙ stmt_data-Const _ _ _) c.bind_to.ensures

pub returns-in-Let : goal.returns-in-Let
returns-in-Let c =
    stmt_as _ (seen c.args.machine.now) _ _ _ (ap stmt_data c.in-Let.is ∙ stmt_data-Let _ _ _) c.let_local.ensures

pub returns-in-Assign : goal.returns-in-Assign
returns-in-Assign c =
    stmt_as _ (seen c.args.machine.now) _ _ _ (ap stmt_data c.in-Assign.is ∙ stmt_data-Assign _ _) c.bind_to-in-Assign.ensures

pub returns-in-If : goal.returns-in-If
returns-in-If c =
    stmt_as _ (seen c.args.machine.now) _ _ _
    (if_from _ c.in-If.condition c.in-If.then.value c.deref.result.now _ _
    (ap stmt_data c.in-If.is ∙ stmt_data-If c.in-If.condition c.in-If.then c.in-If.other) c.deref.ensures c.other_of.ensures)
    c.branch_by.ensures

pub returns-in-For : goal.returns-in-For
returns-in-For c =
    stmt_as _ (seen c.args.machine.now) _ _ _
    (for_from _ _ c.in-For.local c.in-For.list c.in-For.body.value c.deref-in-For.result.now
    (ap stmt_data c.in-For.is ∙ stmt_data-For _ c.in-For.local c.in-For.list c.in-For.body) c.deref-in-For.ensures)
    (c.loop_over.ensures c.in-For.field-0)

pub returns-in-Return : goal.returns-in-Return
returns-in-Return c =
    stmt_as _ (seen c.args.machine.now) _ _ _ (ap stmt_data c.in-Return.is ∙ stmt_data-Return _) c.return_from.ensures

pub returns-in-Value : goal.returns-in-Value
returns-in-Value c =
    stmt_as _ (seen c.args.machine.now) _ _ _ (ap stmt_data c.in-Value.is ∙ stmt_data-Value _) c.value_unused.ensures

pub returns-in-Block : goal.returns-in-Block
returns-in-Block c =
    stmt_as _ (seen c.args.machine.now) _ _ _
    (block_from _ c.in-Block.statements.items c.as_slice.result.now
    (ap stmt_data c.in-Block.is ∙ stmt_data-Block c.in-Block.statements) c.as_slice.ensures.value)
    c.all.ensures

pub returns-in-Empty : goal.returns-in-Empty
returns-in-Empty c =
    stmt_as _ (seen c.args.machine.now) _ _ _ (ap stmt_data c.in-Empty.is ∙ stmt_data-Empty) c.forget.ensures
