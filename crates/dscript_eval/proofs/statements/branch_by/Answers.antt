use Rattle.dscript_eval_frames.specs.Views.{seen}
use Rattle.dscript_eval_frames.specs.declared.work.StmtWork.TheVariants as stmt
use Rattle.dscript_eval_frames.specs.declared.work.Work.TheVariants as works
use Rattle.dscript_eval_exprs.proofs.AtOnce.{now_then, unless_now}
use Rattle.dscript_eval.proofs.StmtMoves.{branch_move}
use Rattle.dscript_eval.proofs.statements.branch_by.Goals as goal

pub returns-then-at_once : goal.returns-then-at_once
returns-then-at_once c =
    now_then _ (seen c.args.machine.now) _ _ c.args.condition (works.Stmt (stmt.Branch c.args.then c.args.other)) _
    (branch_move (seen c.args.machine.now) c.args.condition c.args.then c.args.other) (c.at_once.ensures.given c.if-at_once.true) c.branch-machine.ensures

pub returns : goal.returns
returns c =
    unless_now _ (seen c.args.machine.now) _ _ c.args.condition (works.Stmt (stmt.Branch c.args.then c.args.other)) _
    (branch_move (seen c.args.machine.now) c.args.condition c.args.then c.args.other) (c.at_once.ensures.none c.if-at_once.false) c.push_two.ensures
