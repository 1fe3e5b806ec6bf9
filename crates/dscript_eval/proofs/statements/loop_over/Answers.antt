use Rattle.dscript_eval_frames.specs.Views.{seen}
use Rattle.dscript_eval_frames.specs.declared.work.StmtWork.TheVariants as stmt
use Rattle.dscript_eval_frames.specs.declared.work.Work.TheVariants as works
use Rattle.dscript_eval_exprs.proofs.AtOnce.{now_then, unless_now}
use Rattle.dscript_eval.proofs.StmtMoves.{loop_move}
use Rattle.dscript_eval.proofs.statements.loop_over.Goals as goal

pub returns-then-at_once : goal.returns-then-at_once
returns-then-at_once c = λ kind.
    now_then _ (seen c.args.machine.now) _ _ c.args.list (works.Stmt (stmt.Start c.args.local c.args.body)) _
    (loop_move (seen c.args.machine.now) kind c.args.local c.args.list c.args.body) (c.at_once.ensures.given c.if-at_once.true) c.start.ensures

pub returns : goal.returns
returns c = λ kind.
    unless_now _ (seen c.args.machine.now) _ _ c.args.list (works.Stmt (stmt.Start c.args.local c.args.body)) _
    (loop_move (seen c.args.machine.now) kind c.args.local c.args.list c.args.body) (c.at_once.ensures.none c.if-at_once.false) c.push_two.ensures
