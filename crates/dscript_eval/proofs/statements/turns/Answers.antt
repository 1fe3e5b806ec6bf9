use Rattle.std.proofs.Common.{subst}
use Rattle.dscript_value.specs.Plain.{item_list, plain_of, plain_values}
use Rattle.dscript_eval_frames.specs.ItemsFrom.{IsItemFrom}
use Rattle.dscript_eval_frames.specs.Views.{seen}
use Rattle.dscript_eval_frames.proofs.Kept.{keeps_at}
use Rattle.dscript_eval.proofs.StmtMoves.{turn_first, turns_end}
use Rattle.dscript_eval.proofs.statements.turns.Goals as goal

pub returns-in-Some : goal.returns-in-Some
returns-in-Some c =
    let at = subst (IsItemFrom (item_list (plain_values c.args.items).items) c.args.next) c.in-Some.is c.in_ok-found.ensures in
    keeps_at _ _ _ _
    (turn_first (seen c.args.machine.now) c.args.local c.args.body c.args.items c.args.next c.in-Some.following
    (plain_of c.in-Some.item) at.1)
    c.turn_of.ensures

pub returns-in-None : goal.returns-in-None
returns-in-None c =
    let at = subst (IsItemFrom (item_list (plain_values c.args.items).items) c.args.next) c.in-None.is c.in_ok-found.ensures in
    keeps_at _ _ _ _ (turns_end (seen c.args.machine.now) c.args.local c.args.body c.args.items c.args.next at) c.forget.ensures
