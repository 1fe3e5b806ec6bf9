use Rattle.std.proofs.Common.{drop, refl}
use Rattle.dscript_program.specs.Views.{stmt_data}
use Rattle.dscript_value.specs.Plain.{item_list, plain_of, plain_values}
use Rattle.dscript_eval_frames.specs.Forms.{acts_at, turn_form}
use Rattle.dscript_eval_frames.specs.Views.{View, seen}
use Rattle.dscript_eval_frames.proofs.Kept.{spent_goes, unspent_goes}
use Rattle.dscript_eval.proofs.statements.turn_of.Goals as goal

pub returns-in-Ok : goal.returns-in-Ok
returns-in-Ok c =
    let others = drop c.args.next (item_list (plain_values c.args.items).items) in
    spent_goes _ 1
    (λ (z : View). turn_form z.program (acts_at z) c.args.local (stmt_data c.args.body.now) (plain_of c.args.item) others)
    (seen c.args.machine.now) _ _ c.in-Ok.ensures refl c.turn_with.ensures

pub returns-in-Err : goal.returns-in-Err
returns-in-Err c =
    let v = seen c.args.machine.now in
    let others = drop c.args.next (item_list (plain_values c.args.items).items) in
    unspent_goes 1
    (turn_form v.program (acts_at v) c.args.local (stmt_data c.args.body.now) (plain_of c.args.item) others) v _ c.in-Err.ensures
