use Rattle.std.proofs.Common.{map, refl}
use Rattle.dscript_program.specs.BoundTree.{to_exprs, to_parts}
use Rattle.dscript_program.specs.Views.{expr_data, part_data}
use Rattle.dscript_eval_frames.specs.Forms.{acts_at, method_form}
use Rattle.dscript_eval_frames.specs.Views.{View, seen}
use Rattle.dscript_eval_frames.proofs.Kept.{spent_then, unspent_first}
use Rattle.dscript_eval.proofs.parts.before_method.Goals as goal

pub returns-in-Ok : goal.returns-in-Ok
returns-in-Ok c =
    let args = to_exprs (map expr_data c.args.args.now) in
    let rest = to_parts (map part_data c.args.others.now) in
    spent_then _ 1 (λ (z : View). method_form z.program (acts_at z) z.given c.args.name.now args rest)
    (seen c.args.machine.now) _ _ c.in-Ok.ensures refl c.before_method_call.ensures

pub returns-in-Err : goal.returns-in-Err
returns-in-Err c =
    let v = seen c.args.machine.now in
    let args = to_exprs (map expr_data c.args.args.now) in
    let rest = to_parts (map part_data c.args.others.now) in
    unspent_first 1 (method_form v.program (acts_at v) v.given c.args.name.now args rest) v _ c.in-Err.ensures
