use Rattle.dscript_eval_frames.specs.Views.{seen}
use Rattle.dscript_program.specs.BoundTree.{to_parts}
use Rattle.dscript_program.specs.Views.{part_data}
use Rattle.std.proofs.Common.{map, refl, sym, subst}
use Rattle.dscript_eval_frames.specs.Forms.{acts_at, part_form}
use Rattle.dscript_eval_frames.specs.Keeps.{StopsWith}
use Rattle.dscript_eval_frames.specs.Views.{View}
use Rattle.dscript_eval_frames.specs.Works.{Answer}
use Rattle.dscript_eval_frames.proofs.Kept.{keeps_at, spent_then, unspent_first}
use Rattle.dscript_eval.proofs.PartMoves.{after_end, after_move}
use Rattle.dscript_eval.proofs.parts.after.Goals as goal

pub returns-in_default : goal.returns-in_default
returns-in_default c = after_end (seen c.args.machine.now) c.args.parts c.in_default.ensures.cases

pub returns-in-Ok : goal.returns-in-Ok
returns-in-Ok c =
    let v = seen c.args.machine.now in
    let rest = to_parts (map part_data c.in-Some.others.now) in
    keeps_at _ _ _ _ (after_move v c.args.parts c.in-Some.others c.in-Some.first.now c.in-Some.ensures.cases.0)
    (spent_then _ 1 (λ (z : View). part_form z.program (acts_at z) z.given (part_data c.in-Some.first.now) rest) v _ _
    c.in-Ok.ensures refl c.part.ensures)

pub returns-in-Err : goal.returns-in-Err
returns-in-Err c =
    let v = seen c.args.machine.now in
    let rest = to_parts (map part_data c.in-Some.others.now) in
    let P : Answer → Type 0 = λ a. StopsWith c.in-Err.stop a in
    subst P (sym (after_move v c.args.parts c.in-Some.others c.in-Some.first.now c.in-Some.ensures.cases.0))
    (unspent_first 1 (part_form v.program (acts_at v) v.given (part_data c.in-Some.first.now) rest) v _ c.in-Err.ensures)
