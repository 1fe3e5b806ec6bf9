use Rattle.std.proofs.Common.{ℕ, List, Option, ap, subst, sym, ◌∙◌}
use Rattle.bx_tree.specs.Paths.{Atoms}
use Rattle.dscript_sdk_values.specs.Outcomes.{Outcome, Refuses}
use Rattle.dscript_eval_operators.specs.PathLiterals.{first_hole}
use Rattle.dscript_eval_frames.specs.Views.{seen}
use Rattle.dscript_eval_frames.proofs.Kept.{keeps_at}
use Rattle.dscript_eval_exprs.proofs.LiteralMoves.{first_hole_move}
use Rattle.dscript_eval_frames.proofs.Refused.{stops_first}
use Rattle.dscript_eval_exprs.proofs.literals.first_hole.Goals as goal

pub returns-in_ok-add_text-in-Ok : goal.returns-in_ok-add_text-in-Ok
returns-in_ok-add_text-in-Ok c =
    keeps_at _ _ _ _
    (first_hole_move (seen c.args.machine.now) c.args.letter c.args.text c.args.after c.args.others c.in-Ok.base _ c.add_text.new.bytes
    (ap (λ t. first_hole t (seen c.args.machine.now).given) (sym c.in_ok-bytes.ensures) ∙ c.in-Ok.ensures.adds) c.in_ok-add_text-in-Ok.ensures)
    c.other_holes.ensures

pub returns-in-Err : goal.returns-in-Err
returns-in-Err c =
    let v = seen c.args.machine.now in
    let P : Outcome (Option Atoms × List ℕ) → Type 0 = λ o. Refuses c.in-Err.fault o in
    stops_first _ _ c.in-Err.fault _ _ v.state c.stop_of.ensures
    (subst P (ap (λ t. first_hole t v.given) c.in_ok-bytes.ensures) c.in-Err.ensures.adds)
