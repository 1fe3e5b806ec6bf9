use Rattle.std.proofs.Common.{length, sym, ◌∙◌}
use Rattle.std.proofs.lemmas.Bool.{eqb-true}
use Rattle.dscript_eval_frames.specs.Views.{seen}
use Rattle.dscript_eval_frames.proofs.Kept.{keeps_at, memory_stops}
use Rattle.dscript_eval.proofs.PartMoves.{member_alone, member_then}
use Rattle.dscript_eval.proofs.parts.member_value.Goals as goal

pub returns-then-is_empty : goal.returns-then-is_empty
returns-then-is_empty c h =
    keeps_at _ _ _ _
    (member_alone (seen c.args.machine.now) c.args.name c.args.parts h
    (eqb-true (length c.args.parts.now) 0 (sym c.is_empty.ensures ∙ c.if-is_empty.true)))
    c.member_last.ensures

pub returns-in-Ok : goal.returns-in-Ok
returns-in-Ok c h =
    keeps_at _ _ _ _ (member_then (seen c.args.machine.now) _ c.args.name c.args.parts h c.in-Ok.ensures)
    c.member_last-in-Ok.ensures

pub returns-in-Err : goal.returns-in-Err
returns-in-Err c h = memory_stops _ _ c.in-Err.ensures
