use Rattle.std.proofs.Common.{ap, subst, sym, ◌∙◌}
use Rattle.dscript_eval_frames.specs.Keeps.{StopsWith}
use Rattle.dscript_eval_frames.specs.Views.{View}
use Rattle.dscript_eval_frames.specs.Works.{Answer, comes}
use Rattle.dscript_eval.proofs.running.run.Goals as goal

pub turns-preserved : goal.turns-preserved
turns-preserved c = c.turns.invariant ∙ ap comes c.in-Some.ensures ∙ c.in-Ok.ensures

pub returns-in-Err-clause-kept : goal.returns-in-Err-clause-kept
returns-in-Err-clause-kept c =
    let P : Answer → Type 0 = λ a. StopsWith c.in-Err.stop a in
    subst P (sym (c.turns.invariant ∙ ap comes c.in-Some.ensures)) c.in-Err.ensures

pub returns-in-None-clause-kept : goal.returns-in-None-clause-kept
returns-in-None-clause-kept c = c.turns.invariant ∙ ap comes (sym c.in-None.ensures.1)

pub returns-in-None-clause-done : goal.returns-in-None-clause-done
returns-in-None-clause-done c = ap (λ (v : View). v.work) c.in-None.ensures.1 ∙ c.in-None.ensures.0
