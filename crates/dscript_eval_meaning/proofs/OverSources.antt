-- The meaning over source files is that over their answers, without the asks.
use Rattle.std.proofs.Common.{◌≡◌, ℕ, Result, Ok, Err, refl}
use Rattle.bx_tree.specs.Trees.{Files}
use Rattle.dscript_program.specs.ProgramData.{ProgramData}
use Rattle.dscript_sdk_calls.specs.Sources.{tree_answers}
use Rattle.dscript_eval_meaning.specs.Evaluating.{Stop}
use Rattle.dscript_eval_meaning.specs.Meaning.{answered_meaning, evaluated, made_or_refusal, meaning, pips_of, pips_or_refusal}
use Rattle.dscript_eval_meaning.specs.States.{State}

without_asks
    : (p : ProgramData) (end : Result (Unit {0} × State) Stop) → pips_of (made_or_refusal p end) ≡ pips_or_refusal p end
without_asks p (Ok end) = refl
without_asks p (Err stop) = refl

pub over_sources
    : (p : ProgramData) (sources : Files) (budget : ℕ)
    → pips_of (answered_meaning p (tree_answers sources) budget) ≡ meaning p sources budget
unfolding answered_meaning meaning
over_sources p sources budget = without_asks p (evaluated p (tree_answers sources) budget)
