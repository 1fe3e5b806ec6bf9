-- What the laws of evaluation speak of.
use Rattle.std.specs.Prelude.{◌≡◌, ℕ, ◌≤◌, ◌<◌, None, Result, Err}
use Rattle.bx_tree.specs.Paths.{Atoms}
use Rattle.dscript_value.specs.Plain.{Plain}
use Rattle.dscript_program.specs.ProgramData.{ProgramData}
use Rattle.dscript_sdk_calls.specs.Sources.{Answers}
use Rattle.dscript_eval_meaning.specs.declared.fault.EvalKind.TheVariants as kinds
use Rattle.dscript_eval_meaning.specs.Evaluating.{Fault, Stop}
use Rattle.dscript_eval_meaning.specs.Meaning.{Made, Refusal, Refused, answered_meaning}
use Rattle.dscript_eval_meaning.specs.States.{State}

-- the pips and the asks of a program, or why it has none
abbrev pub Answer : Type 0
Answer = Result Made Refusal

-- a step is due after the last of the budget
abbrev pub IsOutOfSteps : Answer → Type 0
IsOutOfSteps answer = (file : Atoms) × (answer ≡ Err (Refused kinds.Budget file None))

-- A program has an answer other than a want of steps, and takes a number of steps: with each budget from that
-- number on it has this answer, and with each smaller one it is out of steps.
pub record TakesSteps (p : ProgramData) (answers : Answers) : Type 0 where
  pub answer : Answer
  pub steps : ℕ
  pub other : IsOutOfSteps answer → ⊥
  pub enough : (budget : ℕ) → steps ≤ budget → answered_meaning p answers budget ≡ answer
  pub short : (budget : ℕ) → budget < steps → IsOutOfSteps (answered_meaning p answers budget)

-- a call is due where no more calls may be open
abbrev pub IsTooDeep : Result (Plain × State) Stop → Type 0
IsTooDeep answer = (file : ℕ) × (answer ≡ Err (Fault kinds.Depth file None))
