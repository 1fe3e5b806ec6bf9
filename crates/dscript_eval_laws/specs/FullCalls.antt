-- Evaluation in which something else is done where a function is called with more or fewer values than it captures.
use Rattle.std.specs.Prelude.{◌≡◌, ℕ, zero, suc, ◌==◌, Bool, true, if◌then◌else◌, List, [], length, Option, Some, Result}
use Rattle.bx_tree.specs.Trees.{Files}
use Rattle.pip_model_types.specs.declared.pip.Pip.{Pip}
use Rattle.dscript_sdk_calls.specs.Sources.{tree_answers}
use Rattle.dscript_value.specs.declared.parts.Callee.TheVariants as callees
use Rattle.dscript_program.specs.ProgramData as declared
use Rattle.dscript_program.specs.ProgramData.{KindData, ProgramData}
use Rattle.dscript_eval_meaning.specs.declared.fault.EvalKind.TheVariants as kinds
use Rattle.dscript_eval_meaning.specs.declared.limits.TheConstants.{MAX_OPEN_CALLS}
use Rattle.dscript_eval_meaning.specs.Acts.{Act, Acts, Call}
use Rattle.dscript_eval_meaning.specs.Evaluating.{fails}
use Rattle.dscript_eval_meaning.specs.Expressions.{captured_of}
use Rattle.dscript_eval_meaning.specs.Lookups.{declared_at, function_at}
use Rattle.dscript_eval_meaning.specs.Meaning.{Refusal, demand_files, opened, pips_or_refusal, start}

-- how many locals the function with this number captures
abbrev pub capture_count : ProgramData → ℕ → ℕ
capture_count p number = length (captured_of (function_at p number))

-- whether what is opened is no call of a function with a body, or one with as many values as the function captures
abbrev pub is_full : ProgramData → Act → Bool
is_full p (Call (callees.Place number) held args) = length held == capture_count p number
is_full p _ = true

-- calls as they are evaluated, but for those that are not full
unfoldable pub acts_or : ProgramData → Acts → ℕ → Acts
acts_or p otherwise zero a = fails kinds.Depth
acts_or p otherwise (suc more) a = if is_full p a then opened p (acts_or p otherwise more) a else otherwise a

-- the meaning of a program in which calls that are not full are evaluated otherwise
abbrev pub meaning_or : ProgramData → Acts → Files → ℕ → Result (List Pip) Refusal
meaning_or p otherwise sources budget =
    pips_or_refusal p (demand_files (acts_or p otherwise MAX_OPEN_CALLS) 0 p.files (start p (tree_answers sources) budget))

abbrev pub CapturesNothing : ProgramData → Option KindData → Type 0
CapturesNothing p (Some (declared.Function ts t number)) = captured_of (function_at p number) ≡ []
CapturesNothing p _ = Unit {0}

-- each declared function captures nothing, as in each program whose names are resolved
abbrev pub DeclaredCaptureNothing : ProgramData → Type 0
DeclaredCaptureNothing p = (file decl : ℕ) → CapturesNothing p (declared_at p file decl)
