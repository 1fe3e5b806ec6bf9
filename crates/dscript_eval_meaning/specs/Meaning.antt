-- What a program means: its pips, or the first fault.
use Rattle.std.specs.Prelude.{ℕ, zero, suc, ◌+◌, List, [], ◌∷◌, Option, Some, None, Result, Ok, Err}
use Rattle.bx_tree.specs.Paths.{Atoms}
use Rattle.bx_tree.specs.Trees.{Files}
use Rattle.pip_model_types.specs.declared.pip.Pip.{Pip}
use Rattle.dscript_value.specs.declared.parts.Callee.TheVariants as callees
use Rattle.dscript_value.specs.Plain.{Plain}
use Rattle.dscript_program.specs.ProgramData as declared
use Rattle.dscript_program.specs.ProgramData.{DeclData, FileData, FunctionData, KindData, ProgramData}
use Rattle.dscript_sdk_calls.specs.Sources.{Answers, tree_answers}
use Rattle.dscript_sdk_calls.specs.declared.tree_ask.TreeAsk.{TreeAsk}
use Rattle.dscript_sdk_pips.specs.States.{no_calls}
use Rattle.dscript_eval_meaning.specs.declared.fault.EvalKind.{EvalKind}
use Rattle.dscript_eval_meaning.specs.declared.fault.EvalKind.TheVariants as kinds
use Rattle.dscript_eval_meaning.specs.declared.limits.TheConstants.{MAX_OPEN_CALLS}
use Rattle.dscript_eval_meaning.specs.Acts.{Act, Acts, Call, Demand}
use Rattle.dscript_eval_meaning.specs.Calls.{ambient, held_method}
use Rattle.dscript_eval_meaning.specs.Constants.{all_waiting, constant, mark}
use Rattle.dscript_eval_meaning.specs.Evaluating.{Gives, Stop, Fault, TooMany, fails, gives, ◌>>=◌, ◌>>◌}
use Rattle.dscript_eval_meaning.specs.Expressions.{value}
use Rattle.dscript_eval_meaning.specs.Frames.{constant_frame, function_frame, within}
use Rattle.dscript_eval_meaning.specs.Lookups.{declared_at, function_at, path_at}
use Rattle.dscript_eval_meaning.specs.States.{State, Running, Done}
use Rattle.dscript_eval_meaning.specs.Statements.{body_value}

-- the body of a function, in a frame of its own
abbrev pub function_call : ProgramData → Acts → Option FunctionData → List Plain → List Plain → Gives Plain
function_call p act None held args = fails kinds.Kind
function_call p act (Some f) held args = within (function_frame f held args) (body_value p act f.body)

-- the expression of a constant, which is being evaluated until it has its value
abbrev pub demanded : ProgramData → Acts → ℕ → ℕ → Option KindData → Gives Plain
demanded p act file decl (Some (declared.Const t e)) =
    mark file decl Running >> within (constant_frame file) (value p act e) >>= λ x.
    mark file decl (Done x) >> gives x
demanded p act file decl _ = fails kinds.Kind

-- an opened call, in which further calls are opened so
abbrev pub opened : ProgramData → Acts → Act → Gives Plain
opened p act (Call (callees.Place number) held args) = function_call p act (function_at p number) held args
opened p act (Call (callees.Ambient name) held args) = ambient p name args
opened p act (Call (callees.Member name) held args) = held_method act held name args
opened p act (Demand file decl) = demanded p act file decl (declared_at p file decl)

-- Calls, where this number of further calls may be open. Where none may, the fault is in the file of the
-- body that calls; the step of a call and its arguments come before.
unfoldable pub acts : ProgramData → ℕ → Acts
acts p zero a = fails kinds.Depth
acts p (suc more) a = opened p (acts p more) a

abbrev pub demand : Acts → ℕ → ℕ → KindData → Gives (Unit {0})
demand act file decl (declared.Const t e) = constant act file decl >>= λ x. gives tt
demand act file decl _ = gives tt

-- the constants among these declarations, of which the first has this number, in the order of the text
abbrev pub demand_decls : Acts → ℕ → ℕ → List DeclData → Gives (Unit {0})
demand_decls act file decl [] = gives tt
demand_decls act file decl (d ∷ ds) = demand act file decl d.kind >> demand_decls act file (decl + 1) ds

-- the constants of these files, of which the first has this number
abbrev pub demand_files : Acts → ℕ → List FileData → Gives (Unit {0})
demand_files act file [] = gives tt
demand_files act file (f ∷ fs) = demand_decls act file 0 f.decls >> demand_files act (file + 1) fs

-- before the first step
abbrev pub start : ProgramData → Answers → ℕ → State
start p answers budget = record {
  left = budget;
  frame = constant_frame 0;
  constants = all_waiting p;
  calls = no_calls answers;
}

-- All constants are demanded, by the path of their file, which is the order of the files of a program, and
-- in a file in the order of the text.
unfoldable pub evaluated : ProgramData → Answers → ℕ → Result (Unit {0} × State) Stop
evaluated p answers budget = demand_files (acts p MAX_OPEN_CALLS) 0 p.files (start p answers budget)

-- why a program gives no pips: a fault with the path of its file, or more pips than can be numbered
pub data Refusal : Type 0 where
  Refused : EvalKind → Atoms → Option (List ℕ) → Refusal
  Unnumbered : Refusal

abbrev pub refusal_of : ProgramData → Stop → Refusal
refusal_of p (Fault kind file message) = Refused kind (path_at p file) message
refusal_of p TooMany = Unnumbered

-- ## The meaning over any answers

-- the pips of a program, and its asks of the source tree in order
abbrev pub Made : Type 0
Made = List Pip × List TreeAsk

abbrev pub made_or_refusal : ProgramData → Result (Unit {0} × State) Stop → Result Made Refusal
made_or_refusal p (Ok end) = Ok (end.1.calls.pips, end.1.calls.asks)
made_or_refusal p (Err stop) = Err (refusal_of p stop)

-- The meaning of a program within a budget of steps, whose asks of the source tree are answered so, by any
-- function from asks to paths: its pips and its asks, or the first fault.
unfoldable pub answered_meaning : ProgramData → Answers → ℕ → Result Made Refusal
answered_meaning p answers budget = made_or_refusal p (evaluated p answers budget)

-- ## The meaning over source files

abbrev pub pips_or_refusal : ProgramData → Result (Unit {0} × State) Stop → Result (List Pip) Refusal
pips_or_refusal p (Ok end) = Ok end.1.calls.pips
pips_or_refusal p (Err stop) = Err (refusal_of p stop)

-- the meaning of a program over source files within a budget of steps
unfoldable pub meaning : ProgramData → Files → ℕ → Result (List Pip) Refusal
meaning p sources budget = pips_or_refusal p (evaluated p (tree_answers sources) budget)

-- the pips of an answer, without the asks
abbrev pub pips_of : Result Made Refusal → Result (List Pip) Refusal
pips_of (Ok made) = Ok made.0
pips_of (Err refusal) = Err refusal
