-- Programs say what they may.
use Rattle.std.proofs.Common.{◌≡◌, ℕ, zero, suc, ◌+◌, List, [], ◌∷◌, Option, None, Some, Result, Ok}
use Rattle.std.proofs.Common.{Err, refl, sym, ◌∙◌}
use Rattle.bx_tree.specs.Paths.{Atoms}
use Rattle.dscript_eval_meaning.specs.declared.fault.EvalKind.{EvalKind}
use Rattle.bx_tree.specs.Trees.{Files}
use Rattle.dscript_sdk_calls.specs.Sources.{tree_answers}
use Rattle.dscript_value.specs.declared.parts.Callee.TheVariants as callees
use Rattle.dscript_value.specs.Plain.{Plain}
use Rattle.dscript_program.specs.ProgramData as kinds
use Rattle.dscript_program.specs.ProgramData.{DeclData, FileData, FunctionData, KindData, ProgramData}
use Rattle.dscript_eval_meaning.specs.declared.fault.EvalKind.TheVariants as faults
use Rattle.dscript_eval_meaning.specs.declared.limits.TheConstants.{MAX_OPEN_CALLS}
use Rattle.dscript_eval_meaning.specs.Acts.{Act, Acts, Call, Demand}
use Rattle.dscript_eval_meaning.specs.Constants.{mark, with_status}
use Rattle.dscript_eval_meaning.specs.Evaluating.{Stop, Fault, TooMany}
use Rattle.dscript_eval_meaning.specs.Lookups.{declared_at, function_at, path_at}
use Rattle.dscript_eval_meaning.specs.Meaning.{acts, demand, demand_decls, demand_files, demanded, evaluated}
use Rattle.dscript_eval_meaning.specs.Meaning.{Refused, function_call, meaning, opened, pips_or_refusal, start}
use Rattle.dscript_eval_meaning.specs.States.{State, Status, Running, Done}
use Rattle.dscript_eval_laws.proofs.Said.{IsSaid, Said, both, bound, failed, free, given, inside}
use Rattle.dscript_eval_laws.proofs.SaidForms.{ambient_said, body_said, constant_said}
use Rattle.dscript_eval_laws.proofs.SaidForms.{held_method_said, value_said}

mark_said : (file decl : ℕ) (status : Status) → Said (Unit {0}) (mark file decl status)
mark_said file decl status s =
    free (Unit {0}) (mark file decl status) s
    (Ok (tt, record s { constants = with_status s.constants file decl status })) tt (λ n. refl)

module _ (p : ProgramData) (act : Acts) (opens : (a : Act) → Said Plain (act a)) where
  function_said
      : (f : Option FunctionData) (held args : List Plain) → Said Plain (function_call p act f held args)
  function_said None held args = failed Plain faults.Kind tt
  function_said (Some f) held args = inside _ _ _ (body_said act opens p f.body)

  demanded_said
      : (file decl : ℕ) (kind : Option KindData) → Said Plain (demanded p act file decl kind)
  demanded_said file decl (Some (kinds.Const t e)) =
      both _ _ _ _ (mark_said file decl Running)
      (bound _ _ _ _ (inside _ _ _ (value_said act opens p e))
      (λ x. both _ _ _ _ (mark_said file decl (Done x)) (given _ x)))
  demanded_said file decl _ = failed Plain faults.Kind tt

  opened_said : (a : Act) → Said Plain (opened p act a)
  opened_said (Call (callees.Place number) held args) = function_said (function_at p number) held args
  opened_said (Call (callees.Ambient name) held args) = ambient_said p name args
  opened_said (Call (callees.Member name) held args) = held_method_said act opens held name args
  opened_said (Demand file decl) = demanded_said file decl (declared_at p file decl)

  demand_said
      : (file decl : ℕ) (kind : KindData) → Said (Unit {0}) (demand act file decl kind)
  demand_said file decl (kinds.Const t e) =
      bound _ _ _ _ (constant_said act opens file decl) (λ x. given _ tt)
  demand_said file decl _ = given _ tt

  decls_said
      : (file decl : ℕ) (ds : List DeclData) → Said (Unit {0}) (demand_decls act file decl ds)
  decls_said file decl [] = given _ tt
  decls_said file decl (d ∷ ds) =
      both _ _ _ _ (demand_said file decl d.kind) (decls_said file (decl + 1) ds)

  files_said : (file : ℕ) (fs : List FileData) → Said (Unit {0}) (demand_files act file fs)
  files_said file [] = given _ tt
  files_said file (f ∷ fs) =
      both _ _ _ _ (decls_said file 0 f.decls) (files_said (file + 1) fs)

acts_said : (p : ProgramData) (n : ℕ) (a : Act) → Said Plain (acts p n a)
unfolding acts
acts_said p zero a = failed Plain faults.Depth tt
acts_said p (suc n) a = opened_said p (acts p n) (acts_said p n) a

-- ## The law

said_refusal
    : (p : ProgramData) (outcome : Result (Unit {0} × State) Stop) → IsSaid outcome → (kind : EvalKind)
    (file : Atoms) (message : List ℕ) → pips_or_refusal p outcome ≡ Err (Refused kind file (Some message))
    → kind ≡ faults.User
said_refusal p (Ok end) said kind file message is = absurd cc
said_refusal p (Err (Fault k f None)) said kind file message is = absurd cc
said_refusal p (Err (Fault k f (Some m))) said kind file message is = let same : k ≡ kind = cc in sym same ∙ said
said_refusal p (Err TooMany) said kind file message is = absurd cc

pub user_says
    : (p : ProgramData) (sources : Files) (budget : ℕ) (kind : EvalKind) (file : Atoms) (message : List ℕ)
    → meaning p sources budget ≡ Err (Refused kind file (Some message)) → kind ≡ faults.User
unfolding meaning evaluated
user_says p sources budget kind file message is =
    said_refusal p (demand_files (acts p MAX_OPEN_CALLS) 0 p.files (start p (tree_answers sources) budget))
    ((files_said p (acts p MAX_OPEN_CALLS) (acts_said p MAX_OPEN_CALLS) 0 p.files (start p (tree_answers sources) budget)).says budget)
    kind file message is
