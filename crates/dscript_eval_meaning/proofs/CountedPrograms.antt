-- Programs take a number of steps.
use Rattle.std.proofs.Common.{◌≡◌, ℕ, zero, suc, ◌+◌, ◌-◌, List, [], ◌∷◌, Option, None, Some, Result, Ok}
use Rattle.std.proofs.Common.{Err, refl}
use Rattle.std.proofs.Common.{ap, ◌∙◌, subst}
use Rattle.dscript_sdk_calls.specs.Sources.{Answers}
use Rattle.dscript_value.specs.declared.parts.Callee.TheVariants as callees
use Rattle.dscript_value.specs.Plain.{Plain}
use Rattle.dscript_program.specs.ProgramData as kinds
use Rattle.dscript_program.specs.ProgramData.{DeclData, FileData, FunctionData, KindData, ProgramData}
use Rattle.dscript_eval_meaning.specs.declared.fault.EvalKind.TheVariants as faults
use Rattle.dscript_eval_meaning.specs.declared.limits.TheConstants.{MAX_OPEN_CALLS}
use Rattle.dscript_eval_meaning.specs.Acts.{Act, Acts, Call, Demand}
use Rattle.dscript_eval_meaning.specs.Constants.{mark, with_status}
use Rattle.dscript_eval_meaning.specs.Evaluating.{Stop, Fault, TooMany}
use Rattle.dscript_eval_meaning.specs.Lookups.{declared_at, function_at, path_at}
use Rattle.dscript_eval_meaning.specs.Meaning.{acts, demand, demand_decls, demand_files, demanded, evaluated}
use Rattle.dscript_eval_meaning.specs.Meaning.{function_call, answered_meaning, opened, made_or_refusal, start}
use Rattle.dscript_eval_meaning.specs.States.{State, Status, Running, Done}
use Rattle.dscript_eval_meaning.specs.Laws.{IsOutOfSteps, TakesSteps}
use Rattle.dscript_eval_meaning.proofs.Counted.{Counted, IsOther, IsOtherKind, Runs, both, bound, failed, free, given}
use Rattle.dscript_eval_meaning.proofs.Counted.{inside, left_over}
use Rattle.dscript_eval_meaning.proofs.CountedForms.{ambient_counted, body_counted, constant_counted}
use Rattle.dscript_eval_meaning.proofs.CountedForms.{held_method_counted, value_counted}

mark_counted : (file decl : ℕ) (status : Status) → Counted (Unit {0}) (mark file decl status)
mark_counted file decl status s =
    free (Unit {0}) (mark file decl status) s
    (Ok (tt, record s { constants = with_status s.constants file decl status })) tt (λ n. refl)

module _ (p : ProgramData) (act : Acts) (opens : (a : Act) → Counted Plain (act a)) where
  function_counted
      : (f : Option FunctionData) (held args : List Plain) → Counted Plain (function_call p act f held args)
  function_counted None held args = failed Plain faults.Kind tt
  function_counted (Some f) held args = inside _ _ _ (body_counted act opens p f.body)

  demanded_counted
      : (file decl : ℕ) (kind : Option KindData) → Counted Plain (demanded p act file decl kind)
  demanded_counted file decl (Some (kinds.Const t e)) =
      both _ _ _ _ (mark_counted file decl Running)
      (bound _ _ _ _ (inside _ _ _ (value_counted act opens p e))
      (λ x. both _ _ _ _ (mark_counted file decl (Done x)) (given _ x)))
  demanded_counted file decl _ = failed Plain faults.Kind tt

  opened_counted : (a : Act) → Counted Plain (opened p act a)
  opened_counted (Call (callees.Place number) held args) = function_counted (function_at p number) held args
  opened_counted (Call (callees.Ambient name) held args) = ambient_counted p name args
  opened_counted (Call (callees.Member name) held args) = held_method_counted act opens held name args
  opened_counted (Demand file decl) = demanded_counted file decl (declared_at p file decl)

  demand_counted
      : (file decl : ℕ) (kind : KindData) → Counted (Unit {0}) (demand act file decl kind)
  demand_counted file decl (kinds.Const t e) =
      bound _ _ _ _ (constant_counted act opens file decl) (λ x. given _ tt)
  demand_counted file decl _ = given _ tt

  decls_counted
      : (file decl : ℕ) (ds : List DeclData) → Counted (Unit {0}) (demand_decls act file decl ds)
  decls_counted file decl [] = given _ tt
  decls_counted file decl (d ∷ ds) =
      both _ _ _ _ (demand_counted file decl d.kind) (decls_counted file (decl + 1) ds)

  files_counted : (file : ℕ) (fs : List FileData) → Counted (Unit {0}) (demand_files act file fs)
  files_counted file [] = given _ tt
  files_counted file (f ∷ fs) =
      both _ _ _ _ (decls_counted file 0 f.decls) (files_counted (file + 1) fs)

acts_counted : (p : ProgramData) (n : ℕ) (a : Act) → Counted Plain (acts p n a)
unfolding acts
acts_counted p zero a = failed Plain faults.Depth tt
acts_counted p (suc n) a = opened_counted p (acts p n) (acts_counted p n) a

-- ## The law

left_made
    : (p : ProgramData) (n : ℕ) (outcome : Result (Unit {0} × State) Stop)
    → made_or_refusal p (left_over n outcome) ≡ made_or_refusal p outcome
left_made p n (Ok end) = refl
left_made p n (Err stop) = refl

other_answer
    : (p : ProgramData) (outcome : Result (Unit {0} × State) Stop) → IsOther outcome
    → IsOutOfSteps (made_or_refusal p outcome) → ⊥
other_answer p (Ok end) other (file, is) = cc
other_answer p (Err (Fault kind file message)) other (path, is) =
    let e : kind ≡ faults.Budget = cc in subst IsOtherKind e other
other_answer p (Err TooMany) other (file, is) = cc

by_run
    : (p : ProgramData) (answers : Answers)
    → Runs (Unit {0}) (demand_files (acts p MAX_OPEN_CALLS) 0 p.files) (start p answers 0)
    → TakesSteps p answers
unfolding answered_meaning evaluated
by_run p answers r = record {
  answer = made_or_refusal p r.outcome;
  steps = r.cost;
  other = other_answer p r.outcome r.other;
  enough = λ budget le. ap (made_or_refusal p) (r.enough budget le) ∙ left_made p (budget - r.cost) r.outcome;
  short = λ budget less.
      (path_at p (r.short budget less).0, ap (made_or_refusal p) (r.short budget less).1);
}

pub steps_taken : (p : ProgramData) (answers : Answers) → TakesSteps p answers
steps_taken p answers =
    by_run p answers
    (files_counted p (acts p MAX_OPEN_CALLS) (acts_counted p MAX_OPEN_CALLS) 0 p.files (start p answers 0))
