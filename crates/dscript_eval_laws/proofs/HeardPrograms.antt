-- Programs hear what they ask.
use Rattle.std.proofs.Common.{◌≡◌, ℕ, zero, suc, ◌+◌, List, [], ◌∷◌, Option, None, Some, Result, Ok}
use Rattle.std.proofs.Common.{Err, refl, sym, ap, subst, ◌∙◌}
use Rattle.pip_model_types.specs.declared.pip.Pip.{Pip}
use Rattle.dscript_sdk_calls.specs.Sources.{AgreeOn, Answers}
use Rattle.dscript_sdk_calls.specs.declared.tree_ask.TreeAsk.{TreeAsk}
use Rattle.dscript_value.specs.declared.parts.Callee.TheVariants as callees
use Rattle.dscript_value.specs.Plain.{Plain}
use Rattle.dscript_program.specs.ProgramData as kinds
use Rattle.dscript_program.specs.ProgramData.{DeclData, FileData, FunctionData, KindData, ProgramData}
use Rattle.dscript_eval_meaning.specs.declared.fault.EvalKind.TheVariants as faults
use Rattle.dscript_eval_meaning.specs.declared.limits.TheConstants.{MAX_OPEN_CALLS}
use Rattle.dscript_eval_meaning.specs.Acts.{Act, Acts, Call, Demand}
use Rattle.dscript_eval_meaning.specs.Constants.{mark, with_status}
use Rattle.dscript_eval_meaning.specs.Evaluating.{Stop}
use Rattle.dscript_eval_meaning.specs.Lookups.{declared_at, function_at}
use Rattle.dscript_eval_meaning.specs.Meaning.{Made, Refusal, acts, answered_meaning, demand, demand_decls, demand_files}
use Rattle.dscript_eval_meaning.specs.Meaning.{demanded, evaluated, function_call, made_or_refusal, opened, start}
use Rattle.dscript_eval_meaning.specs.States.{State, Status, Running, Done}
use Rattle.dscript_eval_laws.proofs.HeardCalls.{one_given}
use Rattle.dscript_eval_laws.proofs.Heard.{Heard, both as both_heard, bound, failed, free, given, inside}
use Rattle.dscript_eval_laws.proofs.HeardForms.{ambient_heard, body_heard, constant_heard}
use Rattle.dscript_eval_laws.proofs.HeardForms.{held_method_heard, value_heard}

mark_heard : (file decl : ℕ) (status : Status) → Heard (Unit {0}) (mark file decl status)
mark_heard file decl status s =
    free (Unit {0}) (mark file decl status) s
    (Ok (tt, record s { constants = with_status s.constants file decl status })) refl (λ n. refl)

module _ (p : ProgramData) (act : Acts) (opens : (a : Act) → Heard Plain (act a)) where
  function_heard
      : (f : Option FunctionData) (held args : List Plain) → Heard Plain (function_call p act f held args)
  function_heard None held args = failed Plain faults.Kind tt
  function_heard (Some f) held args = inside _ _ _ (body_heard act opens p f.body)

  demanded_heard
      : (file decl : ℕ) (kind : Option KindData) → Heard Plain (demanded p act file decl kind)
  demanded_heard file decl (Some (kinds.Const t e)) =
      both_heard _ _ _ _ (mark_heard file decl Running)
      (bound _ _ _ _ (inside _ _ _ (value_heard act opens p e))
      (λ x. both_heard _ _ _ _ (mark_heard file decl (Done x)) (given _ x)))
  demanded_heard file decl _ = failed Plain faults.Kind tt

  opened_heard : (a : Act) → Heard Plain (opened p act a)
  opened_heard (Call (callees.Place number) held args) = function_heard (function_at p number) held args
  opened_heard (Call (callees.Ambient name) held args) = ambient_heard p name args
  opened_heard (Call (callees.Member name) held args) = held_method_heard act opens held name args
  opened_heard (Demand file decl) = demanded_heard file decl (declared_at p file decl)

  demand_heard
      : (file decl : ℕ) (kind : KindData) → Heard (Unit {0}) (demand act file decl kind)
  demand_heard file decl (kinds.Const t e) =
      bound _ _ _ _ (constant_heard act opens file decl) (λ x. given _ tt)
  demand_heard file decl _ = given _ tt

  decls_heard
      : (file decl : ℕ) (ds : List DeclData) → Heard (Unit {0}) (demand_decls act file decl ds)
  decls_heard file decl [] = given _ tt
  decls_heard file decl (d ∷ ds) =
      both_heard _ _ _ _ (demand_heard file decl d.kind) (decls_heard file (decl + 1) ds)

  files_heard : (file : ℕ) (fs : List FileData) → Heard (Unit {0}) (demand_files act file fs)
  files_heard file [] = given _ tt
  files_heard file (f ∷ fs) =
      both_heard _ _ _ _ (decls_heard file 0 f.decls) (files_heard (file + 1) fs)

acts_heard : (p : ProgramData) (n : ℕ) (a : Act) → Heard Plain (acts p n a)
unfolding acts
acts_heard p zero a = failed Plain faults.Depth tt
acts_heard p (suc n) a = opened_heard p (acts p n) (acts_heard p n) a

-- ## The law

decided
    : (p : ProgramData) (a b : Answers) (budget : ℕ) (made : Made) (r : Result (Unit {0} × State) Stop)
    → evaluated p a budget ≡ r → made_or_refusal p r ≡ Ok made → AgreeOn a b made.1
    → answered_meaning p b budget ≡ Ok made
unfolding answered_meaning evaluated
decided p a b budget made (Err stop) is e agree = absurd cc
decided p a b budget made (Ok end) is e agree =
    let h = (files_heard p (acts p MAX_OPEN_CALLS) (acts_heard p MAX_OPEN_CALLS) 0 p.files (start p a budget)).hears
    end.0 end.1 is in
    let both : (end.1.calls.pips, end.1.calls.asks) ≡ made = one_given Made Refusal (end.1.calls.pips, end.1.calls.asks) made e in
    let pips : end.1.calls.pips ≡ made.0 = ap (λ (y : Made). y.0) both in
    let asks : end.1.calls.asks ≡ made.1 = ap (λ (y : Made). y.1) both in
    ap (made_or_refusal p) (h.same b (subst (AgreeOn a b) (sym asks ∙ h.asks) agree))
    ∙ ap (λ ps. Ok (ps, end.1.calls.asks)) pips ∙ ap (λ qs. Ok (made.0, qs)) asks

pub asks_decide
    : (p : ProgramData) (a b : Answers) (budget : ℕ) (pips : List Pip) (asks : List TreeAsk)
    → answered_meaning p a budget ≡ Ok (pips, asks) → AgreeOn a b asks
    → answered_meaning p b budget ≡ Ok (pips, asks)
unfolding answered_meaning
asks_decide p a b budget pips asks e agree = decided p a b budget (pips, asks) (evaluated p a budget) refl e agree
