-- Calls and programs come to one outcome, however opened calls are evaluated, unless they stop for a reason that
-- excuses it. So calls come to one outcome wherever more calls may be open, unless they meet the limit.
use Rattle.std.proofs.Common.{◌≡◌, ℕ, zero, suc, ◌+◌, List, [], ◌∷◌, Option, None, Some, Result, Ok, Err, refl, ap, subst, arith}
use Rattle.dscript_value.specs.declared.parts.Callee.TheVariants as callees
use Rattle.dscript_value.specs.Plain.{Plain}
use Rattle.dscript_program.specs.ProgramData as kinds
use Rattle.dscript_program.specs.ProgramData.{DeclData, FileData, FunctionData, KindData, ProgramData}
use Rattle.dscript_eval_meaning.specs.declared.fault.EvalKind.TheVariants.{Depth}
use Rattle.dscript_eval_meaning.specs.Acts.{Act, Acts, Call, Demand}
use Rattle.dscript_eval_meaning.specs.Constants.{mark}
use Rattle.dscript_eval_meaning.specs.Evaluating.{Fault, Stop}
use Rattle.dscript_eval_meaning.specs.Laws.{IsTooDeep}
use Rattle.dscript_eval_meaning.specs.Lookups.{declared_at, function_at}
use Rattle.dscript_eval_meaning.specs.Meaning.{acts, demand, demand_decls, demand_files, demanded, function_call, opened}
use Rattle.dscript_eval_meaning.specs.States.{Running, State}
use Rattle.dscript_eval_meaning.proofs.Alike.{Alike, IsExcused, both, bound, inside, same}
use Rattle.dscript_eval_meaning.proofs.AlikeForms.{body_alike, constant_alike, held_method_alike, value_alike}

module _ (E : Stop → Type 0) (p : ProgramData) (act act' : Acts) (opens : (a : Act) → Alike E Plain (act a) (act' a)) where
  function_alike
      : (f : Option FunctionData) (held args : List Plain)
      → Alike E Plain (function_call p act f held args) (function_call p act' f held args)
  function_alike None held args = same E _ _
  function_alike (Some f) held args = inside E _ _ _ _ (body_alike E act act' opens p f.body)

  demanded_alike
      : (file decl : ℕ) (kind : Option KindData)
      → Alike E Plain (demanded p act file decl kind) (demanded p act' file decl kind)
  demanded_alike file decl (Some (kinds.Const t e)) =
      both E _ _ _ _ _ _ (same E _ (mark file decl Running))
      (bound E _ _ _ _ _ _ (inside E _ _ _ _ (value_alike E act act' opens p e)) (λ x. same E _ _))
  demanded_alike file decl _ = same E _ _

  pub opened_alike : (a : Act) → Alike E Plain (opened p act a) (opened p act' a)
  opened_alike (Call (callees.Place number) held args) = function_alike (function_at p number) held args
  opened_alike (Call (callees.Ambient name) held args) = same E _ _
  opened_alike (Call (callees.Member name) held args) = held_method_alike E act act' opens held name args
  opened_alike (Demand file decl) = demanded_alike file decl (declared_at p file decl)

module _ (E : Stop → Type 0) (act act' : Acts) (opens : (a : Act) → Alike E Plain (act a) (act' a)) where
  demand_alike
      : (file decl : ℕ) (kind : KindData)
      → Alike E (Unit {0}) (demand act file decl kind) (demand act' file decl kind)
  demand_alike file decl (kinds.Const t e) =
      bound E _ _ _ _ _ _ (constant_alike E act act' opens file decl) (λ x. same E _ _)
  demand_alike file decl _ = same E _ _

  decls_alike
      : (file decl : ℕ) (ds : List DeclData)
      → Alike E (Unit {0}) (demand_decls act file decl ds) (demand_decls act' file decl ds)
  decls_alike file decl [] = same E _ _
  decls_alike file decl (d ∷ ds) =
      both E _ _ _ _ _ _ (demand_alike file decl d.kind) (decls_alike file (decl + 1) ds)

  pub files_alike
      : (file : ℕ) (fs : List FileData) → Alike E (Unit {0}) (demand_files act file fs) (demand_files act' file fs)
  files_alike file [] = same E _ _
  files_alike file (f ∷ fs) = both E _ _ _ _ _ _ (decls_alike file 0 f.decls) (files_alike (file + 1) fs)

-- ## The limit on open calls

abbrev IsDepth : Stop → Type 0
IsDepth stop = (file : ℕ) × (stop ≡ Fault Depth file None)

too_deep : (r : Result (Plain × State) Stop) → IsExcused IsDepth Plain r → IsTooDeep r
too_deep (Ok r) h = absurd h
too_deep (Err stop) h = (h.0, ap Err h.1)

deep_alike : (p : ProgramData) (n more : ℕ) (a : Act) → Alike IsDepth Plain (acts p n a) (acts p (n + more) a)
unfolding acts
deep_alike p zero more a s other = absurd (other (s.frame.file, refl))
deep_alike p (suc n) more a s other =
    let e : suc (n + more) ≡ suc n + more = omega arith in
    let all : Alike IsDepth Plain (acts p (suc n) a) (acts p (suc n + more) a) =
    subst (λ k. Alike IsDepth Plain (acts p (suc n) a) (acts p k a)) e
    (opened_alike IsDepth p (acts p n) (acts p (n + more)) (deep_alike p n more) a) in
    all s other

pub calls_alike
    : (p : ProgramData) (openable more : ℕ) (act : Act) (s : State)
    → (IsTooDeep (acts p openable act s) → ⊥) → acts p (openable + more) act s ≡ acts p openable act s
calls_alike p openable more act s other =
    deep_alike p openable more act s (λ h. other (too_deep (acts p openable act s) h))
