-- What calls and programs evaluate to is made, and so the pips of a program are a list of pips.
use Rattle.std.proofs.Common.{◌≡◌, ℕ, zero, suc, ◌+◌, List, [], ◌∷◌, map, length, Option, None, Some, Result, Ok, Err, subst}
use Rattle.std.specs.List.{AllByRecursion}
use Rattle.bx_tree.specs.Trees.{Files}
use Rattle.pip_model_types.specs.Makers.{IsPipList}
use Rattle.pip_model_types.specs.declared.pip.Pip.{Pip}
use Rattle.dscript_sdk_calls.specs.Sources.{Answers, tree_answers}
use Rattle.dscript_value.specs.declared.parts.Callee.TheVariants as callees
use Rattle.dscript_value.specs.Plain.{Plain}
use Rattle.dscript_program.specs.ProgramData as kinds
use Rattle.dscript_program.specs.ProgramData.{DeclData, FileData, FunctionData, KindData, ProgramData}
use Rattle.dscript_eval_meaning.specs.declared.fault.EvalKind.TheVariants as faults
use Rattle.dscript_eval_meaning.specs.declared.limits.TheConstants.{MAX_OPEN_CALLS}
use Rattle.dscript_eval_meaning.specs.Acts.{Act, Acts, Call, Demand}
use Rattle.dscript_eval_meaning.specs.Constants.{mark}
use Rattle.dscript_eval_meaning.specs.Evaluating.{Stop, gives, ◌>>=◌, ◌>>◌}
use Rattle.dscript_eval_meaning.specs.Expressions.{value}
use Rattle.dscript_eval_meaning.specs.Frames.{constant_frame, function_frame, within}
use Rattle.dscript_eval_meaning.specs.Lookups.{declared_at, function_at}
use Rattle.dscript_eval_meaning.specs.Meaning.{acts, demand, demand_decls, demand_files, demanded, evaluated}
use Rattle.dscript_eval_meaning.specs.Meaning.{function_call, meaning, opened, pips_or_refusal, start}
use Rattle.dscript_eval_meaning.specs.States.{State, Status, Waiting, Running, Done}
use Rattle.dscript_eval_laws.proofs.MadeForms.{Holds, IsActMade, IsKindHolding, Opens, ambient_kept, body_kept, constant_kept, held_method_kept}
use Rattle.dscript_eval_laws.proofs.MadeForms.{value_kept}
use Rattle.dscript_eval_laws.proofs.MadeStates.{Comes, IsFrameMade, IsSound, IsStatusMade, IsTableMade, Keeps, Whatever}
use Rattle.dscript_eval_laws.proofs.MadeStates.{arguments_made, both, bound, failed, given, inside, marked_made, pips_of}
use Rattle.dscript_eval_laws.proofs.MadeValues.{AreMade, Grows, IsMade, all_still, list_from_fit, no_growth, none_fit}
use Rattle.dscript_eval_laws.proofs.MadeValues.{still_made}

module _ (F : ℕ → ℕ → Type 0) where
  mark_kept
      : (pips : List Pip) (file decl : ℕ) (status : Status)
      → ((now : List Pip) → Grows pips now → IsStatusMade F now status)
      → Keeps F (Unit {0}) (Whatever (Unit {0})) pips (mark file decl status)
  mark_kept pips file decl status h = λ s grows sound. record {
    grows = no_growth (pips_of s);
    sound = record {
      fit = sound.fit;
      frame = sound.frame;
      constants = marked_made F (pips_of s) s.constants file decl status sound.constants (h (pips_of s) grows);
    };
    value = tt;
  }

  no_values : (pips : List Pip) (file : ℕ) → IsFrameMade F pips (constant_frame file)
  no_values pips file = record { held = tt; own = tt }

  module _ (p : ProgramData) (holds : Holds F p) (act : Acts) (opens : Opens F act) where
    function_kept
        : (f : Option FunctionData) (held args : List Plain) (pips : List Pip) → AreMade F pips held → AreMade F pips args
        → Keeps F Plain (IsMade F) pips (function_call p act f held args)
    function_kept None held args pips h all = failed F Plain (IsMade F) pips faults.Kind (λ file h. h)
    function_kept (Some f) held args pips h all =
        inside F Plain (IsMade F) pips (function_frame f held args) _
        (λ now grows. record {
          held = all_still F pips now grows held h;
          own = arguments_made F now f.local_count (length f.params) args (all_still F pips now grows args all);
        })
        (body_kept F act opens p holds f.body pips)

    demanded_kept
        : (file decl : ℕ) (kind : Option KindData) (pips : List Pip)
        → Keeps F Plain (IsMade F) pips (demanded p act file decl kind)
    demanded_kept file decl (Some (kinds.Const t e)) pips =
        both F (Unit {0}) Plain (Whatever (Unit {0})) (IsMade F) pips (mark file decl Running)
        (within (constant_frame file) (value p act e) >>= λ x. mark file decl (Done x) >> gives x)
        (mark_kept pips file decl Running (λ now grows. tt))
        (λ now grows. bound F Plain Plain (IsMade F) (IsMade F) now (within (constant_frame file) (value p act e))
        (λ x. mark file decl (Done x) >> gives x)
        (inside F Plain (IsMade F) now (constant_frame file) (value p act e) (λ later on. no_values later file)
        (value_kept F act opens p holds e now))
        (λ later x on made. both F (Unit {0}) Plain (Whatever (Unit {0})) (IsMade F) later (mark file decl (Done x)) (gives x)
        (mark_kept later file decl (Done x) (λ last g. still_made F later last g x made))
        (λ last g. given F Plain (IsMade F) last x (λ end g'. still_made F last end g' x (still_made F later last g x made)))))
    demanded_kept file decl _ pips = failed F Plain (IsMade F) pips faults.Kind (λ file h. h)

    pub opened_kept : (pips : List Pip) (a : Act) → IsActMade F pips a → Keeps F Plain (IsMade F) pips (opened p act a)
    opened_kept pips (Call (callees.Place number) held args) h =
        function_kept (function_at p number) held args pips h.1 h.2
    opened_kept pips (Call (callees.Ambient name) held args) h = ambient_kept F p pips name args h.2
    opened_kept pips (Call (callees.Member name) held args) h = held_method_kept F act opens held name args pips h.1 h.2
    opened_kept pips (Demand file decl) h = demanded_kept file decl (declared_at p file decl) pips

    demand_kept
        : (file decl : ℕ) (kind : KindData) (pips : List Pip)
        → Keeps F (Unit {0}) (Whatever (Unit {0})) pips (demand act file decl kind)
    demand_kept file decl (kinds.Const t e) pips =
        bound F Plain (Unit {0}) (IsMade F) (Whatever (Unit {0})) pips _ _ (constant_kept F act opens file decl pips)
        (λ now x grows made. given F (Unit {0}) (Whatever (Unit {0})) now tt (λ later on. tt))
    demand_kept file decl _ pips = given F (Unit {0}) (Whatever (Unit {0})) pips tt (λ later on. tt)

    decls_kept
        : (file decl : ℕ) (ds : List DeclData) (pips : List Pip)
        → Keeps F (Unit {0}) (Whatever (Unit {0})) pips (demand_decls act file decl ds)
    decls_kept file decl [] pips = given F (Unit {0}) (Whatever (Unit {0})) pips tt (λ later on. tt)
    decls_kept file decl (d ∷ ds) pips =
        both F (Unit {0}) (Unit {0}) (Whatever (Unit {0})) (Whatever (Unit {0})) pips _ _
        (demand_kept file decl d.kind pips) (λ now grows. decls_kept file (decl + 1) ds now)

    pub files_kept
        : (file : ℕ) (fs : List FileData) (pips : List Pip)
        → Keeps F (Unit {0}) (Whatever (Unit {0})) pips (demand_files act file fs)
    files_kept file [] pips = given F (Unit {0}) (Whatever (Unit {0})) pips tt (λ later on. tt)
    files_kept file (f ∷ fs) pips =
        both F (Unit {0}) (Unit {0}) (Whatever (Unit {0})) (Whatever (Unit {0})) pips _ _
        (decls_kept file 0 f.decls pips) (λ now grows. files_kept (file + 1) fs now)

  -- ## The start

  waiting_made : (pips : List Pip) (ds : List DeclData) → AllByRecursion (IsStatusMade F pips) (map (λ (d : DeclData). Waiting) ds)
  waiting_made pips [] = tt
  waiting_made pips (d ∷ ds) = (tt, waiting_made pips ds)

  all_waiting_made
      : (pips : List Pip) (fs : List FileData)
      → IsTableMade F pips (map (λ (f : FileData). map (λ (d : DeclData). Waiting) f.decls) fs)
  all_waiting_made pips [] = tt
  all_waiting_made pips (f ∷ fs) = (waiting_made pips f.decls, all_waiting_made pips fs)

  pub start_sound : (p : ProgramData) (answers : Answers) (budget : ℕ) → IsSound F (start p answers budget)
  start_sound p answers budget = record {
    fit = none_fit;
    frame = no_values [] 0;
    constants = all_waiting_made [] p.files;
  }

-- ## All pips

-- nothing is said of what functions hold
abbrev AnyNumber : ℕ → ℕ → Type 0
AnyNumber number count = Unit {0}

any_kind : (kind : Option KindData) → IsKindHolding AnyNumber kind
any_kind None = tt
any_kind (Some (kinds.Const t e)) = tt
any_kind (Some (kinds.Function ts t number)) = tt
any_kind (Some (kinds.Interface ts es ms)) = tt
any_kind (Some (kinds.TypeAlias ts t)) = tt

any_holds : (p : ProgramData) → Holds AnyNumber p
any_holds p = record { arrows = λ number. tt; declares = λ file decl. any_kind (declared_at p file decl) }

acts_kept : (p : ProgramData) (n : ℕ) → Opens AnyNumber (acts p n)
unfolding acts
acts_kept p zero = λ pips a h. failed AnyNumber Plain (IsMade AnyNumber) pips faults.Depth (λ file k. k)
acts_kept p (suc n) = λ pips a h. opened_kept AnyNumber p (any_holds p) (acts p n) (acts_kept p n) pips a h

list_of
    : (p : ProgramData) (s : State) (outcome : Result (Unit {0} × State) Stop)
    → Comes AnyNumber (Unit {0}) (Whatever (Unit {0})) s outcome → (pips : List Pip)
    → pips_or_refusal p outcome ≡ Ok pips → IsPipList pips
list_of p s (Ok end) h pips is =
    let same : end.1.calls.pips ≡ pips = cc in
    subst IsPipList same (list_from_fit end.1.calls.pips h.sound.fit)
list_of p s (Err stop) h pips is = absurd cc

pub gives_pip_list
    : (p : ProgramData) (sources : Files) (budget : ℕ) (pips : List Pip) → meaning p sources budget ≡ Ok pips
    → IsPipList pips
unfolding meaning evaluated
gives_pip_list p sources budget pips is =
    let s = start p (tree_answers sources) budget in
    list_of p s (demand_files (acts p MAX_OPEN_CALLS) 0 p.files s)
    (files_kept AnyNumber p (any_holds p) (acts p MAX_OPEN_CALLS) (acts_kept p MAX_OPEN_CALLS) 0 p.files [] s (no_growth [])
    (start_sound AnyNumber p (tree_answers sources) budget))
    pips is
