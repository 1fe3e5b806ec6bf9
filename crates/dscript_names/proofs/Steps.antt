-- How much a step of a walk counts.
use Rattle.std.proofs.Common.{◌≡◌, ℕ, ◌+◌, ◌-◌, ◌≤◌, true, false, List, [], ◌∷◌, ◌++◌, length, Result, Ok, Err, refl, arith}
use Rattle.std.specs.Bool.{⊤}
use Rattle.std.specs.List.{AllByRecursion}
use Rattle.std.proofs.lemmas.List.{length-append}
use Rattle.dscript_ast.specs.ExprTree.{ParamTree, PartTrees}
use Rattle.dscript_names_binding.specs.Binding.{assigns, bind_name, names_target}
use Rattle.dscript_names_binding.specs.Walk.{Here, Bound, Binds, chained, continued, ◌>>=◌, gives, next_local, declare, leave, within, closed, function_in, params_from, or_fault}
use Rattle.dscript_program.specs.declared.spec_fault.SpecKind.{SpecKind}
use Rattle.dscript_program.specs.BoundTree.{BodyData}
use Rattle.dscript_program.specs.ProgramData.{FunctionData}
use Rattle.dscript_names_scopes.specs.Lookup.{Site, found_at, assigned}
use Rattle.dscript_names_scopes.specs.Names.{World}
use Rattle.dscript_names_scopes.specs.declared.found.Found.{Found}
use Rattle.dscript_names_scopes.specs.declared.local.Local.{Local}
use Rattle.dscript_names.specs.Counted.{IsNumberedBelow}

-- ## Lists

-- no function numbers a local at this number or above
abbrev pub AllBelow : ℕ → List FunctionData → Type 0
AllBelow n fs = AllByRecursion (IsNumberedBelow n) fs

pub all_below_more : (m n : ℕ) (fs : List FunctionData) → m ≤ n → AllBelow m fs → AllBelow n fs
all_below_more m n [] le h = tt
all_below_more m n (f ∷ fs) le h =
    let params : f.first_local + length f.params ≤ m = h.0.0 in
    let locals : f.first_local + f.local_count ≤ m = h.0.1 in
    ((omega (arith, le, params), omega (arith, le, locals)), all_below_more m n fs le h.1)

pub all_below_append : (n : ℕ) (fs gs : List FunctionData) → AllBelow n fs → AllBelow n gs → AllBelow n (fs ++ gs)
all_below_append n [] gs h k = k
all_below_append n (f ∷ fs) gs h k = (h.0, all_below_append n fs gs h.1 k)

-- ## Steps

-- locals and functions rose by at most this, and each function has its locals below the new number
pub record Rises {A : Type 0} (n : ℕ) (here : Here) (b : Bound A) : Type 0 where
  pub locals : b.after.locals ≤ here.locals + n
  pub functions : length b.functions ≤ n
  pub below : AllBelow (here.locals + n) b.functions

abbrev pub RisesIfOk : {A : Type 0} → ℕ → Here → Result (Bound A) SpecKind → Type 0
RisesIfOk n here (Ok b) = Rises n here b
RisesIfOk n here (Err kind) = ⊤

pub record Counts {A : Type 0} (n : ℕ) (m : Binds A) : Type 0 where
  pub good : (here : Here) → RisesIfOk n here (m here)

rises_more : {A : Type 0} (n k : ℕ) (here : Here) (r : Result (Bound A) SpecKind) → n ≤ k → RisesIfOk n here r → RisesIfOk k here r
rises_more n k here (Err kind) le h = tt
rises_more n k here (Ok b) le h =
    let up : here.locals + n ≤ here.locals + k = omega (arith, le) in
    let locals : b.after.locals ≤ here.locals + n = h.locals in
    let functions : length b.functions ≤ n = h.functions in
    record {
      locals = omega (arith, locals, up);
      functions = omega (arith, functions, le);
      below = all_below_more (here.locals + n) (here.locals + k) b.functions up h.below;
    }

pub more : {A : Type 0} {m : Binds A} (n k : ℕ) → n ≤ k → Counts n m → Counts k m
more {m = m} n k le h = record { good = λ here. rises_more n k here (m here) le (h.good here) }

rises_after : {A B : Type 0} (n k : ℕ) (here : Here) (a : Bound A) (r : Result (Bound B) SpecKind)
    → Rises n here a → RisesIfOk k a.after r → RisesIfOk (n + k) here (chained a r)
rises_after n k here a (Err kind) first second = tt
rises_after n k here a (Ok c) first second =
    let one : a.after.locals ≤ here.locals + n = first.locals in
    let two : c.after.locals ≤ a.after.locals + k = second.locals in
    let some : length a.functions ≤ n = first.functions in
    let others : length c.functions ≤ k = second.functions in
    let up : here.locals + n ≤ here.locals + (n + k) = omega arith in
    let on : a.after.locals + k ≤ here.locals + (n + k) = omega (arith, one) in
    record {
      locals = omega (arith, one, two);
      functions = omega (arith, some, others, length-append a.functions c.functions);
      below = all_below_append (here.locals + (n + k)) a.functions c.functions
          (all_below_more (here.locals + n) (here.locals + (n + k)) a.functions up first.below)
          (all_below_more (a.after.locals + k) (here.locals + (n + k)) c.functions on second.below);
    }

rises_continued : {A B : Type 0} (n k : ℕ) (here : Here) (r : Result (Bound A) SpecKind) (next : A → Binds B)
    → RisesIfOk n here r → ((x : A) → Counts k (next x)) → RisesIfOk (n + k) here (continued r next)
rises_continued n k here (Err kind) next first second = tt
rises_continued n k here (Ok a) next first second =
    rises_after n k here a (next a.value a.after) first ((second a.value).good a.after)

pub step : {A B : Type 0} {n k : ℕ} {m : Binds A} {next : A → Binds B} → Counts n m → ((x : A) → Counts k (next x))
    → Counts (n + k) (m >>= next)
step {n = n} {k = k} {m = m} {next = next} first second = record {
  good = λ here. rises_continued n k here (m here) next (first.good here) second;
}

pub done : {A : Type 0} {x : A} → Counts 0 (gives x)
done = record { good = λ here. record { locals = omega arith; functions = omega arith; below = tt } }

-- a step, and then only a value
pub last : {A B : Type 0} {n : ℕ} {m : Binds A} (f : A → B) → Counts n m → Counts n (m >>= λ x. gives (f x))
last {n = n} {m = m} f h = more (n + 0) n (omega arith) (step {next = λ x. gives (f x)} h (λ x. done))

-- ## Single steps

pub next_counts : Counts 1 next_local
next_counts = record { good = λ here. record { locals = omega arith; functions = omega arith; below = tt } }

pub declare_counts : (x : List ℕ) (n : ℕ) → Counts 0 (declare x n)
declare_counts x n = record { good = λ here. record { locals = omega arith; functions = omega arith; below = tt } }

rises_fault : {A : Type 0} (here : Here) (r : Result A SpecKind) → RisesIfOk 0 here (or_fault r here)
rises_fault here (Err kind) = tt
rises_fault here (Ok x) = record { locals = omega arith; functions = omega arith; below = tt }

target_counts : (f : Found) → Counts 0 (names_target f)
target_counts f = record { good = λ here. record { locals = omega arith; functions = omega arith; below = tt } }

pub name_counts : (world : World) (site : Site) (x : List ℕ) (parts : PartTrees) → Counts 0 (bind_name world site x parts)
name_counts world site x parts = record {
  good = λ here. rises_continued 0 0 here (or_fault (found_at world site here.blocks x parts) here) names_target
      (rises_fault here (found_at world site here.blocks x parts)) target_counts;
}

pub assigns_counts : (x : List ℕ) → Counts 0 (assigns x)
assigns_counts x = record { good = λ here. rises_fault here (assigned here.blocks x) }

-- ## Blocks and functions

rises_left : {A : Type 0} (n : ℕ) (here inside : Here) (r : Result (Bound A) SpecKind) → inside.locals ≡ here.locals
    → RisesIfOk n inside r → RisesIfOk n here (leave here r)
rises_left n here inside (Err kind) same h = tt
rises_left n here inside (Ok b) same h =
    let locals : b.after.locals ≤ inside.locals + n = h.locals in
    let up : inside.locals + n ≤ here.locals + n = omega (arith, same) in
    record {
      locals = omega (arith, locals, same);
      functions = h.functions;
      below = all_below_more (inside.locals + n) (here.locals + n) b.functions up h.below;
    }

pub within_counts : {A : Type 0} {n : ℕ} {m : Binds A} (locals : List Local) → Counts n m → Counts n (within locals m)
within_counts {n = n} {m = m} locals h = record {
  good = λ here.
      let inside : Here = record here { blocks = record { locals = locals; is_body = false } ∷ here.blocks } in
      rises_left n here inside (m inside) refl (h.good inside);
}

rises_closed : (file n : ℕ) (params : List ParamTree) (here inside : Here) (r : Result (Bound BodyData) SpecKind)
    → inside.locals ≡ here.locals + length params → RisesIfOk n inside r
    → RisesIfOk (1 + length params + n) here (closed file params here r)
rises_closed file n params here inside (Err kind) same h = tt
rises_closed file n params here inside (Ok b) same h =
    let locals : b.after.locals ≤ inside.locals + n = h.locals in
    let functions : length b.functions ≤ n = h.functions in
    let up : inside.locals + n ≤ here.locals + (1 + length params + n) = omega (arith, same) in
    let own : here.locals + length params ≤ here.locals + (1 + length params + n) = omega arith in
    let all : here.locals + (b.after.locals - here.locals) ≤ here.locals + (1 + length params + n) =
    omega (arith, locals, same) in
    record {
      locals = omega (arith, locals, same);
      functions = omega (arith, functions);
      below = ((own, all), all_below_more (inside.locals + n) (here.locals + (1 + length params + n)) b.functions up h.below);
    }

pub function_counts : {n : ℕ} {body : Binds BodyData} (file : ℕ) (params : List ParamTree) (locals : List Local)
    → Counts n body → Counts (1 + length params + n) (function_in file params locals body)
function_counts {n = n} {body = body} file params locals h = record {
  good = λ here.
      let inside : Here = record {
        blocks = record { locals = params_from here.locals params ++ locals; is_body = true } ∷ here.blocks;
        locals = here.locals + length params;
        functions = here.functions + 1;
      } in
      rises_closed file n params here inside (body inside) refl (h.good inside);
}
