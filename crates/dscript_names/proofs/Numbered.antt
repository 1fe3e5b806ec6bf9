-- The locals of each function of a program are numbered in one run.
use Rattle.std.proofs.Common.{◌≡◌, ℕ, ◌+◌, ◌-◌, ◌≤◌, List, [], ◌∷◌, ◌++◌, length, Some, Result, Ok, Err, refl, sym, ◌∙◌, ap, subst, arith, true, false}
use Rattle.std.specs.Bool.{⊤}
use Rattle.std.specs.List.{slice_get, AllByRecursion}
use Rattle.std.proofs.lemmas.List.{length-append}
use Rattle.bx_tree.proofs.Lists.{all_append}
use Rattle.dscript_program.specs.ProgramData.{FunctionData}
use Rattle.dscript_program.specs.Numbering.{Taker, Declares, Holds, FillRun, IsConsecutive, body_takers}
use Rattle.dscript_program.specs.BoundTree.{BodyData}
use Rattle.dscript_ast.specs.ExprTree.{ParamTree, PartTrees}
use Rattle.dscript_program.specs.declared.spec_fault.SpecKind.{SpecKind}
use Rattle.dscript_names_scopes.specs.declared.found.Found.{Found}
use Rattle.dscript_names_scopes.specs.declared.local.Local.{Local}
use Rattle.dscript_names_scopes.specs.Lookup.{Site, found_at, assigned}
use Rattle.dscript_names_scopes.specs.Names.{World}
use Rattle.dscript_names.specs.Captures.{HasOuterCaptures}
use Rattle.dscript_names.proofs.Captured.{captures_of}
use Rattle.dscript_names_binding.specs.Walk.{Here, Bound, Binds, chained, continued, ◌>>=◌, gives, next_local, declare, leave, within, closed, function_in, function_of, params_from, or_fault}
use Rattle.dscript_names_binding.specs.Binding.{names_target, bind_name, assigns}

-- ## Runs

pub fill_append : (table : List FunctionData) (a : ℕ) (ts : List Taker) (m : ℕ) (us : List Taker) (b : ℕ)
    → FillRun table a ts m → FillRun table m us b → FillRun table a (ts ++ us) b
unfolding FillRun
fill_append table a [] m us b h g = subst (λ n. FillRun table n us b) (sym h) g
fill_append table a (Declares n ∷ ts) m us b h g = (h.0, fill_append table (a + 1) ts m us b h.1 g)
fill_append table a (Holds f ∷ ts) m us b h g =
    (h.0, h.1, h.2, fill_append table (a + h.0.local_count) ts m us b h.3 g)

pub fill_le : (table : List FunctionData) (a : ℕ) (ts : List Taker) (b : ℕ) → FillRun table a ts b → a ≤ b
unfolding FillRun
fill_le table a [] b h = omega (arith, h)
fill_le table a (Declares n ∷ ts) b h = let g = fill_le table (a + 1) ts b h.1 in omega (arith, g)
fill_le table a (Holds f ∷ ts) b h =
    let g = fill_le table (a + h.0.local_count) ts b h.3 in omega (arith, g)

-- the table has these functions from the number on
unfoldable pub At : List FunctionData → ℕ → List FunctionData → Type 0
At table n [] = ⊤
At table n (f ∷ fs) = (slice_get table n ≡ Some f) × At table (n + 1) fs

pub at_split : (table : List FunctionData) (n : ℕ) (fs gs : List FunctionData)
    → At table n (fs ++ gs) → At table n fs × At table (n + length fs) gs
unfolding At
at_split table n [] gs h = (tt, subst (λ k. At table k gs) (omega arith) h)
at_split table n (f ∷ fs) gs h =
    let g = at_split table (n + 1) fs gs h.1 in
    ((h.0, g.0), subst (λ k. At table k gs) (omega arith) g.1)

-- ## What is kept by a walk

-- a function has consecutive locals, and captures what comes before them
abbrev pub IsSound : List FunctionData → FunctionData → Type 0
IsSound table f = IsConsecutive table f × HasOuterCaptures f

-- The value has takers, as the relation says, that fill the run of the locals from before the walk to after.
pub record Numbered {A : Type 0} (table : List FunctionData) (R : A → List Taker → Type 0) (here : Here)
    (b : Bound A) : Type 0 where
  pub takers : List Taker
  pub is : R b.value takers
  pub run : FillRun table here.locals takers b.after.locals
  pub count : b.after.functions ≡ here.functions + length b.functions
  pub inner : AllByRecursion (IsSound table) b.functions

-- a result is a fault, or is numbered in each table that has its functions at their numbers
abbrev pub Good : {A : Type 0} → List FunctionData → (A → List Taker → Type 0) → Here → Result
    (Bound A) SpecKind → Type 0
Good table R here (Ok b) = At table here.functions b.functions → Numbered table R here b
Good table R here (Err kind) = ⊤

pub record Numbers {A : Type 0} (R : A → List Taker → Type 0) (m : Binds A) : Type 0 where
  pub good : (table : List FunctionData) (here : Here) → Good table R here (m here)

good_after : {A B : Type 0} (table : List FunctionData) (RA : A → List Taker → Type 0)
    (RB : B → List Taker → Type 0) (here : Here) (a : Bound A)
    (r : Result (Bound B) SpecKind)
    → Good table RA here (Ok a)
    → ((ts : List Taker) → RA a.value ts → Good table (λ c us. RB c (ts ++ us)) a.after r)
    → Good table RB here (chained a r)
good_after table RA RB here a (Err kind) first second = tt
good_after table RA RB here a (Ok c) first second = λ at.
    let parts = at_split table here.functions a.functions c.functions at in
    let n = first parts.0 in
    let k = second n.takers n.is (subst (λ f. At table f c.functions) (sym n.count) parts.1) in
    record {
      takers = n.takers ++ k.takers;
      is = k.is;
      run = fill_append table here.locals n.takers a.after.locals k.takers c.after.locals n.run k.run;
      count = k.count ∙ ap (λ f. f + length c.functions) n.count ∙ omega
          (arith, length-append a.functions c.functions);
      inner = all_append (IsSound table) a.functions c.functions n.inner k.inner;
    }

good_continued : {A B : Type 0} (table : List FunctionData) (RA : A → List Taker → Type 0)
    (RB : B → List Taker → Type 0) (here : Here)
    (r : Result (Bound A) SpecKind) (next : A → Binds B)
    → Good table RA here r
    → ((a : A) (ts : List Taker) → RA a ts → Numbers (λ c us. RB c (ts ++ us)) (next a))
    → Good table RB here (continued r next)
good_continued table RA RB here (Err kind) next first second = tt
good_continued table RA RB here (Ok a) next first second =
    good_after table RA RB here a (next a.value a.after) first
    (λ ts is. (second a.value ts is).good table a.after)

pub step : {A B : Type 0} {RA : A → List Taker → Type 0} {RB : B → List Taker → Type 0}
    {m : Binds A} {next : A → Binds B}
    → Numbers RA m → ((a : A) (ts : List Taker) → RA a ts → Numbers (λ c us. RB c (ts ++ us)) (next a))
    → Numbers RB (m >>= next)
step {RA} {RB} {m} {next} first second = record {
  good = λ table here. good_continued table RA RB here (m here) next (first.good table here) second;
}

pub done : {A : Type 0} {R : A → List Taker → Type 0} {x : A} → R x [] → Numbers R (gives x)
unfolding FillRun
done is = record {
  good = λ table here at. record { takers = []; is = is; run = refl; count = omega arith; inner = tt };
}

-- ## Single steps

-- no takers
abbrev pub NoTakers : {A : Type 0} → A → List Taker → Type 0
NoTakers x ts = ts ≡ []

abbrev pub IsDeclared : ℕ → List Taker → Type 0
IsDeclared n ts = ts ≡ Declares n ∷ []

abbrev pub IsContained : ℕ → List Taker → Type 0
IsContained n ts = ts ≡ Holds n ∷ []

abbrev pub IsBody : BodyData → List Taker → Type 0
IsBody b ts = body_takers b ≡ ts

pub next_numbers : Numbers IsDeclared next_local
unfolding FillRun
next_numbers = record {
  good = λ table here at. record {
    takers = Declares here.locals ∷ [];
    is = refl;
    run = (refl, refl);
    count = omega arith;
    inner = tt;
  };
}

pub declare_numbers : (x : List ℕ) (n : ℕ) → Numbers NoTakers (declare x n)
unfolding FillRun
declare_numbers x n = record {
  good = λ table here at. record { takers = []; is = refl; run = refl; count = omega arith; inner = tt };
}

good_fault : {A : Type 0} (table : List FunctionData) (here : Here) (r : Result A SpecKind)
    → Good table NoTakers here (or_fault r here)
unfolding FillRun
good_fault table here (Err kind) = tt
good_fault table here
    (Ok x) = λ at. record { takers = []; is = refl; run = refl; count = omega arith; inner = tt }

target_numbers : (f : Found) → Numbers NoTakers (names_target f)
unfolding FillRun
target_numbers f = record {
  good = λ table here at. record { takers = []; is = refl; run = refl; count = omega arith; inner = tt };
}

no_more : {A : Type 0} {m : Binds A} (ts : List Taker) → ts
    ≡ [] → Numbers NoTakers m → Numbers (λ c us. NoTakers c (ts ++ us)) m
no_more {A} {m} ts is h =
    let P : List Taker → Type 0 = λ vs. Numbers {A = A} (λ c us. NoTakers c (vs ++ us)) m in subst P
    (sym is) h

pub name_numbers : (world : World) (site : Site) (x : List ℕ) (parts : PartTrees) → Numbers NoTakers
    (bind_name world site x parts)
name_numbers world site x parts = record {
  good = λ table here.
      good_continued table NoTakers NoTakers here (or_fault
      (found_at world site here.blocks x parts) here) names_target
      (good_fault table here (found_at world site here.blocks x parts))
      (λ f ts is. no_more ts is (target_numbers f));
}

pub assigns_numbers : (x : List ℕ) → Numbers NoTakers (assigns x)
assigns_numbers x = record { good = λ table here. good_fault table here (assigned here.blocks x) }

-- ## Blocks and functions

good_leave : {A : Type 0} (table : List FunctionData) (R : A → List Taker → Type 0) (here inside : Here)
    (r : Result (Bound A) SpecKind)
    → inside.locals ≡ here.locals → inside.functions ≡ here.functions
    → Good table R inside r → Good table R here (leave here r)
good_leave table R here inside (Err kind) locals functions h = tt
good_leave table R here inside (Ok b) locals functions h = λ at.
    let n = h (subst (λ f. At table f b.functions) (sym functions) at) in
    record {
      takers = n.takers;
      is = n.is;
      run = subst (λ l. FillRun table l n.takers b.after.locals) locals n.run;
      count = n.count ∙ ap (λ f. f + length b.functions) functions;
      inner = n.inner;
    }

pub within_numbers : {A : Type 0} {R : A → List Taker → Type 0} {m : Binds A} (locals : List Local)
    → Numbers R m → Numbers R (within locals m)
within_numbers {R} {m} locals h = record {
  good = λ table here.
      let inside = record here { blocks = record { locals = locals; is_body = false } ∷ here.blocks } in
      good_leave table R here inside (m inside) refl refl (h.good table inside);
}

-- a function whose body has these takers is consecutive
closed_consecutive : (table : List FunctionData) (file : ℕ) (params : List ParamTree) (first from : ℕ)
    (b : Bound BodyData) (ts : List Taker)
    → from ≡ first + length params → IsBody b.value ts → FillRun table from ts b.after.locals
    → IsConsecutive table (function_of file params first b)
closed_consecutive table file params first from b ts start is run =
    let le = fill_le table from ts b.after.locals run in
    let from_start = subst (λ n. FillRun table n ts b.after.locals) start run in
    let to_end = subst (λ n. FillRun table (first + length params) ts n) (omega
    (arith, le, start)) from_start in
    subst (λ us. FillRun table (first + length params) us (first + (b.after.locals - first)))
    (sym is) to_end

good_closed : (table : List FunctionData) (file : ℕ) (params : List ParamTree) (here inside : Here)
    (r : Result (Bound BodyData) SpecKind)
    → inside.locals ≡ here.locals + length params → inside.functions ≡ here.functions + 1
    → Good table IsBody inside r → Good table IsContained here (closed file params here r)
unfolding At FillRun
good_closed table file params here inside (Err kind) locals functions h = tt
good_closed table file params here inside (Ok b) locals functions h = λ at.
    let n = h (subst (λ f. At table f b.functions) (sym functions) at.1) in
    let le = fill_le table inside.locals n.takers b.after.locals n.run in
    record {
      takers = Holds here.functions ∷ [];
      is = refl;
      run = (function_of file params here.locals b, at.0, refl, omega (arith, le, locals));
      count = n.count ∙ ap (λ f. f + length b.functions) functions ∙ omega arith;
      inner = (
        (
          closed_consecutive table file params here.locals inside.locals b n.takers locals n.is n.run,
          captures_of file params here.locals b,
        ),
        n.inner,
      );
    }

pub function_numbers : (file : ℕ) (params : List ParamTree) (locals : List Local) (body : Binds BodyData)
    → Numbers IsBody body → Numbers IsContained (function_in file params locals body)
function_numbers file params locals body h = record {
  good = λ table here.
      let inside : Here = record {
        blocks = record { locals = params_from here.locals params ++ locals; is_body = true } ∷ here.blocks;
        locals = here.locals + length params;
        functions = here.functions + 1;
      } in
      good_closed table file params here inside (body inside) refl refl (h.good table inside);
}
