-- The locals that bodies see, and how their numbers run.
use Rattle.std.proofs.Common.{◌≡◌, ℕ, suc, ◌+◌, ◌<◌, ◌≤◌, Bool, true, false, cond, ◌⊎◌, List, [], ◌∷◌, ◌++◌, length, filter, Option, Some, None}
use Rattle.std.proofs.Common.{refl, sym, ap, ◌∙◌, subst, inl, inr, arith}
use Rattle.std.specs.Bool.{beq}
use Rattle.std.specs.List.{AllByRecursion, find, list_any}
use Rattle.std.specs.Option.{option_and_then, option_map}
use Rattle.std.specs.Prelude.{◌==◌}
use Rattle.std.proofs.lemmas.Bool.{eqb-true}
use Rattle.dscript_ast.specs.ExprTree.{ParamTree}
use Rattle.dscript_program.specs.BoundTree.{ExprData}
use Rattle.dscript_program.specs.Numbering.{FillRun, Taker, Declares, Holds}
use Rattle.dscript_program.specs.ProgramData.{FunctionData, ProgramData}
use Rattle.dscript_types_meaning.specs.Types.{TypeData}
use Rattle.dscript_types_meaning.specs.Unions.{without_undefined}
use Rattle.dscript_types_meaning.specs.Contexts.{Captured, Context, Fixed, Hold, Known, Local, Variable, captured_local, captured_locals, held_inside}
use Rattle.dscript_types_meaning.specs.Contexts.{local_at, with_local}
use Rattle.dscript_types_meaning.specs.Functions.{declared_locals, declared_parameter, first_or_undefined, given_locals, given_parameter, parameter, rest_of}
use Rattle.dscript_types_meaning.specs.Narrowing.{Told, narrow_held, narrow_local, narrow_told, narrowed, told}
use Rattle.dscript_types_values.proofs.Among.{Among, among_either, among_of, any_among, contains_of, map_among}
use Rattle.dscript_types_laws.specs.Invariants.{IsScene}
use Rattle.dscript_types_laws.proofs.Framing.{each_of}

-- ## Scenes

-- by membership
pub scene
    : (first free : ℕ) (ls : List Local) → ((l : Local) → Among ls l → l.number < free)
    → ((l : Local) → Among ls l → l.hold ≡ Variable → first ≤ l.number)
    → ((l m : Local) → Among ls l → Among ls m → l.hold ≡ Variable → m.number ≡ l.number
    → (m.type_data ≡ l.type_data) × (m.hold ≡ Variable))
    → IsScene first free ls
scene first free ls below own alone = record {
  bound = λ l a. below l (among_of ls l a);
  own = λ l a is. own l (among_of ls l a) is;
  alone = λ l m a b is same. alone l m (among_of ls l a) (among_of ls m b) is same;
}

-- more may be bound already
pub scene_later : (first free later : ℕ) (ls : List Local) → free ≤ later → IsScene first free ls → IsScene first later ls
scene_later first free later ls le s = record {
  bound = λ l a. let b = s.bound l a in omega (arith, b, le);
  own = s.own;
  alone = s.alone;
}

not_variable : (h : Hold) → h ≡ Fixed → h ≡ Variable → ⊥
not_variable h fixed variable = let no : Fixed ≡ Variable = sym fixed ∙ variable in absurd cc

-- a local with a further number
pub scene_next
    : (first free next : ℕ) (c : Context) (t : Option TypeData) (h : Hold) → first ≤ free → free < next
    → IsScene first free c.locals → IsScene first next (with_local free t h c).locals
scene_next first free next c t h low lt s = scene first next (l ∷ c.locals) below own alone
  where
    l : Local
    l = record { number = free; type_data = t; hold = h }

    before : (m : Local) → Among c.locals m → m.number < free
    before m a = s.bound m (contains_of c.locals m a)

    below : (m : Local) → Among (l ∷ c.locals) m → m.number < next
    below m (inl is) = subst (λ (k : Local). k.number < next) is lt
    below m (inr a) = let b = before m a in omega (arith, b, lt)

    own : (m : Local) → Among (l ∷ c.locals) m → m.hold ≡ Variable → first ≤ m.number
    own m (inl is) v = subst (λ (k : Local). first ≤ k.number) is low
    own m (inr a) v = s.own m (contains_of c.locals m a) v

    fresh : (m : Local) → Among c.locals m → (n : ℕ) → n ≡ free → m.number ≡ n → ⊥
    fresh m a n is same = let b = before m a in absurd (omega (arith, b, is, same))

    alone : (j k : Local) → Among (l ∷ c.locals) j → Among (l ∷ c.locals) k → j.hold ≡ Variable → k.number ≡ j.number
        → (k.type_data ≡ j.type_data) × (k.hold ≡ Variable)
    alone j k (inl p) (inl q) v same =
        let one : k ≡ j = sym q ∙ p in (ap (λ (i : Local). i.type_data) one, ap (λ (i : Local). i.hold) one ∙ v)
    alone j k (inl p) (inr b) v same = absurd (fresh k b j.number (ap (λ (i : Local). i.number) (sym p)) same)
    alone j k (inr a) (inl q) v same = absurd (fresh j a k.number (ap (λ (i : Local). i.number) (sym q)) (sym same))
    alone j k (inr a) (inr b) v same = s.alone j k (contains_of c.locals j a) (contains_of c.locals k b) v same

-- a fixed local once more, with another type
pub scene_again
    : (first free n : ℕ) (c : Context) (t : Option TypeData) (l : Local) → Among c.locals l → l.number ≡ n → l.hold ≡ Fixed
    → IsScene first free c.locals → IsScene first free (with_local n t Fixed c).locals
scene_again first free n c t l there number fixed s = scene first free (d ∷ c.locals) below own alone
  where
    d : Local
    d = record { number = n; type_data = t; hold = Fixed }

    below : (m : Local) → Among (d ∷ c.locals) m → m.number < free
    below m (inl is) =
        let b = s.bound l (contains_of c.locals l there) in
        subst (λ (k : Local). k.number < free) is (subst (λ k. k < free) number b)
    below m (inr a) = s.bound m (contains_of c.locals m a)

    own : (m : Local) → Among (d ∷ c.locals) m → m.hold ≡ Variable → first ≤ m.number
    own m (inl is) v = absurd (not_variable m.hold (ap (λ (k : Local). k.hold) (sym is)) v)
    own m (inr a) v = s.own m (contains_of c.locals m a) v

    alone : (j k : Local) → Among (d ∷ c.locals) j → Among (d ∷ c.locals) k → j.hold ≡ Variable → k.number ≡ j.number
        → (k.type_data ≡ j.type_data) × (k.hold ≡ Variable)
    alone j k (inl p) b v same = absurd (not_variable j.hold (ap (λ (i : Local). i.hold) (sym p)) v)
    alone j k (inr a) (inl q) v same =
        let numbers : l.number ≡ j.number = number ∙ ap (λ (i : Local). i.number) q ∙ same in
        let r = s.alone j l (contains_of c.locals j a) (contains_of c.locals l there) v numbers in
        absurd (not_variable l.hold fixed r.1)
    alone j k (inr a) (inr b) v same = s.alone j k (contains_of c.locals j a) (contains_of c.locals k b) v same

-- ## Narrowing

found_case
    : (k : Local) (ls : List Local) (n : ℕ) (l : Local) (b : Bool) → (k.number == n) ≡ b
    → (find (λ (j : Local). j.number == n) ls ≡ Some l → Among ls l × (l.number ≡ n))
    → cond b (Some k) (find (λ (j : Local). j.number == n) ls) ≡ Some l → Among (k ∷ ls) l × (l.number ≡ n)
found_case k ls n l true is more at =
    let same : k ≡ l = cc in (inl same, ap (λ (j : Local). j.number) (sym same) ∙ eqb-true k.number n is)
found_case k ls n l false is more at = let r = more at in (inr r.0, r.1)

found_among
    : (ls : List Local) (n : ℕ) (l : Local) → find (λ (k : Local). k.number == n) ls ≡ Some l → Among ls l × (l.number ≡ n)
found_among [] n l e = absurd cc
found_among (k ∷ ls) n l e = found_case k ls n l (k.number == n) refl (found_among ls n l) e

pub local_among : (c : Context) (n : ℕ) (l : Local) → local_at c n ≡ Some l → Among c.locals l × (l.number ≡ n)
local_among c n l e = found_among c.locals n l e

held_scene
    : (first free n : ℕ) (c : Context) (t : Option TypeData) (h : Hold) (l : Local) → Among c.locals l → l.number ≡ n → l.hold ≡ h
    → IsScene first free c.locals → IsScene first free (narrow_held n t h c).locals
held_scene first free n c t Fixed l there number is s = scene_again first free n c (option_map without_undefined t) l there number is s
held_scene first free n c t Variable l there number is s = s
held_scene first free n c t Captured l there number is s = s

local_scene
    : (first free n : ℕ) (c : Context) (o : Option Local) → local_at c n ≡ o → IsScene first free c.locals
    → IsScene first free (narrow_local n o c).locals
local_scene first free n c None is s = s
local_scene first free n c (Some l) is s =
    let a = local_among c n l is in held_scene first free n c l.type_data l.hold l a.0 a.1 refl s

told_case
    : (first free : ℕ) (outcome : Bool) (c : Context) (t : Told) (b : Bool) → beq outcome t.1 ≡ b → IsScene first free c.locals
    → IsScene first free (narrow_told outcome (Some t) c).locals
told_case first free outcome c t true is s = rw (is, narrow_told) (local_scene first free t.0 c (local_at c t.0) refl s)
told_case first free outcome c t false is s = rw (is, narrow_told) s

told_scene
    : (first free : ℕ) (outcome : Bool) (c : Context) (o : Option Told) → IsScene first free c.locals
    → IsScene first free (narrow_told outcome o c).locals
told_scene first free outcome c None s = s
told_scene first free outcome c (Some t) s = told_case first free outcome c t (beq outcome t.1) refl s

-- what a condition says leaves a scene a scene
pub narrowed_scene
    : (first free : ℕ) (outcome : Bool) (e : ExprData) (c : Context) → IsScene first free c.locals
    → IsScene first free (narrowed outcome e c).locals
unfolding narrowed
narrowed_scene first free outcome e c s = told_scene first free outcome c (told e) s

-- ## The scenes of functions

fixed_scene
    : (first free : ℕ) (ls : List Local) → ((l : Local) → Among ls l → l.number < free)
    → ((l : Local) → Among ls l → l.hold ≡ Variable → ⊥) → IsScene first free ls
fixed_scene first free ls below none =
    scene first free ls below (λ l a v. absurd (none l a v)) (λ l m a b v same. absurd (none l a v))

-- a local that is kept has a number of these
kept_case
    : (cs : List ℕ) (j : Local) (ks : List Local) (k : Local) (t : Bool) → list_any (λ n. j.number == n) cs ≡ t
    → (Among (filter (λ (i : Local). list_any (λ n. i.number == n) cs) ks) k → (n : ℕ) × Among cs n × ((k.number == n) ≡ true))
    → Among (cond t (j ∷ filter (λ (i : Local). list_any (λ n. i.number == n) cs) ks)
    (filter (λ (i : Local). list_any (λ n. i.number == n) cs) ks)) k
    → (n : ℕ) × Among cs n × ((k.number == n) ≡ true)
kept_case cs j ks k true is more (inl same) =
    let r = any_among (λ n. j.number == n) cs is in
    (r.0, r.1, ap (λ (i : Local). i.number == r.0) (sym same) ∙ r.2)
kept_case cs j ks k true is more (inr b) = more b
kept_case cs j ks k false is more b = more b

kept
    : (cs : List ℕ) (ks : List Local) (k : Local) → Among (filter (λ (j : Local). list_any (λ n. j.number == n) cs) ks) k
    → (n : ℕ) × Among cs n × ((k.number == n) ≡ true)
kept cs [] k b = absurd b
kept cs (j ∷ ks) k b = kept_case cs j ks k (list_any (λ n. j.number == n) cs) refl (kept cs ks k) b

-- a parameter has a number of the run, and is fixed
abbrev IsParameter : ℕ → ℕ → Local → Type 0
IsParameter k count l = (k ≤ l.number) × (l.number < k + count) × (l.hold ≡ Fixed)

parameter_later : (k count : ℕ) (l : Local) → IsParameter (k + 1) count l → IsParameter k (suc count) l
parameter_later k count l h =
    let a = h.0 in
    let b = h.1 in
    let low : k ≤ l.number = omega (arith, a) in
    let high : l.number < k + suc count = omega (arith, b) in (low, high, h.2)

parameter_first : (k count : ℕ) (t : Option TypeData) (l : Local) → parameter k t ≡ l → IsParameter k (suc count) l
parameter_first k count t l is =
    let low : k ≤ k = omega arith in
    let high : k < k + suc count = omega arith in
    subst (λ (m : Local). IsParameter k (suc count) m) is (low, high, refl)

module _ (p : ProgramData) (known : Known) (c : Context) where
  cons_case
      : (k : ℕ) (t : TypeData) (rest : Option (List Local)) (locals : List Local)
      → option_map (λ ls. parameter k (Some t) ∷ ls) rest ≡ Some locals
      → (ls : List Local) × (rest ≡ Some ls) × (parameter k (Some t) ∷ ls ≡ locals)
  cons_case k t None locals e = absurd cc
  cons_case k t (Some ls) locals e = let same : parameter k (Some t) ∷ ls ≡ locals = cc in (ls, refl, same)

  given_case
      : (k : ℕ) (o : Option TypeData) (rest : Option (List Local)) (locals : List Local)
      → option_and_then (λ t. option_map (λ ls. parameter k (Some t) ∷ ls) rest) o ≡ Some locals
      → (t : TypeData) × (ls : List Local) × (rest ≡ Some ls) × (parameter k (Some t) ∷ ls ≡ locals)
  given_case k None rest locals e = absurd cc
  given_case k (Some t) rest locals e = let r = cons_case k t rest locals e in (t, r.0, r.1, r.2)

  either_parameter
      : (k count : ℕ) (t : TypeData) (ls : List Local) (l : Local) → (Among ls l → IsParameter (k + 1) count l)
      → Among (parameter k (Some t) ∷ ls) l → IsParameter k (suc count) l
  either_parameter k count t ls l more (inl is) = parameter_first k count (Some t) l is
  either_parameter k count t ls l more (inr b) = parameter_later k count l (more b)

  given_parameters
      : (params : List ParamTree) (k : ℕ) (given : List TypeData) (locals : List Local) (l : Local)
      → given_locals p known c k params given ≡ Some locals → Among locals l → IsParameter k (length params) l
  given_parameters [] k given locals l e a =
      let same : [] ≡ locals = cc in
      let none : Among [] l = subst (λ ls. Among ls l) (sym same) a in absurd none
  given_parameters (param ∷ more) k given locals l e a =
      let r = given_case k (given_parameter p known c param (first_or_undefined given) param.type_node)
      (given_locals p known c (k + 1) more (rest_of given)) locals e in
      either_parameter k (length more) r.0 r.1 l (given_parameters more (k + 1) (rest_of given) r.1 l r.2)
      (subst (λ ls. Among ls l) (sym r.3) a)

  declared_parameters
      : (params : List ParamTree) (k : ℕ) (l : Local) → Among (declared_locals p known c k params) l
      → IsParameter k (length params) l
  declared_parameters [] k l a = absurd a
  declared_parameters (param ∷ more) k l (inl is) =
      parameter_first k (length more) (declared_parameter p known c param) l is
  declared_parameters (param ∷ more) k l (inr a) =
      parameter_later k (length more) l (declared_parameters more (k + 1) l a)

  -- a declared function sees its parameters
  pub declared_scene
      : (k : ℕ) (params : List ParamTree) → IsScene k (k + length params) (declared_locals p known c k params)
  declared_scene k params =
      fixed_scene k (k + length params) (declared_locals p known c k params) (λ l a. (declared_parameters params k l a).1)
      (λ l a v. not_variable l.hold (declared_parameters params k l a).2 v)

  inside_fixed : (h : Hold) → held_inside h ≡ Variable → ⊥
  inside_fixed Fixed e = absurd cc
  inside_fixed Variable e = absurd cc
  inside_fixed Captured e = absurd cc

  captured_there
      : (cs : List ℕ) (ls : List Local) (l : Local) → Among (captured_locals cs ls) l
      → Among cs l.number × (l.hold ≡ Variable → ⊥)
  captured_there cs ls l a =
      let m = map_among captured_local (filter (λ (k : Local). list_any (λ n. k.number == n) cs) ls) l a in
      let there = kept cs ls m.0 m.1 in
      let numbers : m.0.number ≡ l.number = ap (λ (k : Local). k.number) m.2 in (
        subst (λ n. Among cs n) (sym (eqb-true m.0.number there.0 there.2) ∙ numbers) there.1,
        λ v. inside_fixed m.0.hold (ap (λ (k : Local). k.hold) m.2 ∙ v),
      )

  -- a callback sees its parameters, and locals from outside
  pub callback_scene
      : (f : FunctionData) (given : List TypeData) (locals outside : List Local)
      → given_locals p known c f.first_local f.params given ≡ Some locals → AllByRecursion (λ n. n < f.first_local) f.captured
      → IsScene f.first_local (f.first_local + length f.params) (locals ++ captured_locals f.captured outside)
  callback_scene f given locals outside e outer =
      fixed_scene f.first_local (f.first_local + length f.params) (locals ++ captured_locals f.captured outside)
      (λ l a. below l (among_either locals (captured_locals f.captured outside) l a))
      (λ l a v. none l (among_either locals (captured_locals f.captured outside) l a) v)
    where
      below : (l : Local) → Among locals l ⊎ Among (captured_locals f.captured outside) l → l.number < f.first_local + length f.params
      below l (inl a) = (given_parameters f.params f.first_local given locals l e a).1
      below l (inr a) =
          let t = captured_there f.captured outside l a in
          let b = each_of (λ n. n < f.first_local) f.captured l.number outer t.0 in omega (arith, b)

      none : (l : Local) → Among locals l ⊎ Among (captured_locals f.captured outside) l → l.hold ≡ Variable → ⊥
      none l (inl a) v = not_variable l.hold (given_parameters f.params f.first_local given locals l e a).2 v
      none l (inr a) v = (captured_there f.captured outside l a).1 v

-- ## Runs of numbers

pub run_rises : (fs : List FunctionData) (from : ℕ) (ts : List Taker) (end : ℕ) → FillRun fs from ts end → from ≤ end
unfolding FillRun
run_rises fs from [] end h = omega (arith, h)
run_rises fs from (Declares n ∷ ts) end h = let r = run_rises fs (from + 1) ts end h.1 in omega (arith, r)
run_rises fs from (Holds f ∷ ts) end h = let r = run_rises fs (from + h.0.local_count) ts end h.3 in omega (arith, r)

-- a run in two parts
pub run_parts
    : (fs : List FunctionData) (from : ℕ) (ts us : List Taker) (end : ℕ) → FillRun fs from (ts ++ us) end
    → (mid : ℕ) × FillRun fs from ts mid × FillRun fs mid us end
unfolding FillRun
run_parts fs from [] us end h = (from, refl, h)
run_parts fs from (Declares n ∷ ts) us end h =
    let r = run_parts fs (from + 1) ts us end h.1 in (r.0, (h.0, r.1), r.2)
run_parts fs from (Holds f ∷ ts) us end h =
    let r = run_parts fs (from + h.0.local_count) ts us end h.3 in (r.0, (h.0, h.1, h.2, r.1), r.2)
