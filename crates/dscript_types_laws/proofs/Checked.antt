-- What has a type within a number is checked where all is known that is known within it.
use Rattle.std.proofs.Common.{◌≡◌, ℕ, zero, suc, ◌+◌, ◌-◌, ◌<◌, Bool, true, false, ◌&&◌, List, [], ◌∷◌, Option, Some, None, refl, sym, ap, ◌∙◌, subst, arith}
use Rattle.std.specs.List.{AllZip, list_all}
use Rattle.dscript_ast.specs.TypeTree.{TypeTree}
use Rattle.dscript_program.specs.BoundTree.{ExprData}
use Rattle.dscript_program.specs.ProgramData.{FunctionData, ProgramData}
use Rattle.dscript_types_meaning.specs.Types.{TypeData}
use Rattle.dscript_types_meaning.specs.Fits.{fits_some}
use Rattle.dscript_types_meaning.specs.Contexts.{Context, Known, Standing, Types, needs, variable_type}
use Rattle.dscript_types_meaning.specs.Lookups.{function_at}
use Rattle.dscript_types_meaning.specs.Annotations.{meant}
use Rattle.dscript_types_meaning.specs.Bodies.{Spot, Alone, Assigned, Declared, Looped, Returned, Use, callback_uses, fits_note}
use Rattle.dscript_types_meaning.specs.Bodies.{is_right_at, standing_uses, use_type}
use Rattle.dscript_types_meaning.specs.Typed.{body_passes, has_type, known_within, with_bodies_that}
use Rattle.dscript_types_values.proofs.Among.{and_left, and_right}
use Rattle.dscript_types_laws.specs.Invariants.{is_checked}
use Rattle.dscript_types_laws.proofs.Rising.{Below, ContextBelow, KnownBelow, StandingBelow, TypesBelow, ask_itself, both_below}
use Rattle.dscript_types_laws.proofs.Rising.{context_itself, gives_below, same_place, then_below, variable_below}
use Rattle.dscript_types_laws.proofs.RisingBodies.{UseBelow, body_below, found_below, one_more}
use Rattle.dscript_types_laws.proofs.RisingForms.{expr_below}
use Rattle.dscript_types_laws.proofs.RisingNotes.{meant_below}

-- ## What is known within more

pub knows_itself : (p : ProgramData) (n : ℕ) → KnownBelow (known_within p n) (known_within p n)
unfolding known_within
knows_itself p zero a b below t e = absurd cc
knows_itself p (suc n) a b below t e = found_below p (known_within p n) (known_within p n) (knows_itself p n) a b below t e

knows_then : (k l m : Known) → KnownBelow k l → KnownBelow l m → KnownBelow k m
knows_then k l m one other a b below t e = other a b below t (one a a (ask_itself a) t e)

pub knows_more : (p : ProgramData) (d m n : ℕ) → n ≡ d + m → KnownBelow (known_within p m) (known_within p n)
knows_more p zero m n e =
    let same : m ≡ n = omega (arith, e) in
    subst (λ k. KnownBelow (known_within p m) (known_within p k)) same (knows_itself p m)
knows_more p (suc d) m n e =
    let same : suc (d + m) ≡ n = omega (arith, e) in
    subst (λ k. KnownBelow (known_within p m) (known_within p k)) same
    (knows_then (known_within p m) (known_within p (d + m)) (known_within p (suc (d + m))) (knows_more p d m (d + m) refl)
    (one_more p (d + m)))

-- ## Expressions where they stand

-- what holds there holds here
abbrev Implied : Bool → Bool → Type 0
Implied a b = a ≡ true → b ≡ true

needs_more : (a b : Bool) → Implied a b → TypesBelow (needs a) (needs b)
needs_more true b more = subst (λ c. TypesBelow (needs true) (needs c)) (sym (more refl)) (gives_below tt)
needs_more false b more = record { at = λ x bodies e. absurd cc }

some_more : (t : TypeData) (o q : Option TypeData) → Below o q → Implied (fits_some t o) (fits_some t q)
some_more t None q below e = absurd cc
some_more t (Some u) q below e = ap (fits_some t) (below u refl) ∙ e

module _ (p : ProgramData) (k l : Known) (knows : KnownBelow k l) where
  note_more
      : (c d : Context) (t : TypeData) (note : Option TypeTree) → ContextBelow c d
      → Implied (fits_note p k c t note) (fits_note p l d t note)
  note_more c d t None below e = e
  note_more c d t (Some annotation) below e =
      some_more t (meant p k c annotation) (meant p l d annotation) (meant_below p k l knows c d (same_place below) annotation) e

  right_more
      : (c d : Context) (spot : Spot) (t : TypeData) → ContextBelow c d
      → Implied (is_right_at p k c spot t) (is_right_at p l d spot t)
  right_more c d Alone t below e = e
  right_more c d (Declared note) t below e = note_more c d t note below e
  right_more c d (Assigned n) t below e =
      some_more t (variable_type c n) (variable_type d n) (variable_below c d n below) e
  right_more c d Looped t below e = e
  right_more c d (Returned note) t below e = note_more c d t note below e

  use_case
      : (u v : Use) → u.expr ≡ v.expr → u.spot ≡ v.spot → ContextBelow u.context v.context
      → TypesBelow (use_type p k u) (use_type p l (record v { expr = u.expr; spot = u.spot }))
  unfolding use_type
  use_case u v e f below =
      then_below _ _ _ _ (expr_below p k l knows u.expr u.context v.context below)
      (λ t. both_below _ _ _ _ (needs_more _ _ (right_more u.context v.context u.spot t below)) (gives_below t))

  use_below : (u v : Use) → UseBelow u v → TypesBelow (use_type p k u) (use_type p l v)
  use_below u v below =
      subst (λ w. TypesBelow (use_type p k u) (use_type p l w)) (same below.0 below.1)
      (use_case u v below.0 below.1 below.2)
    where
      same : u.expr ≡ v.expr → u.spot ≡ v.spot → ◌≡◌ {A = Use} (record v { expr = u.expr; spot = u.spot }) v
      same e f = ap (λ (x : ExprData). record v { expr = x; spot = u.spot }) e ∙ ap (λ (y : Spot). record v { spot = y }) f

  callback_below
      : (c d : Context) (f : Option FunctionData) → ContextBelow c d
      → AllZip UseBelow (callback_uses p k c f) (callback_uses p l d f)
  callback_below c d None below = tt
  callback_below c d (Some f) below = body_below p k l knows f.body None c d below

  standing_below
      : (a b : Standing) → StandingBelow a b → AllZip UseBelow (standing_uses p k a) (standing_uses p l b)
  standing_below a b below =
      subst (λ n. AllZip UseBelow (standing_uses p k a) (callback_uses p l b.context (function_at p n))) below.0
      (callback_below a.context b.context (function_at p a.number) below.1)

all_zip
    : {X Y : Type 0} (R : X → Y → Type 0) (f : X → Bool) (g : Y → Bool) (xs : List X) (ys : List Y)
    → ((x : X) (y : Y) → R x y → f x ≡ true → g y ≡ true) → AllZip R xs ys → list_all f xs ≡ true → list_all g ys ≡ true
all_zip R f g [] [] each zip e = refl
all_zip R f g [] (y ∷ ys) each zip e = absurd zip
all_zip R f g (x ∷ xs) [] each zip e = absurd zip
all_zip R f g (x ∷ xs) (y ∷ ys) each zip e =
    both (g y) (list_all g ys) (each x y zip.0 (and_left (f x) (list_all f xs) e))
    (all_zip R f g xs ys each zip.1 (and_right (f x) (list_all f xs) e))
  where
    both : (a b : Bool) → a ≡ true → b ≡ true → (a && b) ≡ true
    both true true p q = refl
    both true false p q = absurd cc
    both false b p q = absurd cc

module _ (p : ProgramData) (k : Known) where
  -- all is known that is known within less than this
  abbrev pub Reached : ℕ → Type 0
  Reached n = (m : ℕ) → m < n → KnownBelow (known_within p m) k

  body_case
      : (n : ℕ) (a b : Standing)
      → ((u v : Use) → UseBelow u v → has_type p n u ≡ true → is_checked p k n v ≡ true) → Reached n
      → StandingBelow a b → body_passes p n (λ v. has_type p n v) a ≡ true
      → list_all (λ v. is_checked p k n v) (standing_uses p k b) ≡ true
  body_case zero a b each reached below e = absurd cc
  body_case (suc n) a b each reached below e =
      all_zip UseBelow (λ v. has_type p (suc n) v) (λ v. is_checked p k (suc n) v) (standing_uses p (known_within p n) a)
      (standing_uses p k b) each
      (standing_below p (known_within p n) k (reached n (omega arith)) a b below) e

  whole_case
      : (n : ℕ) (o q : Types TypeData)
      → ((u v : Use) → UseBelow u v → has_type p n u ≡ true → is_checked p k n v ≡ true) → Reached n
      → TypesBelow o q → with_bodies_that (body_passes p n (λ v. has_type p n v)) o ≡ true
      → with_bodies_that (λ body. list_all (λ v. is_checked p k n v) (standing_uses p k body)) q ≡ true
  whole_case n None q each reached below e = absurd cc
  whole_case n (Some r) q each reached below e =
      let b = below.at r.0 r.1 refl in
      ap (with_bodies_that (λ body. list_all (λ v. is_checked p k n v) (standing_uses p k body))) b.1
      ∙ all_zip StandingBelow (body_passes p n (λ v. has_type p n v))
      (λ body. list_all (λ v. is_checked p k n v) (standing_uses p k body)) r.1 b.0
      (λ x y zip. body_case n x y each reached zip) b.2 e

  pub checked_below
      : (n : ℕ) (u v : Use) → Reached n → UseBelow u v → has_type p n u ≡ true → is_checked p k n v ≡ true
  unfolding has_type is_checked
  checked_below zero u v reached below e = absurd cc
  checked_below (suc n) u v reached below e =
      whole_case n (use_type p (known_within p n) u) (use_type p k v)
      (λ x y zip. checked_below n x y (λ m less. reached m (omega (arith, less))) zip) (λ m less. reached m (omega (arith, less)))
      (use_below p (known_within p n) k (reached n (omega arith)) u v below) e

-- all that is known within less is known within this number
pub reached_within : (p : ProgramData) (n : ℕ) → Reached p (known_within p n) (suc n)
reached_within p n m less = gap (n - m) refl
  where
    gap : (d : ℕ) → n - m ≡ d → KnownBelow (known_within p m) (known_within p n)
    gap d e = let same : n ≡ d + m = omega (arith, e, less) in knows_more p d m n same

-- each use of this list is checked where it has a type
pub all_checked
    : (p : ProgramData) (n : ℕ) (us : List Use) → list_all (has_type p (suc n)) us ≡ true
    → list_all (is_checked p (known_within p n) (suc n)) us ≡ true
all_checked p n [] e = refl
all_checked p n (u ∷ us) e =
    both (is_checked p (known_within p n) (suc n) u) (list_all (is_checked p (known_within p n) (suc n)) us)
    (checked_below p (known_within p n) (suc n) u u (reached_within p n) (refl, refl, context_itself u.context)
    (and_left (has_type p (suc n) u) (list_all (has_type p (suc n)) us) e))
    (all_checked p n us (and_right (has_type p (suc n) u) (list_all (has_type p (suc n)) us) e))
  where
    both : (a b : Bool) → a ≡ true → b ≡ true → (a && b) ≡ true
    both true true p q = refl
    both true false p q = absurd cc
    both false b p q = absurd cc
