-- The locals that a callback captures, one after another.
use Rattle.std.proofs.Common.{◌++◌, ◌+◌, ◌<◌, ◌==◌, ◌||◌, ◌∙◌, ◌∷◌, ◌≡◌, ◌≤◌, ℕ, Bool, List, None, Option, Some, [], ap, arith, cond, false, get_or, length, refl, suc, sym, take, true, zero}
use Rattle.std.proofs.lemmas.Bool.{eqb-true}
use Rattle.std.proofs.lemmas.List.Folds.{list_any-append}
use Rattle.std.specs.List.{list_any}
use Rattle.std.specs.Option.{option_map}
use Rattle.dscript_types_known.specs.Matching.{FoundLocal, FoundLocals, captured_inside}
use Rattle.dscript_types_known.specs.Views.{locals_at}
use Rattle.dscript_types_known.specs.declared.locals.Locals.{Locals}
use Rattle.dscript_types_scenes.specs.Functions.{HasCaptured, IsCaptured, captured_seen}
use Rattle.dscript_types_scenes.specs.declared.scene.Scene.{Scene}

abbrev not_seen : Option FoundLocal
not_seen = None

next : (i : ℕ) → suc i ≡ i + 1
next i = omega arith

take_next : (xs : List ℕ) (i : ℕ) (x : ℕ) → i < length xs → x ≡ get_or xs i x → take (i + 1) xs ≡ take i xs ++ x ∷ []
take_next xs i x l e = ap (λ k. take k xs) (sym (next i)) ∙ taken xs i x l e
  where
    taken : (xs : List ℕ) (i : ℕ) (x : ℕ) → i < length xs → x ≡ get_or xs i x → take (suc i) xs ≡ take i xs ++ x ∷ []
    taken [] i x l e = absurd (omega (arith, l))
    taken (y ∷ xs) zero x l e = ap (λ z. z ∷ []) (sym e)
    taken (y ∷ xs) (suc i) x l e = ap (λ zs. y ∷ zs) (taken xs i x (omega (arith, l)) e)

take_all : (xs : List ℕ) (i : ℕ) → length xs ≤ i → take i xs ≡ xs
take_all xs zero l = nothing xs l
  where
    nothing : (xs : List ℕ) → length xs ≤ 0 → take 0 xs ≡ xs
    nothing [] l = refl
    nothing (x ∷ xs) l = absurd (omega (arith, l))
take_all [] (suc i) l = refl
take_all (x ∷ xs) (suc i) l = ap (λ ys. x ∷ ys) (take_all xs i (omega (arith, l)))

abbrev among : List ℕ → ℕ → Bool
among numbers other = list_any (λ n. other == n) numbers

abbrev inside_of : Scene → List ℕ → FoundLocals
inside_of scene numbers other = cond (among numbers other) (option_map captured_inside (locals_at scene.locals other)) None

-- with one more number
with_more
    : (a b : Bool) (k : Option FoundLocal) → cond (a || (b || false)) k None ≡ cond b k (cond a k None)
with_more true true k = refl
with_more true false k = refl
with_more false true k = refl
with_more false false k = refl

module _ (scene : Scene) (numbers : List ℕ) (i : ℕ) (number : ℕ) (l : i < length numbers) (e : number ≡ get_or numbers i number) where
  one_more : (other : ℕ)
      → inside_of scene (take (i + 1) numbers) other
      ≡ cond (other == number) (option_map captured_inside (locals_at scene.locals other)) (inside_of scene (take i numbers) other)
  one_more other =
      ap (λ ns. inside_of scene ns other) (take_next numbers i number l e)
      ∙ ap (λ b. cond b (option_map captured_inside (locals_at scene.locals other)) None)
      (list_any-append (λ n. other == n) (take i numbers) (number ∷ []))
      ∙ with_more (among (take i numbers) other) (other == number) (option_map captured_inside (locals_at scene.locals other))

  -- it is seen
  pub captures_more
      : (old new : Locals) (f : FoundLocal) → IsCaptured scene (take i numbers) old → Some f ≡ locals_at scene.locals number
      → ((other : ℕ) → locals_at new other ≡ cond (other == number) (Some (captured_inside f)) (locals_at old other))
      → IsCaptured scene (take (i + 1) numbers) new
  captures_more old new f kept there put other =
      put other ∙ ap (cond (other == number) (Some (captured_inside f))) (kept other)
      ∙ by_number (other == number) refl ∙ sym (one_more other)
    where
      by_number
          : (b : Bool) → (other == number) ≡ b
          → cond b (Some (captured_inside f)) (inside_of scene (take i numbers) other)
          ≡ cond b (option_map captured_inside (locals_at scene.locals other)) (inside_of scene (take i numbers) other)
      by_number true same = ap (option_map captured_inside) (there ∙ ap (locals_at scene.locals) (sym (eqb-true other number same)))
      by_number false same = refl

  -- it is not seen
  pub captures_none
      : (old : Locals) → IsCaptured scene (take i numbers) old → None ≡ locals_at scene.locals number
      → IsCaptured scene (take (i + 1) numbers) old
  captures_none old kept none other = kept other ∙ by_number (other == number) refl ∙ sym (one_more other)
    where
      nothing : (b : Bool) → cond b (option_map captured_inside not_seen) not_seen ≡ not_seen
      nothing true = refl
      nothing false = refl

      by_number
          : (b : Bool) → (other == number) ≡ b
          → inside_of scene (take i numbers) other
          ≡ cond b (option_map captured_inside (locals_at scene.locals other)) (inside_of scene (take i numbers) other)
      by_number true same =
          let gone : locals_at scene.locals other ≡ None = ap (locals_at scene.locals) (eqb-true other number same) ∙ sym none in
          ap (λ (o : Option FoundLocal). cond (among (take i numbers) other) (option_map captured_inside o) None) gone
          ∙ nothing (among (take i numbers) other) ∙ sym (ap (option_map captured_inside) gone)
      by_number false same = refl

-- one that is seen is put there as it is inside
pub captured_put
    : (scene : Scene) (number : ℕ) (old new : Locals) (f g : FoundLocal) → Some f ≡ locals_at scene.locals number → g ≡ captured_inside f
    → ((other : ℕ) → locals_at new other ≡ cond (other == number) (Some g) (locals_at old other)) → HasCaptured scene number old new
captured_put scene number old new f g there is put other =
    put other ∙ ap (λ (x : FoundLocal). cond (other == number) (Some x) (locals_at old other)) is
    ∙ ap (λ o. captured_seen o (locals_at old) number other) there

-- one more, if it is seen
pub captures_next
    : (scene : Scene) (numbers : List ℕ) (i : ℕ) (number : ℕ) (l : i < length numbers) (e : number ≡ get_or numbers i number)
    (old new : Locals) → IsCaptured scene (take i numbers) old → HasCaptured scene number old new
    → IsCaptured scene (take (i + 1) numbers) new
captures_next scene numbers i number l e old new kept has =
    by_seen (locals_at scene.locals number) refl has
  where
    by_seen
        : (o : Option FoundLocal) → o ≡ locals_at scene.locals number
        → ((other : ℕ) → locals_at new other ≡ captured_seen o (locals_at old) number other)
        → IsCaptured scene (take (i + 1) numbers) new
    by_seen None none adds = λ other.
        adds other ∙ captures_none scene numbers i number l e old kept none other
    by_seen (Some f) some adds = captures_more scene numbers i number l e old new f kept some adds

pub captures_begin
    : (scene : Scene) (numbers : List ℕ) (locals : Locals) → ((other : ℕ) → locals_at locals other ≡ None)
    → IsCaptured scene (take 0 numbers) locals
captures_begin scene [] locals none other = none other
captures_begin scene (n ∷ numbers) locals none other = none other

pub captures_end
    : (scene : Scene) (numbers : List ℕ) (i : ℕ) (locals : Locals) → length numbers ≤ i → IsCaptured scene (take i numbers) locals
    → IsCaptured scene numbers locals
captures_end scene numbers i locals l kept other = kept other ∙ ap (λ ns. inside_of scene ns other) (take_all numbers i l)
