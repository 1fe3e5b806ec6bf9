-- What is passed from a number on.
use Rattle.std.proofs.Common.{◌&&◌, ◌<◌, ◌≡◌, ℕ, Bool, None, Option, Some, arith, false, inl, inr, max, refl, true}
use Rattle.std.proofs.lemmas.Bool.{cases_lt}
use Rattle.dscript_types_scenes.specs.Typings.{FromOn, both_right}

and_true : (s t : Bool) → s ≡ true → t ≡ true → (s && t) ≡ true
and_true true true e f = refl
and_true true false e f = cc
and_true false t e f = cc

first_false : (s t : Bool) → s ≡ false → (s && t) ≡ false
first_false false t e = refl
first_false true t e = cc

second_false : (s t : Bool) → t ≡ false → (s && t) ≡ false
second_false false t e = refl
second_false true false e = refl
second_false true true e = cc

before_both
    : (a b n : ℕ) (s t : Bool) → FromOn (Some a) n s → FromOn (Some b) n t → n < max a b → (s && t) ≡ false
before_both a b n s t h k l = elim (cases_lt n a) [
  | inl m ↦ first_false s t (h.1 m)
  | inr m ↦ second_false s t (k.1 (omega (arith, l, m)))
]

pub both_from
    : (a b : Option ℕ) (n : ℕ) (s t : Bool) → FromOn a n s → FromOn b n t → FromOn (both_right a b) n (s && t)
both_from (Some a) (Some b) n s t h k = (
  λ l. and_true s t (h.0 (omega (arith, l))) (k.0 (omega (arith, l))),
  before_both a b n s t h k,
)
both_from (Some a) None n s t h k = second_false s t k
both_from None (Some b) n s t h k = first_false s t h
both_from None None n s t h k = first_false s t h
