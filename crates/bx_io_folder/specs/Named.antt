-- That names are names in one way at most.
use Rattle.std.specs.Prelude.{◌≡◌, ◌⊎◌, ℕ, List, length, slice_index, drop, All, Option, Some}
use Rattle.std.specs.Coded.{Coded-set, coded_ℕ, ×_prop, Π_prop, le_prop}
use Rattle.std.proofs.Common.{inl, inr, ap, ◌∙◌, arith}
use Rattle.bx_io.specs.Names.{IsKindLetter, IsLowerHexDigit, IsName}
use Rattle.bx_io.specs.Holdings.{Holdings, AreNames}
use Rattle.bx_io.specs.declared.name.TheConstants.{NAME_LENGTH}

same_number : (a b : ℕ) → IsProp (a ≡ b)
same_number a b = Coded-set coded_ℕ a b

-- one of two facts that are never both so
pub either_prop : {A B : Type 0} → IsProp A → IsProp B → (A → B → ⊥) → IsProp (A ⊎ B)
either_prop p q never (inl a) (inl b) = ap inl (p a b)
either_prop p q never (inl a) (inr b) = absurd (never a b)
either_prop p q never (inr a) (inl b) = absurd (never b a)
either_prop p q never (inr a) (inr b) = ap inr (q a b)

other_letter : (c : ℕ) → c ≡ 98 → (c ≡ 119) ⊎ (c ≡ 101) → ⊥
other_letter c x (inl y) = omega arith
other_letter c x (inr y) = omega arith

pub IsKindLetter-prop : (c : ℕ) → IsProp (IsKindLetter c)
IsKindLetter-prop c =
    either_prop (same_number c 98) (either_prop (same_number c 119) (same_number c 101) (λ x y. omega arith)) (other_letter c)

pub IsLowerHexDigit-prop : (c : ℕ) → IsProp (IsLowerHexDigit c)
IsLowerHexDigit-prop c = either_prop (×_prop le_prop le_prop) (×_prop le_prop le_prop) (λ x y. omega (arith, x.1, y.0))

digits_prop : (xs : List ℕ) → IsProp (All IsLowerHexDigit xs)
digits_prop xs = Π_prop (λ k. Π_prop (λ d. Π_prop (λ _. IsLowerHexDigit-prop _)))

pub IsName-prop : (text : List ℕ) → IsProp (IsName text)
IsName-prop text x y =
    let count = same_number (length text) NAME_LENGTH x.count y.count in
    let kind = IsKindLetter-prop (slice_index text 0) x.kind y.kind in
    let slash = same_number (slice_index text 1) 47 x.slash y.slash in
    let digits = digits_prop (drop 2 text) x.digits y.digits in
    ap (λ (c : length text ≡ NAME_LENGTH). record { count = c; kind = x.kind; slash = x.slash; digits = x.digits }) count
    ∙ ap (λ (k : IsKindLetter (slice_index text 0)). record { count = y.count; kind = k; slash = x.slash; digits = x.digits }) kind
    ∙ ap (λ (s : slice_index text 1 ≡ 47). record { count = y.count; kind = y.kind; slash = s; digits = x.digits }) slash
    ∙ ap (λ (d : All IsLowerHexDigit (drop 2 text)). record { count = y.count; kind = y.kind; slash = y.slash; digits = d }) digits

pub AreNames-prop : (held : Holdings) → IsProp (AreNames held)
AreNames-prop held x y =
    ap (λ each. record { each = each }) (Π_prop (λ name. Π_prop (λ bytes. Π_prop (λ _. IsName-prop name))) x.each y.each)

-- each held name that is told is a name
abbrev pub ToldNames : Option Holdings → Type 0
ToldNames told = (held : Holdings) → told ≡ Some held → AreNames held

pub ToldNames-prop : (told : Option Holdings) → IsProp (ToldNames told)
ToldNames-prop told = Π_prop (λ held. Π_prop (λ _. AreNames-prop held))
