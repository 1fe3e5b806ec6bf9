-- Bytes that a sink has taken, one write after another.
use Rattle.std.proofs.Common.{◌≡◌, ◌++◌, ℕ, List, length, take, drop, refl, sym, ap, ◌∙◌, append_assoc, subst}
use Rattle.std.specs.Prelude.{[], ◌∷◌, ◌==◌, Bool, false, Result, Ok, Err, OnOk, OnErr, IsErr}
use Rattle.std.proofs.Common.{inl, inr}
use Rattle.std.proofs.lemmas.Bool.{false≢true}
use Rattle.bx_io.specs.Causes.{HasCause}
use Rattle.bx_engine.specs.Known.{Appends, AppendsPrefix}
use Rattle.bx_engine.specs.Expected.{AppendsOrFails}
use Rattle.std.proofs.lemmas.List.{take-append-drop}

-- two pieces one after the other are their whole
pub appends_both : (a b c xs ys : List ℕ) → Appends a b xs → Appends b c ys → Appends a c (xs ++ ys)
appends_both a b c xs ys h k = k ∙ ap (λ (z : List ℕ). z ++ ys) h ∙ append_assoc a xs ys

-- one more piece from the prefix of the rest
pub one_more : (a b c bytes rest later : List ℕ) (n : ℕ) → later ≡ drop n rest
    → (prefix : List ℕ) × (bytes ≡ prefix ++ rest) × Appends a b prefix → Appends b c (take n rest)
    → (prefix : List ℕ) × (bytes ≡ prefix ++ later) × Appends a c prefix
one_more a b c bytes rest later n e h k = (
  h.0 ++ take n rest,
  h.1 ∙ ap (λ z. h.0 ++ z) (sym (take-append-drop n rest)) ∙ sym (append_assoc h.0 (take n rest) (drop n rest)) ∙ ap (λ z. (h.0 ++ take n rest) ++ z) (sym e),
  appends_both a b c h.0 (take n rest) h.2 k,
)

-- something is left of no bytes nowhere
pub none_of_none : (bytes prefix rest : List ℕ) (b : Bool) → bytes ≡ prefix ++ rest → bytes ≡ [] → b ≡ (length rest == 0) → b ≡ false → ⊥
none_of_none bytes [] [] b e n is not = absurd (false≢true (sym not ∙ is))
none_of_none bytes [] (x ∷ xs) b e n is not = let k : x ∷ xs ≡ [] = sym e ∙ n in cc
none_of_none bytes (x ∷ xs) rest b e n is not = let k : x ∷ (xs ++ rest) ≡ [] = sym e ∙ n in cc

-- the text was appended, or a prefix of it and the count of faults rose
pub appends_or_fails : {F : Type 0} (r : Result Unit F) (before now text : List ℕ) (m n : ℕ)
    → OnOk r (Appends before now text) → OnErr r (AppendsPrefix before now text) → HasCause m n (IsErr r) → AppendsOrFails text before now m n
appends_or_fails (Ok x) before now text m n h k c = inl h
appends_or_fails (Err f) before now text m n h k c = inr (k, c.rose refl)

-- the text was appended or not, where the bytes written are a slice that is the text
pub appends_slice_or_fails : {F : Type 0} (r : Result Unit F) (before now slice text : List ℕ) (m n : ℕ) → slice ≡ text
    → OnOk r (Appends before now slice) → OnErr r (AppendsPrefix before now slice) → HasCause m n (IsErr r) → AppendsOrFails text before now m n
appends_slice_or_fails r before now slice text m n e h k c = subst (λ (t : List ℕ). AppendsOrFails t before now m n) e (appends_or_fails r before now slice m n h k c)
