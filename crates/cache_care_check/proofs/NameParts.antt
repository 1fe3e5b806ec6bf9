-- What a name is of, by its first byte, and the digest in it.
use Rattle.std.proofs.Common.{◌≡◌, ℕ, ◌+◌, ◌-◌, ◌<◌, ◌≤◌, zero, suc, List, [], ◌∷◌, ◌++◌, length, get_or, drop, Option, refl, sym, ap, ◌∙◌, subst, inl, inr, arith}
use Rattle.std.specs.Prelude.{All, Contains, slice_index}
use Rattle.std.proofs.lemmas.List.{length-drop}
use Rattle.std.proofs.lemmas.List.Elements.{All-weaker}
use Rattle.hex.specs.Hex.{encode_lower, lower_digits}
use Rattle.bx_digest.specs.Digests.{IsHexText}
use Rattle.bx_io.specs.Names.{IsKindLetter, IsLowerHexDigit, IsName}
use Rattle.memo_format.specs.StoreNames.{at_blob, at_entry, at_list}

-- ## Digits

number_at : (k : ℕ) → k < 10 → get_or lower_digits k (48 + k) ≡ 48 + k
number_at zero l = refl
number_at (suc zero) l = refl
number_at (suc (suc zero)) l = refl
number_at (suc (suc (suc zero))) l = refl
number_at (suc (suc (suc (suc zero)))) l = refl
number_at (suc (suc (suc (suc (suc zero))))) l = refl
number_at (suc (suc (suc (suc (suc (suc zero)))))) l = refl
number_at (suc (suc (suc (suc (suc (suc (suc zero))))))) l = refl
number_at (suc (suc (suc (suc (suc (suc (suc (suc zero)))))))) l = refl
number_at (suc (suc (suc (suc (suc (suc (suc (suc (suc zero))))))))) l = refl
number_at (suc (suc (suc (suc (suc (suc (suc (suc (suc (suc k)))))))))) l = absurd (omega (arith, l))

letter_at : (k : ℕ) → k < 6 → get_or lower_digits (k + 10) (97 + k) ≡ 97 + k
letter_at zero l = refl
letter_at (suc zero) l = refl
letter_at (suc (suc zero)) l = refl
letter_at (suc (suc (suc zero))) l = refl
letter_at (suc (suc (suc (suc zero)))) l = refl
letter_at (suc (suc (suc (suc (suc zero))))) l = refl
letter_at (suc (suc (suc (suc (suc (suc k)))))) l = absurd (omega (arith, l))

digit_there : (c : ℕ) → IsLowerHexDigit c → Contains lower_digits c
digit_there c h = elim h [
  | inl n ↦
      let same : 48 + (c - 48) ≡ c = omega (arith, n.0) in
      (c - 48, omega (arith, n.0, n.1), subst (λ (x : ℕ). get_or lower_digits (c - 48) x ≡ x) same (number_at (c - 48) (omega (arith, n.0, n.1))))
  | inr n ↦
      let same : 97 + (c - 97) ≡ c = omega (arith, n.0) in
      (c - 97 + 10, omega (arith, n.0, n.1), subst (λ (x : ℕ). get_or lower_digits (c - 97 + 10) x ≡ x) same (letter_at (c - 97) (omega (arith, n.0, n.1))))
]

-- after the letter and the slash a name is the text of a digest
pub hex_text : (name : List ℕ) → IsName name → IsHexText (drop 2 name)
hex_text name h = record {
  size = omega (arith, length-drop 2 name, h.count);
  digits = All-weaker IsLowerHexDigit (Contains lower_digits) digit_there (drop 2 name) h.digits;
}

-- ## Names

name_split : (name : List ℕ) (kind : ℕ) → length name ≡ 66 → slice_index name 0 ≡ kind → slice_index name 1 ≡ 47 → name ≡ kind ∷ 47 ∷ drop 2 name
name_split [] kind l k s = absurd (omega (arith, l))
name_split (a ∷ []) kind l k s = absurd (omega (arith, l))
name_split (a ∷ b ∷ rest) kind l k s =
    ap (λ (x : ℕ). x ∷ b ∷ rest) k ∙ ap (λ (x : ℕ). kind ∷ x ∷ rest) s

named_by : (name digest : List ℕ) (kind : ℕ) → IsName name → slice_index name 0 ≡ kind → encode_lower digest ≡ drop 2 name
    → name ≡ kind ∷ 47 ∷ encode_lower digest
named_by name digest kind h k e =
    name_split name kind h.count k h.slash ∙ ap (λ (ds : List ℕ). kind ∷ 47 ∷ ds) (sym e)

pub content_named : (name digest : List ℕ) → IsName name → slice_index name 0 ≡ 98 → encode_lower digest ≡ drop 2 name → name ≡ at_blob digest
content_named name digest h k e = named_by name digest 98 h k e

pub entry_named : (name digest : List ℕ) → IsName name → slice_index name 0 ≡ 101 → encode_lower digest ≡ drop 2 name → name ≡ at_entry digest
entry_named name digest h k e = named_by name digest 101 h k e

pub list_named : (name digest : List ℕ) → IsName name → (slice_index name 0 ≡ 98 → ⊥) → (slice_index name 0 ≡ 101 → ⊥)
    → encode_lower digest ≡ drop 2 name → name ≡ at_list digest
list_named name digest h b e text = elim h.kind [
  | inl x ↦ absurd (b x)
  | inr x ↦ elim x [ inl y ↦ named_by name digest 119 h y text | inr y ↦ absurd (e y) ]
]
