-- The letter of a kind, a slash and the text of a digest are a name.
use Rattle.std.proofs.Common.{◌≡◌, ℕ, zero, suc, ◌/◌, ◌%◌, ◌<◌, true, ◌&&◌, ◌||◌, List, [], ◌∷◌, length, slice_index, inl, inr, refl, arith}
use Rattle.std.specs.Bool.{nat_le}
use Rattle.std.specs.List.{AllByRecursion, list_all}
use Rattle.std.proofs.lemmas.Bool.{and_parts, leb-true, or_cases}
use Rattle.std.proofs.lemmas.List.Elements.{All-from_recursion}
use Rattle.hex.specs.Hex.{IsBytes, encode_lower, encode_with, lower_digits}
use Rattle.hex.proofs.HexLemmas.{length-encode_with}
use Rattle.bx_digest.specs.Digests.{IsDigest}
use Rattle.bx_io.specs.Names.{IsKindLetter, IsLowerHexDigit, IsName}

lower_is : (c : ℕ) → ((nat_le 48 c && nat_le c 57) || (nat_le 97 c && nat_le c 102)) ≡ true → IsLowerHexDigit c
lower_is c e = elim (or_cases (nat_le 48 c && nat_le c 57) (nat_le 97 c && nat_le c 102) e) [
  | inl h ↦ let p = and_parts (nat_le 48 c) (nat_le c 57) h in inl (leb-true 48 c p.0, leb-true c 57 p.1)
  | inr h ↦ let p = and_parts (nat_le 97 c) (nat_le c 102) h in inr (leb-true 97 c p.0, leb-true c 102 p.1)
]

digit_is : (k : ℕ) (ds : List ℕ) → k < length ds → list_all (λ c. (nat_le 48 c && nat_le c 57) || (nat_le 97 c && nat_le c 102)) ds ≡ true → IsLowerHexDigit (slice_index ds k)
digit_is k [] l e = absurd (omega (arith, l))
digit_is zero (d ∷ ds) l e =
    lower_is d (and_parts ((nat_le 48 d && nat_le d 57) || (nat_le 97 d && nat_le d 102)) (list_all (λ c. (nat_le 48 c && nat_le c 57) || (nat_le 97 c && nat_le c 102)) ds) e).0
digit_is (suc k) (d ∷ ds) l e =
    digit_is k ds (omega (arith, l))
    (and_parts ((nat_le 48 d && nat_le d 57) || (nat_le 97 d && nat_le d 102)) (list_all (λ c. (nat_le 48 c && nat_le c 57) || (nat_le 97 c && nat_le c 102)) ds) e).1

digits_are : (bytes : List ℕ) → IsBytes bytes → AllByRecursion IsLowerHexDigit (encode_lower bytes)
unfolding encode_with
digits_are [] h = tt
digits_are (b ∷ bs) h =
    let small : b < 256 = h 0 in
    (digit_is (b / 16) lower_digits (omega arith) refl, (digit_is (b % 16) lower_digits (omega arith) refl, digits_are bs (λ k. h (suc k))))

pub name_is : (kind : ℕ) (digest : List ℕ) → IsKindLetter kind → IsDigest digest → IsName (kind ∷ 47 ∷ encode_lower digest)
name_is kind digest letter h = record {
  count = omega (arith, length-encode_with lower_digits digest, h.size);
  kind = letter;
  slash = refl;
  digits = All-from_recursion IsLowerHexDigit (encode_lower digest) (digits_are digest h.bytes);
}
