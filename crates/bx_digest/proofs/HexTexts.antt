-- The texts of digests are just the texts of 64 hexadecimal digits in lower case.
use Rattle.std.proofs.Common.{false, ◌≡◌, ℕ, zero, suc, ◌+◌, ◌*◌, ◌/◌, ◌%◌, ◌<◌, List, [], ◌∷◌, length, slice_index, refl, sym, ap, ◌∙◌, arith, lit<, Result, Ok, Err}
use Rattle.std.specs.List.{All, Contains}
use Rattle.std.specs.Result.{MatchResult, is_err}
use Rattle.std.proofs.lemmas.List.{get_or_default}
use Rattle.std.proofs.lemmas.List.Elements.{All-cons, All-head, All-nil, All-tail}
use Rattle.hex.specs.Hex.{IsBytes, decode_sized, encode_lower, encode_with, lower_digits}
use Rattle.hex.specs.declared.error.FromHexError.{FromHexError}
use Rattle.hex.proofs.HexLemmas.{length-encode_with, decode_of-ok, decode_sized-encode_lower, decode_sized-ok, decode_sized-twice}
use Rattle.bx_digest.specs.Digests.{IsDigest, IsHexText}

-- the digit at a place below 16 is one of the digits
is_digit_at : (k : ℕ) → k < 16 → Contains lower_digits (slice_index lower_digits k)
is_digit_at k l = (k, l, get_or_default lower_digits k _ 0 l)

-- what is written of bytes are digits
digits_of_bytes : (bytes : List ℕ) → IsBytes bytes → All (Contains lower_digits) (encode_lower bytes)
unfolding encode_with
digits_of_bytes [] h = All-nil (Contains lower_digits)
digits_of_bytes (b ∷ rest) h =
    let small : b < 256 = h 0 in
    All-cons (Contains lower_digits) _ (slice_index lower_digits (b % 16) ∷ encode_lower rest) (is_digit_at (b / 16) (omega arith))
    (All-cons (Contains lower_digits) _ (encode_lower rest) (is_digit_at (b % 16) (omega arith)) (digits_of_bytes rest (λ k. h (suc k))))

pub hex_text_of_digest : (digest : List ℕ) → IsDigest digest → IsHexText (encode_lower digest)
hex_text_of_digest digest h = record {
  size = omega (arith, length-encode_with lower_digits digest, h.size);
  digits = digits_of_bytes digest h.bytes;
}

-- bytes that are written as a text
pub record Writes (text : List ℕ) : Type 0 where
  pub bytes : List ℕ
  pub are_bytes : IsBytes bytes
  pub text_is : encode_lower bytes ≡ text

no_bytes : IsBytes []
no_bytes zero = lit< tt
no_bytes (suc k) = lit< tt

more_bytes : (b : ℕ) (bytes : List ℕ) → b < 256 → IsBytes bytes → IsBytes (b ∷ bytes)
more_bytes b bytes small h zero = small
more_bytes b bytes small h (suc k) = h k

-- two digits and what is written after them
with_pair : (x y : ℕ) (rest : List ℕ) → Contains lower_digits x → Contains lower_digits y → Writes rest → Writes (x ∷ y ∷ rest)
unfolding encode_with
with_pair x y rest (k, kl, kis) (m, ml, mis) w =
    let k16 : k < 16 = kl in
    let m16 : m < 16 = ml in
    let high : (k * 16 + m) / 16 ≡ k = omega arith in
    let low : (k * 16 + m) % 16 ≡ m = omega arith in
    record {
      bytes = (k * 16 + m) ∷ w.bytes;
      are_bytes = more_bytes (k * 16 + m) w.bytes (omega arith) w.are_bytes;
      text_is =
          ap (λ i. slice_index lower_digits i ∷ slice_index lower_digits ((k * 16 + m) % 16) ∷ encode_lower w.bytes) high
          ∙ ap (λ i. slice_index lower_digits k ∷ slice_index lower_digits i ∷ encode_lower w.bytes) low
          ∙ ap (λ d. d ∷ slice_index lower_digits m ∷ encode_lower w.bytes) (get_or_default lower_digits k 0 x kl ∙ kis)
          ∙ ap (λ d. x ∷ d ∷ encode_lower w.bytes) (get_or_default lower_digits m 0 y ml ∙ mis)
          ∙ ap (λ t. x ∷ y ∷ t) w.text_is;
    }

-- a text of digits, of even length, is written of some bytes
written_of : (text : List ℕ) → length text % 2 ≡ 0 → All (Contains lower_digits) text → Writes text
unfolding encode_with
written_of [] even h = record { bytes = []; are_bytes = no_bytes; text_is = refl }
written_of (x ∷ []) even h = absurd (omega (arith, even))
written_of (x ∷ y ∷ rest) even h =
    let tail = All-tail (Contains lower_digits) x (y ∷ rest) h in
    with_pair x y rest (All-head (Contains lower_digits) x (y ∷ rest) h) (All-head (Contains lower_digits) y rest tail)
    (written_of rest (omega (arith, even)) (All-tail (Contains lower_digits) y rest tail))

-- a digest with a text
pub record DigestWith (text : List ℕ) : Type 0 where
  pub digest : List ℕ
  pub is_digest : IsDigest digest
  pub text_is : encode_lower digest ≡ text

pub digest_of_hex_text : (text : List ℕ) → IsHexText text → DigestWith text
digest_of_hex_text text h =
    let w = written_of text (omega (arith, h.size)) h.digits in
    record {
      digest = w.bytes;
      is_digest = record { size = omega (arith, length-encode_with lower_digits w.bytes, ap length w.text_is, h.size); bytes = w.are_bytes };
      text_is = w.text_is;
    }

-- a text of hexadecimal digits in lower case, as many as a digest has, is read as its digest
pub decoded : (text : List ℕ) → IsHexText text → (d : DigestWith text) × (decode_sized text 32 ≡ Ok d.digest)
decoded text h =
    let d = digest_of_hex_text text h in
    (d, ap (λ t. decode_sized t 32) (sym d.text_is) ∙ decode_sized-encode_lower d.digest 32 d.is_digest.size d.is_digest.bytes)

-- what a text decodes to is a digest
decoded_is_digest : (text bytes : List ℕ) → decode_sized text 32 ≡ Ok bytes → IsDigest bytes
decoded_is_digest text bytes e =
    let size = decode_sized-ok text 32 bytes e in
    let ok = decode_of-ok text bytes (sym (decode_sized-twice text 32 size) ∙ e) in
    record { size = omega (arith, size, ok.2); bytes = ok.3 }

-- what decoding into 32 bytes leaves, where it answers Ok
left_by : (text out : List ℕ) (r : Result Unit FromHexError) (d : Result (List ℕ) FromHexError) → decode_sized text 32 ≡ d
    → MatchResult d (λ bytes. (r ≡ Ok tt) × (out ≡ bytes)) (λ e. r ≡ Err e) → is_err r ≡ false → IsDigest out
left_by text out r (Ok bytes) e h ok = decoded_is_digest text out (e ∙ ap Ok (sym h.1))
left_by text out r (Err fault) e h ok = cc

pub left_is_digest : (text out : List ℕ) (r : Result Unit FromHexError)
    → MatchResult (decode_sized text 32) (λ bytes. (r ≡ Ok tt) × (out ≡ bytes)) (λ e. r ≡ Err e) → is_err r ≡ false → IsDigest out
left_is_digest text out r h ok = left_by text out r (decode_sized text 32) refl h ok
