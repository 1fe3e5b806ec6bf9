-- A text has the seal that fits exactly where it is its body with that seal.
use Rattle.std.proofs.Common.{◌≡◌, ℕ, ◌-◌, ◌<◌, ◌≤◌, cond, List, [], ◌∷◌, ◌++◌, length, take, drop, Option, Some, None, refl, sym, ap, ◌∙◌, arith, length-append}
use Rattle.std.specs.Str.{bytes_eq}
use Rattle.std.proofs.lemmas.List.{take_at, drop_at, take-append-drop}
use Rattle.std.proofs.lemmas.Option.{cond_some}
use Rattle.std.proofs.lemmas.Slice.Eq.{bytes_eq-Decides}
use Rattle.sha2.specs.Sha256.{sha256}
use Rattle.hex.specs.Hex.{encode_lower, lower_digits}
use Rattle.hex.proofs.HexLemmas.{length-encode_with}
use Rattle.sha2.proofs.Facts256.{length-sha256}
use Rattle.memo_format.specs.Seals.{body_of, seal_line, sealed, unsealed}

-- the line of a seal has 70 bytes
seal_bytes : (body : List ℕ) → length (seal_line body) ≡ 70
seal_bytes body =
    omega (arith, length-append (encode_lower (sha256 body)) (10 ∷ []), length-encode_with lower_digits (sha256 body), length-sha256 body)

pub unsealed_sound : (text body : List ℕ) → unsealed text ≡ Some body → text ≡ sealed body
unsealed_sound text body e =
    let b = cond_some (bytes_eq (sealed (body_of text)) text) (body_of text) body e in
    sym ((bytes_eq-Decides (sealed (body_of text)) text).0 b.0) ∙ ap sealed b.1

body_again : (body : List ℕ) → body_of (sealed body) ≡ body
body_again body =
    take_at body (seal_line body) (length (sealed body) - 70) (omega (arith, length-append body (seal_line body), seal_bytes body))

pub unsealed_again : (body : List ℕ) → unsealed (sealed body) ≡ Some body
unsealed_again body =
    ap (λ b. cond (bytes_eq (sealed b) (sealed body)) (Some b) None) (body_again body)
    ∙ ap (λ t. cond t (Some body) None) ((bytes_eq-Decides (sealed body) (sealed body)).1 refl)

-- no body gives a text that is none with its seal
pub unsealed_none : (text : List ℕ) → ((body : List ℕ) → text ≡ sealed body → ⊥) → unsealed text ≡ None
unsealed_none text none = by_option (unsealed text) refl
  where
    by_option : (o : Option (List ℕ)) → unsealed text ≡ o → o ≡ None
    by_option None e = refl
    by_option (Some body) e = absurd (none body (unsealed_sound text body e))

pub too_short : (text : List ℕ) → length text < 70 → unsealed text ≡ None
too_short text short =
    unsealed_none text (λ body is. omega (arith, short, ap length is, length-append body (seal_line body), seal_bytes body))

-- a text that is cut where the line of its seal begins
module _ (text body line : List ℕ) (first : body ≡ take (length text - 70) text) (second : line ≡ drop (length text - 70) text) where
  joined : body ++ line ≡ text
  joined = ap (λ t. t ++ line) first ∙ ap (λ t. take (length text - 70) text ++ t) second ∙ take-append-drop (length text - 70) text

  pub seal_fits : line ≡ seal_line body → unsealed text ≡ Some body
  seal_fits same = ap unsealed (sym joined ∙ ap (λ t. body ++ t) same) ∙ unsealed_again body

  pub other_seal : (line ≡ seal_line body → ⊥) → unsealed text ≡ None
  other_seal other = unsealed_none text (λ b is. other (same b is))
    where
      same : (b : List ℕ) → text ≡ sealed b → line ≡ seal_line body
      same b is =
          let size : length b ≡ length text - 70 = omega (arith, ap length is, length-append b (seal_line b), seal_bytes b) in
          let prefix : take (length text - 70) text ≡ b = ap (take (length text - 70)) is ∙ take_at b (seal_line b) (length text - 70) size in
          let back : drop (length text - 70) text ≡ seal_line b = ap (drop (length text - 70)) is ∙ drop_at b (seal_line b) (length text - 70) size in
          second ∙ back ∙ ap seal_line (sym (first ∙ prefix))

-- ## A text with its seal

pub sealed_long : (text body : List ℕ) → text ≡ sealed body → 70 ≤ length text
sealed_long text body is = omega (arith, ap length is, length-append body (seal_line body), seal_bytes body)

-- what comes before the line of the seal
pub sealed_body : (text body : List ℕ) → text ≡ sealed body → take (length text - 70) text ≡ body
sealed_body text body is = ap body_of is ∙ body_again body
