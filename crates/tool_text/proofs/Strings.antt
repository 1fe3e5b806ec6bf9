-- Reading the bytes of a string.
use Rattle.std.proofs.Common.{◌≡◌, ◌≢◌, ℕ, false, ◌==◌, cond, List, [], ◌∷◌, ◌++◌, Option, Some, None, refl, ap, sym, ◌∙◌, append_assoc}
use Rattle.std.proofs.lemmas.Bool.{ne_eqb}
use Rattle.tool_text.specs.Reading.{after_bytes, escape_of, string_rest, with_byte}

after_one : (prefix : List ℕ) (b : ℕ) (read : Option (List ℕ)) → after_bytes (prefix ++ b ∷ []) read ≡ after_bytes prefix (with_byte (Some b) read)
after_one prefix b None = refl
after_one prefix b (Some bytes) = ap Some (append_assoc prefix (b ∷ []) bytes)

-- no byte follows
ends : (b : ℕ) → (b == 34) ≡ false → string_rest (b ∷ []) ≡ None
ends b q = ap (λ t. cond t (Some []) None) q

-- a byte stands for itself
plain_rest : (b c : ℕ) (bs : List ℕ) → (b == 34) ≡ false → (b == 92) ≡ false → (b == 10) ≡ false
    → string_rest (b ∷ c ∷ bs) ≡ with_byte (Some b) (string_rest (c ∷ bs))
plain_rest b c bs q e n =
    ap (λ t. cond t None (cond (b == 92) (with_byte (escape_of c) (string_rest bs)) (cond (b == 10) None (with_byte (Some b) (string_rest (c ∷ bs)))))) q
    ∙ ap (λ t. cond t (with_byte (escape_of c) (string_rest bs)) (cond (b == 10) None (with_byte (Some b) (string_rest (c ∷ bs))))) e
    ∙ ap (λ t. cond t None (with_byte (Some b) (string_rest (c ∷ bs)))) n

escaped_rest : (b c : ℕ) (bs : List ℕ) → (b == 34) ≡ false → b ≡ 92 → string_rest (b ∷ c ∷ bs) ≡ with_byte (escape_of c) (string_rest bs)
escaped_rest b c bs q e =
    ap (λ t. cond t None (cond (b == 92) (with_byte (escape_of c) (string_rest bs)) (cond (b == 10) None (with_byte (Some b) (string_rest (c ∷ bs)))))) q
    ∙ ap (λ d. cond (d == 92) (with_byte (escape_of c) (string_rest bs)) (cond (d == 10) None (with_byte (Some d) (string_rest (c ∷ bs))))) e

pub one_plain : (prefix rest more : List ℕ) (b : ℕ) → rest ≡ b ∷ more → b ≢ 34 → b ≢ 92 → b ≢ 10
    → after_bytes (prefix ++ b ∷ []) (string_rest more) ≡ after_bytes prefix (string_rest rest)
one_plain prefix rest [] b is q e n = ap (after_bytes prefix) (sym (ends b (ne_eqb b 34 q)) ∙ sym (ap string_rest is))
one_plain prefix rest (c ∷ cs) b is q e n =
    after_one prefix b (string_rest (c ∷ cs))
    ∙ ap (after_bytes prefix) (sym (plain_rest b c cs (ne_eqb b 34 q) (ne_eqb b 92 e) (ne_eqb b 10 n)) ∙ sym (ap string_rest is))

pub one_escape : (prefix rest more after : List ℕ) (b c byte : ℕ) → rest ≡ b ∷ more → more ≡ c ∷ after → b ≢ 34 → b ≡ 92 → Some byte ≡ escape_of c
    → after_bytes (prefix ++ byte ∷ []) (string_rest after) ≡ after_bytes prefix (string_rest rest)
one_escape prefix rest more after b c byte is next q e esc =
    after_one prefix byte (string_rest after)
    ∙ ap (after_bytes prefix) (ap (λ o. with_byte o (string_rest after)) esc ∙ sym (escaped_rest b c after (ne_eqb b 34 q) e)
    ∙ sym (ap string_rest (is ∙ ap (λ t. b ∷ t) next)))
