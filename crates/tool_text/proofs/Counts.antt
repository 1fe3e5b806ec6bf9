-- Texts in a number other than the one that is wanted.
use Rattle.std.proofs.Common.{◌≡◌, ◌≢◌, ℕ, suc, cond, List, [], ◌∷◌, length, None, refl, ap, sym, ◌∙◌, arith}
use Rattle.std.specs.Borrow.{Bor}
use Rattle.std.proofs.lemmas.Bool.{ne_eqb}
use Rattle.tool_text.specs.Reading.{full_listing, matching_listing, listing_of, lone, pair, quadruple, triple}
use Rattle.bx_tree.specs.Lent.{texts_now}

pub not_one : (ts : List (Bor (List ℕ))) → length ts ≢ 1 → lone (texts_now ts) ≡ None
not_one [] n = refl
not_one (a ∷ []) n = absurd (n refl)
not_one (a ∷ b ∷ rest) n = refl

pub not_two : (ts : List (Bor (List ℕ))) → length ts ≢ 2 → pair (texts_now ts) ≡ None
not_two [] n = refl
not_two (a ∷ []) n = refl
not_two (a ∷ b ∷ []) n = absurd (n refl)
not_two (a ∷ b ∷ c ∷ rest) n = refl

pub not_three : (ts : List (Bor (List ℕ))) → length ts ≢ 3 → triple (texts_now ts) ≡ None
not_three [] n = refl
not_three (a ∷ []) n = refl
not_three (a ∷ b ∷ []) n = refl
not_three (a ∷ b ∷ c ∷ []) n = absurd (n refl)
not_three (a ∷ b ∷ c ∷ e ∷ rest) n = refl

pub not_four : (ts : List (Bor (List ℕ))) → length ts ≢ 4 → quadruple (texts_now ts) ≡ None
not_four [] n = refl
not_four (a ∷ []) n = refl
not_four (a ∷ b ∷ []) n = refl
not_four (a ∷ b ∷ c ∷ []) n = refl
not_four (a ∷ b ∷ c ∷ e ∷ []) n = absurd (n refl)
not_four (a ∷ b ∷ c ∷ e ∷ f ∷ rest) n = refl

-- ## Listings

pub with_pattern : (ts : List (Bor (List ℕ))) → length ts ≡ 3 → listing_of (texts_now ts) ≡ matching_listing (texts_now ts)
with_pattern [] e = cc
with_pattern (a ∷ []) e = cc
with_pattern (a ∷ b ∷ []) e = cc
with_pattern (a ∷ b ∷ c ∷ []) e = refl
with_pattern (a ∷ b ∷ c ∷ d ∷ rest) e = absurd (omega (arith, e))

pub without_pattern : (ts : List (Bor (List ℕ))) → length ts ≢ 3 → listing_of (texts_now ts) ≡ full_listing (texts_now ts)
without_pattern ts n = ap (λ t. cond t (matching_listing (texts_now ts)) (full_listing (texts_now ts))) (ne_eqb (length (texts_now ts)) 3 (λ e. n (sym (same_number ts) ∙ e)))
  where
    same_number : (ts : List (Bor (List ℕ))) → length (texts_now ts) ≡ length ts
    same_number [] = refl
    same_number (a ∷ rest) = ap suc (same_number rest)
