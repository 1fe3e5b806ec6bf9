-- Looking for bytes in a text, one place after the other.
use Rattle.std.proofs.Common.{◌≡◌, ℕ, ◌+◌, ◌-◌, length-drop, ◌<◌, ◌≤◌, ◌==◌, zero, suc, Bool, true, false, cond, List, [], ◌∷◌, ◌++◌, length, take, drop, get_or, Option, Some, None, refl, ap, sym, ◌∙◌, arith, add-one, append_assoc, length-append}
use Rattle.std.proofs.lemmas.List.{drop_at, take_all, take_more}
use Rattle.observed.specs.Texts.{after_prefix}
use Rattle.tool_run.specs.Values.{cut_here, split_parts}

there : (xs : List ℕ) (i : ℕ) → i < length xs → drop i xs ≡ get_or xs i 0 ∷ drop (suc i) xs
there [] i l = absurd (omega (arith, l))
there (x ∷ xs) zero l = refl
there (x ∷ xs) (suc i) l = there xs i (omega (arith, l))

-- nothing is found at a place
parts_here : (y xs : List ℕ) (b : ℕ) (bs : List ℕ) → xs ≡ b ∷ bs → after_prefix y xs ≡ None
    → ((split_parts y xs).0 ≡ b ∷ (split_parts y bs).0) × ((split_parts y xs).1 ≡ (split_parts y bs).1)
parts_here y xs b bs is none =
    let here : after_prefix y (b ∷ bs) ≡ None = sym (ap (after_prefix y) is) ∙ none in (
      ap (λ t. (split_parts y t).0) is ∙ ap (λ o. (cut_here b o (split_parts y bs)).0) here,
      ap (λ t. (split_parts y t).1) is ∙ ap (λ o. (cut_here b o (split_parts y bs)).1) here,
    )

pub record Onward (y xs : List ℕ) (i : ℕ) (first second : List ℕ) : Type 0 where
  pub before : take i xs ++ (split_parts y (drop i xs)).0 ≡ first
  pub after : (split_parts y (drop i xs)).1 ≡ second

pub onward : (y xs : List ℕ) (i : ℕ) (first second : List ℕ) → i < length xs → after_prefix y (drop i xs) ≡ None
    → take i xs ++ (split_parts y (drop i xs)).0 ≡ first → (split_parts y (drop i xs)).1 ≡ second → Onward y xs (i + 1) first second
onward y xs i first second l none before after =
    let step = parts_here y (drop i xs) (get_or xs i 0) (drop (suc i) xs) (there xs i l) none in
    let more : drop (i + 1) xs ≡ drop (suc i) xs = ap (λ n. drop n xs) (add-one i) in
    record {
      before =
          ap (λ t. t ++ (split_parts y (drop (i + 1) xs)).0) (take_more xs i 0 l)
          ∙ append_assoc (take i xs) (get_or xs i 0 ∷ []) (split_parts y (drop (i + 1) xs)).0
          ∙ ap (λ t. take i xs ++ get_or xs i 0 ∷ (split_parts y t).0) more
          ∙ ap (λ t. take i xs ++ t) (sym step.0) ∙ before;
      after = ap (λ t. (split_parts y t).1) more ∙ sym step.1 ∙ after;
    }

pub take_rest : (xs : List ℕ) (i : ℕ) → take (length xs - i) (drop i xs) ≡ drop i xs
take_rest xs i = take_all (length xs - i) (drop i xs) (omega (arith, length-drop i xs))

-- ## What follows the first place

-- the one list ends with the other
pub record EndsWith (xs rest : List ℕ) : Type 0 where
  pub before : List ℕ
  pub whole : xs ≡ before ++ rest

one_before : (xs rest : List ℕ) (b : ℕ) → EndsWith xs rest → EndsWith (b ∷ xs) rest
one_before xs rest b h = record { before = b ∷ h.before; whole = ap (λ t. b ∷ t) h.whole }

prefix_ends : (y xs after : List ℕ) → after_prefix y xs ≡ Some after → EndsWith xs after
prefix_ends [] xs after e = record { before = []; whole = cc }
prefix_ends (p ∷ ps) [] after e = cc
prefix_ends (p ∷ ps) (b ∷ bs) after e = by_test (p == b) e (prefix_ends ps bs after)
  where
    by_test : (t : Bool) → cond t (after_prefix ps bs) None ≡ Some after → (after_prefix ps bs ≡ Some after → EndsWith bs after)
        → EndsWith (b ∷ bs) after
    by_test true h more = one_before bs after b (more h)
    by_test false h more = cc

pub ends_with : (y xs : List ℕ) → EndsWith xs (split_parts y xs).1
ends_with y [] = record { before = []; whole = refl }
ends_with y (b ∷ bs) = by_place (after_prefix y (b ∷ bs)) refl (ends_with y bs)
  where
    by_place : (o : Option (List ℕ)) → after_prefix y (b ∷ bs) ≡ o → EndsWith bs (split_parts y bs).1
        → EndsWith (b ∷ bs) (cut_here b o (split_parts y bs)).1
    by_place (Some after) e later = prefix_ends y (b ∷ bs) after e
    by_place None e later = one_before bs (split_parts y bs).1 b later

pub record Rest (xs rest : List ℕ) : Type 0 where
  pub short : length rest ≤ length xs
  pub dropped : drop (length xs - length rest) xs ≡ rest

rest_of : (xs rest : List ℕ) → EndsWith xs rest → Rest xs rest
rest_of xs rest h =
    let sizes : length xs ≡ length h.before + length rest = ap length h.whole ∙ length-append h.before rest in
    record {
      short = omega (arith, sizes);
      dropped = ap (drop (length xs - length rest)) h.whole ∙ drop_at h.before rest (length xs - length rest) (omega (arith, sizes));
    }

pub rest_is : (y xs : List ℕ) → Rest xs (split_parts y xs).1
rest_is y xs = rest_of xs (split_parts y xs).1 (ends_with y xs)

pub after_short : (y xs after : List ℕ) → after ≡ (split_parts y xs).1 → length after ≤ length xs
after_short y xs after is = omega (arith, ap length is, (rest_is y xs).short)

pub both_parts : (y xs bytes before after first second : List ℕ) → bytes ≡ xs → before ≡ (split_parts y bytes).0
    → after ≡ (split_parts y bytes).1 → first ≡ before → second ≡ drop (length bytes - length after) xs → (first, second) ≡ split_parts y xs
both_parts y xs bytes before after first second same is-before is-after is-first is-second =
    ap (λ (t : List ℕ). (t, second)) (is-first ∙ is-before ∙ ap (λ (t : List ℕ). (split_parts y t).0) same)
    ∙ ap (λ (t : List ℕ). ((split_parts y xs).0, t))
    (is-second
    ∙ ap (λ (t : List ℕ). drop (length t - length after) xs) same
    ∙ ap (λ (t : List ℕ). drop (length xs - length t) xs) (is-after ∙ ap (λ (t : List ℕ). (split_parts y t).1) same)
    ∙ (rest_is y xs).dropped)
