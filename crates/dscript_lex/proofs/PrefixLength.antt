-- The longest prefix of a list whose bytes pass a test.
use Rattle.std.proofs.Common.{◌≡◌, ℕ, suc, ◌+◌, ◌≤◌, Bool, true, false, cond, List, [], ◌∷◌, ◌++◌, length, take, drop, refl, sym, ap, ◌∙◌, subst, arith}
use Rattle.std.specs.List.{prefix_len, list_all}
use Rattle.std.proofs.lemmas.Bool.{and_parts, and_from}
use Rattle.dscript_lex.specs.Bytes.{begins_with}

pub one_more : (n : ℕ) → 1 + n ≡ suc n
one_more n = omega arith

pub take_one_more : (n x : ℕ) (xs : List ℕ) → take (1 + n) (x ∷ xs) ≡ x ∷ take n xs
take_one_more n x xs = ap (λ k. take k (x ∷ xs)) (one_more n)

pub drop_one_more : (n x : ℕ) (xs : List ℕ) → drop (1 + n) (x ∷ xs) ≡ drop n xs
drop_one_more n x xs = ap (λ k. drop k (x ∷ xs)) (one_more n)

pub prefix_passes : (p : ℕ → Bool) (xs : List ℕ) → list_all p (take (prefix_len p xs) xs) ≡ true
prefix_passes p [] = refl
prefix_passes p (x ∷ xs) = step (prefix_passes p xs) (p x) refl
  where
    step : list_all p (take (prefix_len p xs) xs) ≡ true → (t : Bool) → p x ≡ t → list_all p (take (cond t (1 + prefix_len p xs) 0) (x ∷ xs)) ≡ true
    step rest true passes = ap (list_all p) (take_one_more (prefix_len p xs) x xs) ∙ and_from (p x) (list_all p (take (prefix_len p xs) xs)) passes rest
    step rest false fails = refl

pub prefix_stops : (p : ℕ → Bool) (xs : List ℕ) → begins_with p (drop (prefix_len p xs) xs) ≡ false
prefix_stops p [] = refl
prefix_stops p (x ∷ xs) = step (prefix_stops p xs) (p x) refl
  where
    step : begins_with p (drop (prefix_len p xs) xs) ≡ false → (t : Bool) → p x ≡ t → begins_with p (drop (cond t (1 + prefix_len p xs) 0) (x ∷ xs)) ≡ false
    step rest true passes = ap (begins_with p) (drop_one_more (prefix_len p xs) x xs) ∙ rest
    step rest false fails = fails

pub prefix_covers : (p : ℕ → Bool) (t rest : List ℕ) → list_all p t ≡ true → length t ≤ prefix_len p (t ++ rest)
prefix_covers p [] rest all = omega arith
prefix_covers p (x ∷ t) rest all =
    let parts = and_parts (p x) (list_all p t) all in
    let more = prefix_covers p t rest parts.1 in
    let e : cond (p x) (1 + prefix_len p (t ++ rest)) 0 ≡ 1 + prefix_len p (t ++ rest) = ap (λ b. cond b (1 + prefix_len p (t ++ rest)) 0) parts.0 in
    subst (λ n. suc (length t) ≤ n) (sym e) (omega arith)

pub prefix_is : (p : ℕ → Bool) (t rest : List ℕ) → list_all p t ≡ true → begins_with p rest ≡ false → prefix_len p (t ++ rest) ≡ length t
prefix_is p [] [] all stops = refl
prefix_is p [] (x ∷ xs) all stops = ap (λ b. cond b (1 + prefix_len p xs) 0) stops
prefix_is p (x ∷ t) rest all stops =
    let parts = and_parts (p x) (list_all p t) all in
    ap (λ b. cond b (1 + prefix_len p (t ++ rest)) 0) parts.0 ∙ ap (λ n. 1 + n) (prefix_is p t rest parts.1 stops) ∙ one_more (length t)
