-- Locals that ascend.
use Rattle.std.proofs.Common.{◌≡◌, ℕ, zero, suc, ◌+◌, ◌<◌, ◌≤◌, Bool, true, false, cond, List, [], ◌∷◌, length, drop}
use Rattle.std.proofs.Common.{get_or, slice_get, unwrap_or, ltb, MatchResult, Result, Ok, Err, nat_cmp, refl, ap, sym, ◌∙◌, arith, add-one}
use Rattle.std.proofs.Common.{◌⊎◌, inl, inr, eq-or-lt_of_le, ltb-true, ltb-false, lt-ltb, le-ltb, true≢false, ⊎_elim}
use Rattle.std.proofs.lemmas.List.Sorted.{searched}
use Rattle.std.specs.List.Sorted.{IsBinarySearchResult}
use Rattle.dscript_value.specs.Plain.{Plain, Undefined}
use Rattle.dscript_eval_meaning.specs.Frames.{captured_value}
use Rattle.dscript_eval_frames.specs.Increasing.{is_increasing, rises}
use Rattle.dscript_eval_frames.proofs.Locals.{captured_end, captured_found, next_captured}

-- ## The test

-- a number that is too small ends it
pub rises_stop
    : (ns : List ℕ) (i least d : ℕ) → i < length ns → get_or ns i d < least → rises least (drop i ns) ≡ false
rises_stop [] i least d less small = absurd (omega (arith, less))
rises_stop (n ∷ ns) zero least d less small = ap (λ b. cond b false (rises (suc n) ns)) (lt-ltb n least small)
rises_stop (n ∷ ns) (suc i) least d less small = rises_stop ns i least d (omega (arith, less)) small

next_rises
    : (ns : List ℕ) (i least d : ℕ) → i < length ns → least ≤ get_or ns i d
    → rises least (drop i ns) ≡ rises (suc (get_or ns i d)) (drop (suc i) ns)
next_rises [] i least d less large = absurd (omega (arith, less))
next_rises (n ∷ ns) zero least d less large = ap (λ b. cond b false (rises (suc n) ns)) (le-ltb n least large)
next_rises (n ∷ ns) (suc i) least d less large = next_rises ns i least d (omega (arith, less)) large

-- a number that is large enough is passed over
pub rises_next
    : (ns : List ℕ) (i least n : ℕ) → i < length ns → n ≡ get_or ns i n → (n < least → ⊥)
    → rises (n + 1) (drop (i + 1) ns) ≡ rises least (drop i ns)
rises_next ns i least n less is large =
    ap (λ k. rises k (drop (i + 1) ns)) (add-one n ∙ ap suc is)
    ∙ ap (λ k. rises (suc (get_or ns i n)) (drop k ns)) (add-one i)
    ∙ sym (next_rises ns i least n less (omega (arith, is, large)))

pub rises_end : (ns : List ℕ) (i least : ℕ) → length ns ≤ i → rises least (drop i ns) ≡ true
rises_end [] zero least le = refl
rises_end [] (suc i) least le = refl
rises_end (n ∷ ns) zero least le = absurd (omega (arith, le))
rises_end (n ∷ ns) (suc i) least le = rises_end ns i least (omega (arith, le))

pub ruleset ascents = (rises_stop, rises_next, rises_end)

-- ## Numbers that ascend

head_by
    : (b : Bool) (n least : ℕ) (ns : List ℕ) → ltb n least ≡ b → cond b false (rises (suc n) ns) ≡ true
    → (least ≤ n) × (rises (suc n) ns ≡ true)
head_by true n least ns is up = absurd (true≢false (sym up))
head_by false n least ns is up = (ltb-false n least is, up)

head_rises
    : (n least : ℕ) (ns : List ℕ) → rises least (n ∷ ns) ≡ true → (least ≤ n) × (rises (suc n) ns ≡ true)
head_rises n least ns up = head_by (ltb n least) n least ns refl up

at_least
    : (ns : List ℕ) (least j d : ℕ) → rises least ns ≡ true → j < length ns → least ≤ get_or ns j d
at_least [] least j d up less = absurd (omega (arith, less))
at_least (n ∷ ns) least zero d up less = (head_rises n least ns up).0
at_least (n ∷ ns) least (suc j) d up less =
    let both = head_rises n least ns up in
    let rest = at_least ns (suc n) j d both.1 (omega (arith, less)) in
    omega (arith, both.0, rest)

-- each is greater than those before it
rises_by
    : (ns : List ℕ) (least i j d : ℕ) → rises least ns ≡ true → i < j → j < length ns → get_or ns i d < get_or ns j d
rises_by [] least i j d up below less = absurd (omega (arith, less))
rises_by (n ∷ ns) least i zero d up below less = absurd (omega (arith, below))
rises_by (n ∷ ns) least zero (suc j) d up below less =
    let rest = at_least ns (suc n) j d (head_rises n least ns up).1 (omega (arith, less)) in omega (arith, rest)
rises_by (n ∷ ns) least (suc i) (suc j) d up below less =
    rises_by ns (suc n) i j d (head_rises n least ns up).1 (omega (arith, below)) (omega (arith, less))

upwards
    : (ns : List ℕ) → is_increasing ns ≡ true → (i j : ℕ) → i ≤ j → j < length ns → get_or ns i 0 ≤ get_or ns j 0
upwards ns up i j le less =
    ⊎_elim
    (λ same. let is = ap (λ k. get_or ns k 0) same in omega (arith, is))
    (λ below. let strict = rises_by ns 0 i j 0 up below less in omega (arith, strict))
    (eq-or-lt_of_le le)

-- ## What is found by binary search

-- locals that are others are passed over
passed
    : (cs : List ℕ) (xs : List Plain) (i n : ℕ) → i ≤ length cs → ((k : ℕ) → k < i → get_or cs k 0 ≡ n → ⊥)
    → captured_value cs xs n ≡ captured_value (drop i cs) (drop i xs) n
passed cs xs zero n le others = refl
passed cs xs (suc i) n le others =
    passed cs xs i n (omega (arith, le)) (λ k less. others k (omega (arith, less)))
    ∙ next_captured cs xs i n 0 (omega (arith, le)) (others i (omega arith))

below_or_not : (b : Bool) (k i : ℕ) → ltb k i ≡ b → (k < i) ⊎ (i ≤ k)
below_or_not true k i is = inl (ltb-true k i is)
below_or_not false k i is = inr (ltb-false k i is)

-- the value of a local where a search found its place, or found none
pub binary_found
    : (cs : List ℕ) (xs : List Plain) (n : ℕ) (r : Result ℕ ℕ) → is_increasing cs ≡ true
    → IsBinarySearchResult (λ y. nat_cmp y n) cs r
    → MatchResult r (λ i. captured_value cs xs n ≡ unwrap_or (slice_get xs i) Undefined)
    (λ _. captured_value cs xs n ≡ Undefined)
binary_found cs xs n (Ok i) up found =
    let at = searched cs n (Ok i) found (upwards cs up) in
    passed cs xs i n (omega (arith, at.0)) (λ k less same. let strict = rises_by cs 0 k i 0 up less at.0 in omega (arith, strict, same, at.1))
    ∙ captured_found cs xs i n 0 at.0 at.1
binary_found cs xs n (Err i) up found =
    let at = searched cs n (Err i) found (upwards cs up) in
    passed cs xs (length cs) n (omega arith) (λ k less same. ⊎_elim
    (λ below. let small = at.1 k below in omega (arith, small, same))
    (λ above. let large = at.2 k above less in omega (arith, large, same))
    (below_or_not (ltb k i) k i refl))
    ∙ captured_end cs xs (length cs) n (omega arith)
