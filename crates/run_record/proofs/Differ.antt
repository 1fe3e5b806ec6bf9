-- Lists first differ at one place, and a comparison comes to one answer.
use Rattle.std.proofs.Common.{◌≡◌, ◌≢◌, inl, inr, Bool, true, false, not, ℕ, zero, suc, ◌<◌, ◌≤◌, ◌+◌, List, [], ◌∷◌, ◌++◌, length, get_or, map, take, Some, refl, ap, sym, ◌∙◌, arith}
use Rattle.std.specs.Prelude.{slice_get}
use Rattle.std.specs.Option.{option_map}
use Rattle.std.specs.Str.{bytes_eq}
use Rattle.std.proofs.lemmas.Bool.{cases_lt, not-false}
use Rattle.std.proofs.lemmas.List.{map-append, take-map, take_all, take_more}
use Rattle.std.proofs.lemmas.Option.{slice_get-get_or, slice_get-map, same_Some}
use Rattle.std.proofs.lemmas.Slice.Eq.{bytes_eq-Decides}
use Rattle.pip_model_types.specs.declared.desc.Desc.{Desc}
use Rattle.observed.specs.declared.ask.Ask.{Ask}
use Rattle.observed.specs.declared.access.Answer.{Answer}
use Rattle.run_record.specs.Facts.{Facts}
use Rattle.run_record.specs.declared.matching.Match.{Match}
use Rattle.run_record.specs.declared.matching.Match.TheVariants as matches
use Rattle.run_record.specs.Matches.{Compares, FirstDiffer}

-- ## The first place

get_before : (xs : List (List ℕ)) (i j : ℕ) → i < j → slice_get (take j xs) i ≡ slice_get xs i
get_before xs i zero l = absurd (omega (arith, l))
get_before [] i (suc j) l = refl
get_before (x ∷ xs) zero (suc j) l = refl
get_before (x ∷ xs) (suc i) (suc j) l = get_before xs i j (omega (arith, l))

-- before the first place at which they differ, lists have the same items
not_before : (xs ys : List (List ℕ)) (i j : ℕ) (x y v w : List ℕ) → FirstDiffer xs ys i x y → FirstDiffer xs ys j v w → i < j → ⊥
not_before xs ys i j x y v w here later l =
    here.other (same_Some x y (sym here.left ∙ sym (get_before xs i j l) ∙ ap (λ zs. slice_get zs i) later.before ∙ get_before ys i j l ∙ here.right))

one_place : (xs ys : List (List ℕ)) (i j : ℕ) (x y v w : List ℕ) → FirstDiffer xs ys i x y → FirstDiffer xs ys j v w → i ≡ j
one_place xs ys i j x y v w one other = elim (cases_lt i j) [
  | inl low ↦ absurd (not_before xs ys i j x y v w one other low)
  | inr high ↦ elim (cases_lt j i) [
    | inl above ↦ absurd (not_before xs ys j i v w x y other one above)
    | inr level ↦ omega (arith, high, level)
  ]
]

one_change : (xs ys : List (List ℕ)) (i j : ℕ) (x y v w : List ℕ) → FirstDiffer xs ys i x y → FirstDiffer xs ys j v w → matches.Differs i x y ≡ matches.Differs j v w
one_change xs ys i j x y v w one other =
    let place = one_place xs ys i j x y v w one other in
    let left : x ≡ v = same_Some x v (sym one.left ∙ ap (slice_get xs) place ∙ other.left) in
    let right : y ≡ w = same_Some y w (sym one.right ∙ ap (slice_get ys) place ∙ other.right) in
    cc

not_same : (xs ys : List (List ℕ)) (i : ℕ) (x y : List ℕ) → xs ≡ ys → FirstDiffer xs ys i x y → ⊥
not_same xs ys i x y same differ = differ.other (same_Some x y (sym differ.left ∙ ap (λ zs. slice_get zs i) same ∙ differ.right))

-- ## One answer

pub one_answer : (d : Desc) (f : Facts) (see : Ask → Answer) (m n : Match) → Compares d f see m → Compares d f see n → m ≢ matches.Memory → n ≢ matches.Memory → m ≡ n
one_answer d f see matches.Memory n is_m is_n some_m some_n = absurd (some_m refl)
one_answer d f see m matches.Memory is_m is_n some_m some_n = absurd (some_n refl)
one_answer d f see matches.Same matches.Same is_m is_n some_m some_n = refl
one_answer d f see matches.Same (matches.OtherDesc h o) is_m is_n some_m some_n = absurd (is_n.2 (is_n.0 ∙ is_m.0 ∙ sym is_n.1))
one_answer d f see matches.Same (matches.Differs i h o) is_m is_n some_m some_n = absurd (not_same _ _ i h o is_m.1 is_n.1)
one_answer d f see (matches.OtherDesc h o) matches.Same is_m is_n some_m some_n = absurd (is_m.2 (is_m.0 ∙ is_n.0 ∙ sym is_m.1))
one_answer d f see (matches.OtherDesc h o) (matches.OtherDesc k p) is_m is_n some_m some_n =
    let held : h ≡ k = is_m.0 ∙ sym is_n.0 in
    let now : o ≡ p = is_m.1 ∙ sym is_n.1 in
    cc
one_answer d f see (matches.OtherDesc h o) (matches.Differs i k p) is_m is_n some_m some_n = absurd (is_m.2 (is_m.0 ∙ is_n.0 ∙ sym is_m.1))
one_answer d f see (matches.Differs i h o) matches.Same is_m is_n some_m some_n = absurd (not_same _ _ i h o is_n.1 is_m.1)
one_answer d f see (matches.Differs i h o) (matches.OtherDesc k p) is_m is_n some_m some_n = absurd (is_n.2 (is_n.0 ∙ is_m.0 ∙ sym is_n.1))
one_answer d f see (matches.Differs i h o) (matches.Differs j k p) is_m is_n some_m some_n = one_change _ _ i j h o k p is_m.1 is_n.1

-- ## The loop

-- what the test for another digest says
pub is_same : (x y : List ℕ) (test : Bool) → test ≡ not (bytes_eq x y) → test ≡ false → x ≡ y
is_same x y test is off = (bytes_eq-Decides x y).0 (not-false (bytes_eq x y) (sym is ∙ off))

pub is_other : (x y : List ℕ) (test : Bool) → test ≡ not (bytes_eq x y) → test ≡ true → x ≢ y
is_other x y test is on = λ same.
    let equal : not (bytes_eq x y) ≡ false = ap not ((bytes_eq-Decides x y).1 same) in
    let clash : true ≡ false = sym on ∙ is ∙ equal in
    cc

-- one more answer whose line has the digest of now
pub one_more : (f : Answer → List ℕ) (g : Ask → List ℕ) (stored : List Answer) (asks : List Ask) (i : ℕ) (a : Answer) (q : Ask) → i < length stored → i < length asks
    → a ≡ get_or stored i a → q ≡ get_or asks i q → map f (take i stored) ≡ map g (take i asks) → f a ≡ g q
    → map f (take (i + 1) stored) ≡ map g (take (i + 1) asks)
one_more f g stored asks i a q within within_asks is_a is_q before here =
    ap (map f) (take_more stored i a within) ∙ map-append f (take i stored) (get_or stored i a ∷ [])
    ∙ ap (λ x. map f (take i stored) ++ f x ∷ []) (sym is_a) ∙ ap (λ xs. xs ++ f a ∷ []) before ∙ ap (λ x. map g (take i asks) ++ x ∷ []) here
    ∙ ap (λ x. map g (take i asks) ++ g x ∷ []) is_q
    ∙ sym (ap (map g) (take_more asks i q within_asks) ∙ map-append g (take i asks) (get_or asks i q ∷ []))

-- the first answer whose line has another digest now
pub first_differ : (f : Answer → List ℕ) (g : Ask → List ℕ) (stored : List Answer) (asks : List Ask) (i : ℕ) (a : Answer) (q : Ask) (x y : List ℕ) → i < length stored
    → i < length asks → a ≡ get_or stored i a → q ≡ get_or asks i q → map f (take i stored) ≡ map g (take i asks) → x ≡ f a → y ≡ g q → x ≢ y
    → FirstDiffer (map f stored) (map g asks) i x y
first_differ f g stored asks i a q x y within within_asks is_a is_q before is_x is_y other = record {
  before = take-map f i stored ∙ before ∙ sym (take-map g i asks);
  left =
      slice_get-map f stored i ∙ ap (option_map f) (slice_get-get_or stored i a within ∙ ap Some (sym is_a)) ∙ ap Some (sym is_x);
  right =
      slice_get-map g asks i ∙ ap (option_map g) (slice_get-get_or asks i q within_asks ∙ ap Some (sym is_q)) ∙ ap Some (sym is_y);
  other = other;
}

-- no answer whose line has another digest now
pub none_differ : (f : Answer → List ℕ) (g : Ask → List ℕ) (stored : List Answer) (asks : List Ask) (i : ℕ) → length stored ≡ length asks → length asks ≤ i
    → map f (take i stored) ≡ map g (take i asks) → map f stored ≡ map g asks
none_differ f g stored asks i same past before =
    sym (ap (map f) (take_all i stored (omega (arith, same, past)))) ∙ before ∙ ap (map g) (take_all i asks past)
