-- Marks of the first pips, and which processes they leave to do.
use Rattle.std.proofs.Common.{◌≡◌, ◌≢◌, ℕ, zero, suc, ◌+◌, ◌<◌, ◌==◌, ◌||◌, ◌&&◌, Bool, true, false, not, cond, List, [], ◌∷◌, ◌++◌, length, Some, refl, sym, ap, ◌∙◌, inl, inr, arith}
use Rattle.std.specs.Prelude.{slice_get}
use Rattle.std.specs.List.{AllByRecursion}
use Rattle.std.proofs.lemmas.Bool.{cases_Bool}
use Rattle.std.proofs.lemmas.Bool.Decides.{Decides-eqb}
use Rattle.std.proofs.lemmas.List.Sums.{sum_by-cons, sum_by_push}
use Rattle.std.proofs.lemmas.Option.{same_Some}
use Rattle.pip_model_types.specs.declared.pip.Pip.{Pip}
use Rattle.violations.specs.declared.verdict.Verdict.{Verdict}
use Rattle.one_thread.specs.OneThread.{runs}
use Rattle.retire.specs.Accepting.{is_among, is_marked, others_from, without_run}

-- ## Marks

pub marked_before : (marks : List Bool) (b : Bool) (i : ℕ) → i < length marks → is_marked (marks ++ b ∷ []) i ≡ is_marked marks i
marked_before [] b i l = absurd (omega (arith, l))
marked_before (m ∷ ms) b zero l = refl
marked_before (m ∷ ms) b (suc i) l = marked_before ms b i (omega (arith, l))

pub marked_here : (marks : List Bool) (b : Bool) (n : ℕ) → length marks ≡ n → is_marked (marks ++ b ∷ []) n ≡ b
marked_here [] b zero long = refl
marked_here [] b (suc n) long = absurd (omega (arith, long))
marked_here (m ∷ ms) b zero long = absurd (omega (arith, long))
marked_here (m ∷ ms) b (suc n) long = marked_here ms b n (omega (arith, long))

-- ## Numbers without an accepted run

-- one, where the pip has no mark
abbrev pub one_unmarked : Bool → ℕ
one_unmarked marked = cond (not marked) 1 0

without_before : (marks : List Bool) (b : Bool) (numbers : List ℕ) → AllByRecursion (λ i. i < length marks) numbers
    → without_run (marks ++ b ∷ []) numbers ≡ without_run marks numbers
without_before marks b [] below = refl
without_before marks b (i ∷ rest) below =
    sum_by-cons (λ k. one_unmarked (is_marked (marks ++ b ∷ []) k)) i rest
    ∙ ap (λ t. one_unmarked t + without_run (marks ++ b ∷ []) rest) (marked_before marks b i below.0)
    ∙ ap (λ k. one_unmarked (is_marked marks i) + k) (without_before marks b rest below.1)
    ∙ sym (sum_by-cons (λ k. one_unmarked (is_marked marks k)) i rest)

-- one pip more, which is not among the numbers so far
pub without_more : (marks : List Bool) (b : Bool) (first : List ℕ) → AllByRecursion (λ i. i < length marks) first
    → without_run (marks ++ b ∷ []) (first ++ length marks ∷ []) ≡ without_run marks first + one_unmarked b
without_more marks b first below =
    sum_by_push (λ k. one_unmarked (is_marked (marks ++ b ∷ []) k)) first (length marks)
    ∙ ap (λ k. k + one_unmarked (is_marked (marks ++ b ∷ []) (length marks))) (without_before marks b first below)
    ∙ ap (λ t. without_run marks first + one_unmarked t) (marked_here marks b (length marks) refl)

pub without_same : (marks : List Bool) (b : Bool) (first : List ℕ) → AllByRecursion (λ i. i < length marks) first
    → without_run (marks ++ b ∷ []) first ≡ without_run marks first
without_same = without_before

-- ## Which numbers are among others

not_equal : (k i : ℕ) → k ≢ i → (k == i) ≡ false
not_equal k i other = elim (cases_Bool (k == i)) [ inl same ↦ absurd (other ((Decides-eqb k i).0 same)) | inr e ↦ e ]

pub among_below : (numbers : List ℕ) (n : ℕ) → AllByRecursion (λ i. i < n) numbers → is_among numbers n ≡ false
among_below [] n below = refl
among_below (i ∷ rest) n below =
    ap (λ t. t || is_among rest n) (not_equal i n (λ e. omega (arith, e, below.0))) ∙ among_below rest n below.1

pub among_above : (numbers : List ℕ) (n : ℕ) → AllByRecursion (λ i. n < i) numbers → is_among numbers n ≡ false
among_above [] n above = refl
among_above (i ∷ rest) n above =
    ap (λ t. t || is_among rest n) (not_equal i n (λ e. omega (arith, e, above.0))) ∙ among_above rest n above.1

pub among_joined : (xs ys : List ℕ) (n : ℕ) → is_among xs n ≡ false → is_among (xs ++ ys) n ≡ is_among ys n
among_joined [] ys n none = refl
among_joined (i ∷ rest) ys n none = elim (cases_Bool (i == n)) [
  | inl same ↦
      let clash : true ≡ false = sym (ap (λ t. t || is_among rest n) same) ∙ none in
      absurd (let never : true ≡ false = clash in cc)
  | inr e ↦
      ap (λ t. t || is_among (rest ++ ys) n) e
      ∙ among_joined rest ys n (sym (ap (λ t. t || is_among rest n) e) ∙ none)
]

pub among_first : (n : ℕ) (rest : List ℕ) → is_among (n ∷ rest) n ≡ true
among_first n rest = ap (λ t. t || is_among rest n) ((Decides-eqb n n).1 refl)

-- ## Processes that are left to do

-- one, where the pip runs, has no mark and is none of the numbers
abbrev pub one_left : Bool → Bool → Bool → ℕ
one_left here marked among = cond (here && not marked && not among) 1 0

none_left : (marks : List Bool) (numbers : List ℕ) (j : ℕ) (pips : List Pip) → others_from marks numbers j pips [] ≡ 0
none_left marks numbers j [] = refl
none_left marks numbers j (pip ∷ pips) = refl

first_left : (t : Bool) (k : ℕ) → k ≡ 0 → cond t (1 + k) k ≡ 0 + cond t 1 0
first_left true k e = ap (λ j. 1 + j) e
first_left false k e = e

next_left : (t u : Bool) (k m more : ℕ) → u ≡ t → m ≡ k + more → cond u (1 + m) m ≡ cond t (1 + k) k + more
next_left true true k m more same e = omega (arith, e)
next_left true false k m more same e = cc
next_left false true k m more same e = cc
next_left false false k m more same e = e

-- one pip more: the last of those that have a verdict
pub others_more : (marks : List Bool) (b : Bool) (numbers : List ℕ) (j : ℕ) (pips : List Pip) (vs : List Verdict) (v : Verdict) (n : ℕ) (pip : Pip)
    → length vs ≡ n → slice_get pips n ≡ Some pip → length marks ≡ j + n
    → others_from (marks ++ b ∷ []) numbers j pips (vs ++ v ∷ [])
    ≡ others_from marks numbers j pips vs + one_left (runs pip.kind v) b (is_among numbers (j + n))
others_more marks b numbers j [] vs v zero pip long at marked = absurd cc
others_more marks b numbers j [] vs v (suc n) pip long at marked = absurd cc
others_more marks b numbers j (p ∷ ps) [] v zero pip long at marked =
    first_left (runs p.kind v && not (is_marked (marks ++ b ∷ []) j) && not (is_among numbers j)) (others_from (marks ++ b ∷ []) numbers (j + 1) ps [])
    (none_left (marks ++ b ∷ []) numbers (j + 1) ps)
    ∙ ap (λ t. 0 + one_left (runs p.kind v) t (is_among numbers j)) (marked_here marks b j (omega (arith, marked)))
    ∙ ap (λ (q : Pip). 0 + one_left (runs q.kind v) b (is_among numbers j)) (same_Some p pip at)
    ∙ ap (λ k. 0 + one_left (runs pip.kind v) b (is_among numbers k)) (omega arith)
others_more marks b numbers j (p ∷ ps) [] v (suc n) pip long at marked = absurd (omega (arith, long))
others_more marks b numbers j (p ∷ ps) (w ∷ ws) v zero pip long at marked = absurd (omega (arith, long))
others_more marks b numbers j (p ∷ ps) (w ∷ ws) v (suc n) pip long at marked =
    next_left (runs p.kind w && not (is_marked marks j) && not (is_among numbers j))
    (runs p.kind w && not (is_marked (marks ++ b ∷ []) j) && not (is_among numbers j))
    (others_from marks numbers (j + 1) ps ws) (others_from (marks ++ b ∷ []) numbers (j + 1) ps (ws ++ v ∷ []))
    (one_left (runs pip.kind v) b (is_among numbers (j + suc n)))
    (ap (λ t. runs p.kind w && not t && not (is_among numbers j)) (marked_before marks b j (omega (arith, marked))))
    (others_more marks b numbers (j + 1) ps ws v n pip (omega (arith, long)) at (omega (arith, marked))
    ∙ ap (λ k. others_from marks numbers (j + 1) ps ws + one_left (runs pip.kind v) b (is_among numbers k)) (omega arith))
