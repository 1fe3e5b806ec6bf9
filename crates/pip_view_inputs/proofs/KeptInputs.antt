-- The files of the pips for which a pip waits, by number.
use Rattle.std.proofs.Common.{◌≡◌, ◌≢◌, ◌+◌, ◌<◌, ◌≤◌, ◌==◌, ℕ, zero, suc, true, false, cond, List, [], ◌∷◌, ◌++◌, length, map, get_or, Option, Some, None, refl, ap, sym, ◌∙◌, subst, inl, inr, arith}
use Rattle.std.specs.Prelude.{◌↔◌, Contains, IsSomeAnd, slice_get}
use Rattle.std.specs.List.{All, AllByRecursion, list_any}
use Rattle.std.specs.List.Sorted.{IsStrictlyIncreasing, IsStrictlySortedBy}
use Rattle.std.specs.Ordering.{MatchOrdering, nat_cmp}
use Rattle.std.specs.declared.cmp.Ordering.TheVariants.{Less}
use Rattle.std.proofs.lemmas.Bool.{cases_Bool, cases_lt, false≢true}
use Rattle.std.proofs.lemmas.Bool.Decides.{Decides-eqb}
use Rattle.std.proofs.lemmas.Cmp.{ranked}
use Rattle.std.proofs.lemmas.List.{get_or-append-add, get_or_append_left, length-append, length-map}
use Rattle.std.proofs.lemmas.List.Elements.{All-contains}
use Rattle.std.proofs.lemmas.List.Folds.{Any-from_list_any, list_any-from_Any}
use Rattle.std.proofs.lemmas.Map.Keys.{sorted_from_strictly_increasing}
use Rattle.bx_tree.specs.Trees.{Files}
use Rattle.bx_tree.specs.Members.{Has}
use Rattle.bx_tree.proofs.Sets.{contains_has, has_contained}
use Rattle.pip_model_types.specs.declared.made.Slot.{Slot}
use Rattle.pip_model_types.specs.declared.made.Slot.TheVariants as slots
use Rattle.pip_model_types.specs.declared.pip.Pip.{Pip}
use Rattle.pip_model.specs.Edges.{targets}
use Rattle.pip_model.specs.Plans.{AreInputs}
use Rattle.violations.specs.Slots.{slot_files}
use Rattle.pip_view_inputs.specs.Results.{files_by, inputs_at, kept_from, kind_inputs}
use Rattle.pip_view_inputs.specs.Views.{input_by, made_pair}
use Rattle.pip_view_inputs.specs.declared.inputs.MadeBy.{MadeBy}

-- ## Numbers that rise

smaller : (x y : ℕ) → nat_cmp x y ≡ Less → x < y
smaller x y e = subst (λ o. MatchOrdering o (x < y) (x ≡ y) (y < x)) e (ranked x y (nat_cmp x y) refl)

above : (x j : ℕ) (xs : List ℕ) → AllByRecursion (λ y. nat_cmp x y ≡ Less) xs → Has xs j → x < j
above x j [] all h = absurd h
above x j (y ∷ ys) all (inl e) = subst (λ n. x < n) e (smaller x y all.0)
above x j (y ∷ ys) all (inr h) = above x j ys all.1 h

-- ## Files by number

-- the files that pip j made, where the pips from number k on made these files
nth : ℕ → List Files → ℕ → Files
nth k [] j = []
nth k (f ∷ fs) j = cond (k == j) f (nth (k + 1) fs j)

abbrev pair_at : ℕ → List Files → ℕ → ℕ × Files
pair_at k files j = (j, nth k files j)

nth_here : (k : ℕ) (f : Files) (fs : List Files) → nth k (f ∷ fs) k ≡ f
unfolding nth
nth_here k f fs = ap (λ t. cond t f (nth (k + 1) fs k)) ((Decides-eqb k k).1 refl)

nth_later : (k j : ℕ) (f : Files) (fs : List Files) → k < j → nth k (f ∷ fs) j ≡ nth (k + 1) fs j
unfolding nth
nth_later k j f fs l = elim (cases_Bool (k == j)) [
  | inl e ↦ let same = (Decides-eqb k j).0 e in absurd (omega (arith, l, same))
  | inr e ↦ ap (λ t. cond t f (nth (k + 1) fs j)) e
]

later_pairs : (k : ℕ) (f : Files) (fs : List Files) (ins : List ℕ) → ((j : ℕ) → Has ins j → k < j)
    → map (pair_at k (f ∷ fs)) ins ≡ map (pair_at (k + 1) fs) ins
later_pairs k f fs [] l = refl
later_pairs k f fs (i ∷ is) l =
    ap (λ (files : Files). (i, files) ∷ map (pair_at k (f ∷ fs)) is) (nth_later k i f fs (l i (inl refl)))
    ∙ ap (λ ps. pair_at (k + 1) fs i ∷ ps) (later_pairs k f fs is (λ j h. l j (inr h)))

nth_from : (k m : ℕ) (files : List Files) → nth k files (k + m) ≡ get_or files m []
unfolding nth
nth_from k zero [] = refl
nth_from k (suc m) [] = refl
nth_from k zero (f ∷ fs) = let e : k + zero ≡ k = omega arith in ap (nth k (f ∷ fs)) e ∙ nth_here k f fs
nth_from k (suc m) (f ∷ fs) =
    let later : k < k + suc m = omega arith in
    let e : k + suc m ≡ k + 1 + m = omega arith in
    nth_later k (k + suc m) f fs later ∙ ap (nth (k + 1) fs) e ∙ nth_from (k + 1) m fs

-- ## What is kept

record Spans (ts : List ℕ) (k : ℕ) (files : List Files) (ins : List ℕ) : Type 0 where
  low : (j : ℕ) → Has ins j → k ≤ j
  high : (j : ℕ) → Has ins j → j < k + length files
  kept : (j : ℕ) → k ≤ j → Has ins j → list_any (λ t. t == j) ts ≡ true
  all : (j : ℕ) → k ≤ j → list_any (λ t. t == j) ts ≡ true → Has ins j

beyond : (k j : ℕ) → k ≤ j → (k ≡ j → ⊥) → k < j
beyond k j l n = elim (cases_lt k j) [ inl less ↦ less | inr back ↦ absurd (n (omega (arith, l, back))) ]

-- where number k is none of them, all come later
all_past : (ts : List ℕ) (k : ℕ) (f : Files) (fs : List Files) (ins : List ℕ) → Spans ts k (f ∷ fs) ins → list_any (λ t. t == k) ts ≡ false
    → (j : ℕ) → Has ins j → k < j
all_past ts k f fs ins h none j m =
    beyond k j (h.low j m) (λ same. false≢true (sym none ∙ h.kept k (omega arith) (subst (Has ins) (sym same) m)))

-- where it is one of them, it comes first
with_this : (ts : List ℕ) (k : ℕ) (f : Files) (fs : List Files) (ins : List ℕ) → IsStrictlySortedBy nat_cmp ins → Spans ts k (f ∷ fs) ins → Has ins k
    → ((is : List ℕ) → IsStrictlySortedBy nat_cmp is → Spans ts (k + 1) fs is → kept_from ts (k + 1) fs ≡ map (pair_at (k + 1) fs) is)
    → (k, f) ∷ kept_from ts (k + 1) fs ≡ map (pair_at k (f ∷ fs)) ins
unfolding IsStrictlySortedBy
with_this ts k f fs [] up h m rest = absurd m
with_this ts k f fs (i ∷ is) up h m rest =
    let low = h.low i (inl refl) in
    let first : i ≡ k = elim m [ inl e ↦ e | inr r ↦ (let later = above i k is up.0 r in absurd (omega (arith, low, later))) ] in
    let past : (j : ℕ) → Has is j → k < j = λ j r. subst (λ n. n < j) first (above i j is up.0 r) in
    ap (λ ps. (k, f) ∷ ps) (rest is up.1 (record {
      low = λ j r. let p = past j r in omega (arith, p);
      high = λ j r. let p = h.high j (inr r) in omega (arith, p);
      kept = λ j l r. h.kept j (omega (arith, l)) (inr r);
      all = λ j l e. elim (h.all j (omega (arith, l)) e) [ inl same ↦ absurd (omega (arith, l, first, same)) | inr r ↦ r ];
    }) ∙ sym (later_pairs k f fs is past))
    ∙ ap (λ (files : Files). (k, files) ∷ map (pair_at k (f ∷ fs)) is) (sym (nth_here k f fs))
    ∙ ap (λ j. pair_at k (f ∷ fs) j ∷ map (pair_at k (f ∷ fs)) is) (sym first)

kept_pairs : (ts : List ℕ) (k : ℕ) (files : List Files) (ins : List ℕ) → IsStrictlySortedBy nat_cmp ins → Spans ts k files ins
    → kept_from ts k files ≡ map (pair_at k files) ins
unfolding IsStrictlySortedBy
kept_pairs ts k [] [] up h = refl
kept_pairs ts k [] (i ∷ is) up h =
    let low = h.low i (inl refl) in
    let high = h.high i (inl refl) in
    absurd (omega (arith, low, high))
kept_pairs ts k (f ∷ fs) ins up h = elim (cases_Bool (list_any (λ t. t == k) ts)) [
  | inl here ↦
      ap (λ t. cond t ((k, f) ∷ kept_from ts (k + 1) fs) (kept_from ts (k + 1) fs)) here
      ∙ with_this ts k f fs ins up h (h.all k (omega arith) here) (kept_pairs ts (k + 1) fs)
  | inr none ↦
      let past = all_past ts k f fs ins h none in
      ap (λ t. cond t ((k, f) ∷ kept_from ts (k + 1) fs) (kept_from ts (k + 1) fs)) none
      ∙ kept_pairs ts (k + 1) fs ins up (record {
        low = λ j m. let p = past j m in omega (arith, p);
        high = λ j m. let p = h.high j m in omega (arith, p);
        kept = λ j l m. h.kept j (omega (arith, l)) m;
        all = λ j l e. h.all j (omega (arith, l)) e;
      })
      ∙ sym (later_pairs k f fs ins past)
]

-- ## The inputs of a pip

target_tests : (ts : List ℕ) (j : ℕ) → Contains ts j ↔ (list_any (λ t. t == j) ts ≡ true)
target_tests ts j = (
  λ (at, l, is). list_any-from_Any (λ t. t == j) ts (at, j, l, is, (Decides-eqb j j).1 refl),
  λ e. let (at, t, l, is, same) = Any-from_list_any (λ t. t == j) ts e in
      subst (Contains ts) ((Decides-eqb t j).0 same) (at, l, is),
)

files_at : (ss : List Slot) (j : ℕ) → get_or (map slot_files ss) j [] ≡ slot_files (get_or ss j slots.Empty)
files_at [] zero = refl
files_at [] (suc j) = refl
files_at (s ∷ ss) zero = refl
files_at (s ∷ ss) (suc j) = files_at ss j

pairs_by : (ss : List Slot) (ins : List ℕ) → map (pair_at 0 (map slot_files ss)) ins ≡ map made_pair (map (input_by ss) ins)
pairs_by ss [] = refl
pairs_by ss (i ∷ is) =
    let e : i ≡ 0 + i = omega arith in
    ap (λ (files : Files). (i, files) ∷ map (pair_at 0 (map slot_files ss)) is)
    (ap (nth 0 (map slot_files ss)) e ∙ nth_from 0 i (map slot_files ss) ∙ files_at ss i)
    ∙ ap (λ ps. made_pair (input_by ss i) ∷ ps) (pairs_by ss is)

pairs_each : (files : List Files) (ins : List ℕ) → map (pair_at 0 files) ins ≡ map (λ j. (j, get_or files j [])) ins
pairs_each files [] = refl
pairs_each files (i ∷ is) =
    let e : i ≡ 0 + i = omega arith in
    ap (λ (fs : Files). (i, fs) ∷ map (pair_at 0 files) is) (ap (nth 0 files) e ∙ nth_from 0 i files)
    ∙ ap (λ ps. (i, get_or files i []) ∷ ps) (pairs_each files is)

numbered : (pips : List Pip) (i : ℕ) (files : List Files) (ins : List ℕ) → AreInputs pips i ins → All (λ j. j < i) ins → i ≤ length files
    → map (pair_at 0 files) ins ≡ inputs_at pips i files
numbered pips i files ins are below long = by_pip (slice_get pips i) refl
  where
    no_inputs : (is : List ℕ) → ((j : ℕ) → Has is j → ⊥) → map (pair_at 0 files) is ≡ []
    no_inputs [] none = refl
    no_inputs (x ∷ xs) none = absurd (none x (inl refl))

    by_pip : (o : Option Pip) → slice_get pips i ≡ o → map (pair_at 0 files) ins ≡ kind_inputs pips o files
    by_pip None e =
        no_inputs ins (λ j m. subst (λ p. IsSomeAnd p (λ (pip : Pip). Contains (targets pips pip.kind) j)) e ((are.edges j).0 (contains_has ins j m)))
    by_pip (Some pip) e =
        sym (kept_pairs (targets pips pip.kind) 0 files ins (sorted_from_strictly_increasing ins are.rising) (record {
          low = λ j m. omega arith;
          high = λ j m. let l = All-contains (λ j. j < i) ins j below (contains_has ins j m) in omega (arith, l, long);
          kept = λ j l m. (target_tests (targets pips pip.kind) j).0
              (subst (λ p. IsSomeAnd p (λ (pip : Pip). Contains (targets pips pip.kind) j)) e ((are.edges j).0 (contains_has ins j m)));
          all = λ j l t. has_contained ins j ((are.edges j).1
              (subst (λ p. IsSomeAnd p (λ (pip : Pip). Contains (targets pips pip.kind) j)) (sym e) ((target_tests (targets pips pip.kind) j).1 t)));
        }))

-- the files of the pips for which pip i waits, pip by pip
pub inputs_each : (pips : List Pip) (i : ℕ) (files : List Files) (ins : List ℕ) → AreInputs pips i ins → All (λ j. j < i) ins → i ≤ length files
    → inputs_at pips i files ≡ map (λ j. (j, get_or files j [])) ins
inputs_each pips i files ins are below long = sym (numbered pips i files ins are below long) ∙ pairs_each files ins

-- the files of the pips for which pip i waits, by their numbers
pub inputs_pairs : (pips : List Pip) (i : ℕ) (ss : List Slot) (ins : List ℕ) → AreInputs pips i ins → All (λ j. j < i) ins → i ≤ length ss
    → map made_pair (map (input_by ss) ins) ≡ inputs_at pips i (map slot_files ss)
inputs_pairs pips i ss ins are below long =
    sym (pairs_by ss ins) ∙ numbered pips i (map slot_files ss) ins are below (subst (λ n. i ≤ n) (sym (length-map ss slot_files)) long)

-- ## The files of one of the inputs

numbers_by : (ss : List Slot) (ins : List ℕ) → map (λ (m : MadeBy). m.pip) (map (input_by ss) ins) ≡ ins
numbers_by ss [] = refl
numbers_by ss (i ∷ is) = ap (λ js. i ∷ js) (numbers_by ss is)

pub numbers_rise : (ss : List Slot) (ins : List ℕ) (made : List MadeBy) → made ≡ map (input_by ss) ins → IsStrictlyIncreasing ins
    → IsStrictlyIncreasing (map (λ (m : MadeBy). m.pip) made)
numbers_rise ss ins made e up = subst IsStrictlyIncreasing (sym (ap (map (λ (m : MadeBy). m.pip)) e ∙ numbers_by ss ins)) up

-- numbers that rise go on rising with a greater one at the end
pub rises_on : (xs : List ℕ) (x : ℕ) → IsStrictlyIncreasing xs → All (λ j. j < x) xs → IsStrictlyIncreasing (xs ++ x ∷ [])
rises_on xs x up below k l = elim (cases_lt (k + 1) (length xs)) [
  | inl within ↦
      let here : get_or (xs ++ x ∷ []) k 0 ≡ get_or xs k 0 = get_or_append_left xs (x ∷ []) 0 k (omega (arith, within)) in
      let next : get_or (xs ++ x ∷ []) (k + 1) 0 ≡ get_or xs (k + 1) 0 = get_or_append_left xs (x ∷ []) 0 (k + 1) within in
      let less : get_or xs k 0 < get_or xs (k + 1) 0 = up k within in
      omega (arith, here, next, less)
  | inr past ↦
      let last : k + 1 ≡ length xs + 0 = omega (arith, past, l, length-append xs (x ∷ [])) in
      let here : get_or (xs ++ x ∷ []) k 0 ≡ get_or xs k 0 = get_or_append_left xs (x ∷ []) 0 k (omega (arith, last)) in
      let next : get_or (xs ++ x ∷ []) (k + 1) 0 ≡ x = ap (λ n. get_or (xs ++ x ∷ []) n 0) last ∙ get_or-append-add xs (x ∷ []) 0 0 in
      let less : get_or xs k 0 < x = below k 0 (omega (arith, last)) in
      omega (arith, here, next, less)
]

-- a pip that is not among them made nothing
pub none_by : (made : List MadeBy) (j : ℕ) → All (λ (m : MadeBy). m.pip ≢ j) made → files_by (map made_pair made) j ≡ []
none_by [] j h = refl
none_by (m ∷ ms) j h = elim (cases_Bool (m.pip == j)) [
  | inl e ↦ absurd (h 0 m (omega arith) ((Decides-eqb m.pip j).0 e))
  | inr e ↦
      ap (λ t. cond t m.files (files_by (map made_pair ms) j)) e
      ∙ none_by ms j (λ k d l. h (suc k) d (omega (arith, l)))
]

-- the files of the pip at a place
pub found_by : (made : List MadeBy) (j k : ℕ) (d : MadeBy) → IsStrictlySortedBy nat_cmp (map (λ (m : MadeBy). m.pip) made) → k < length made
    → (get_or made k d).pip ≡ j → files_by (map made_pair made) j ≡ (get_or made k d).files
unfolding IsStrictlySortedBy
found_by [] j k d up l e = absurd (omega (arith, l))
found_by (m ∷ ms) j zero d up l e =
    ap (λ t. cond t m.files (files_by (map made_pair ms) j)) ((Decides-eqb m.pip j).1 e)
found_by (m ∷ ms) j (suc k) d up l e =
    let less = above m.pip j (map (λ (n : MadeBy). n.pip) ms) up.0 (subst (Has (map (λ (n : MadeBy). n.pip) ms)) e (at_place ms k d (omega (arith, l)))) in
    elim (cases_Bool (m.pip == j)) [
      | inl same ↦ let level = (Decides-eqb m.pip j).0 same in absurd (omega (arith, less, level))
      | inr differs ↦ ap (λ t. cond t m.files (files_by (map made_pair ms) j)) differs ∙ found_by ms j k d up.1 (omega (arith, l)) e
    ]
  where
    at_place : (ns : List MadeBy) (k : ℕ) (d : MadeBy) → k < length ns → Has (map (λ (n : MadeBy). n.pip) ns) (get_or ns k d).pip
    at_place [] k d l = absurd (omega (arith, l))
    at_place (n ∷ ns) zero d l = inl refl
    at_place (n ∷ ns) (suc k) d l = inr (at_place ns k d (omega (arith, l)))
