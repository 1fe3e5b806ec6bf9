-- Lists that are gone through one element after the other.
use Rattle.std.proofs.Common.{◌≡◌, ◌≢◌, ℕ, ◌+◌, ◌<◌, zero, suc, true, false, Bool, cond, List, [], ◌∷◌, ◌++◌, ◌==◌, length, drop, get_or, Option, Some, None, refl, ap, sym, ◌∙◌, arith, append_assoc, add-one, inl, inr}
use Rattle.std.specs.Prelude.{slice_get}
use mathlib.Core.Path.{fun_ext}
use Rattle.std.specs.Borrow.{Bor}
use Rattle.std.proofs.lemmas.Bool.{cases_Bool}
use Rattle.std.proofs.lemmas.Bool.Decides.{Decides-eqb}
use Rattle.std.proofs.lemmas.List.{append-nil}
use Rattle.std.proofs.lemmas.Option.{same_Some}
use Rattle.bx_tree.specs.Lent.{texts_now}
use Rattle.bx_tree.proofs.Lent.{texts_at, drop_whole}
use Rattle.tool_text.specs.Grammar.{says}
use Rattle.tool_text.specs.Reading.{Places}
use Rattle.tool_faults.specs.declared.fault.LineFault.{LineFault}
use Rattle.tool_faults.specs.declared.fault.OperandKind.{OperandKind}
use Rattle.tool_faults.specs.declared.fault.Wrong.{Wrong}
use Rattle.tool_faults.specs.declared.fault.Wrong.TheVariants as wrongs
use Rattle.tool_text.specs.declared.op.Op.{Op}
use Rattle.tool_faults.specs.Faults.{faults_from, first_bad, is_operand, kinds_of, line_faults, numbers_from, or_no_instruction, why_not_operands}

-- ## Operands

kind_there : (kinds : List OperandKind) (i : ℕ) (kind : OperandKind) → slice_get kinds i ≡ Some kind → drop i kinds ≡ kind ∷ drop (i + 1) kinds
kind_there kinds i kind e = at kinds i e ∙ ap (λ n. kind ∷ drop n kinds) (sym (add-one i))
  where
    at : (ks : List OperandKind) (k : ℕ) → slice_get ks k ≡ Some kind → drop k ks ≡ kind ∷ drop (suc k) ks
    at [] k e = cc
    at (x ∷ xs) zero e = ap (λ y. y ∷ xs) (same_Some x kind e)
    at (x ∷ xs) (suc k) e = at xs k e

no_kind_there : (kinds : List OperandKind) (i : ℕ) → slice_get kinds i ≡ None → drop i kinds ≡ []
no_kind_there [] zero e = refl
no_kind_there [] (suc i) e = refl
no_kind_there (x ∷ xs) zero e = cc
no_kind_there (x ∷ xs) (suc i) e = no_kind_there xs i e

no_texts : (places : Places) (k : ℕ) (kinds : List OperandKind) → first_bad places k kinds [] ≡ None
no_texts places k [] = refl
no_texts places k (x ∷ xs) = refl

-- all texts were gone through
pub all_texts : (texts : List (Bor (List ℕ))) (i : ℕ) (places : Places) (kinds : List OperandKind) (all : Option Wrong) → length texts ≡ i
    → first_bad places (i + 1) (drop i kinds) (texts_now (drop i texts)) ≡ all → all ≡ None
all_texts texts i places kinds all l so_far =
    sym so_far ∙ ap (λ ts. first_bad places (i + 1) (drop i kinds) (texts_now ts)) (drop_whole texts i l) ∙ no_texts places (i + 1) (drop i kinds)

-- no more operands are taken
pub no_more_kinds : (texts : List (Bor (List ℕ))) (i : ℕ) (places : Places) (kinds : List OperandKind) (all : Option Wrong) → slice_get kinds i ≡ None
    → first_bad places (i + 1) (drop i kinds) (texts_now (drop i texts)) ≡ all → all ≡ None
no_more_kinds texts i places kinds all none so_far =
    sym so_far ∙ ap (λ ks. first_bad places (i + 1) ks (texts_now (drop i texts))) (no_kind_there kinds i none)

-- one more text
at_text : (texts : List (Bor (List ℕ))) (i : ℕ) (d : Bor (List ℕ)) (places : Places) (kinds : List OperandKind) (kind : OperandKind) (all : Option Wrong) → i < length texts
    → slice_get kinds i ≡ Some kind → first_bad places (i + 1) (drop i kinds) (texts_now (drop i texts)) ≡ all
    → cond (is_operand places kind (get_or texts i d).now) (first_bad places (i + 1 + 1) (drop (i + 1) kinds) (texts_now (drop (i + 1) texts))) (Some (wrongs.Operand (i + 1) kind)) ≡ all
at_text texts i d places kinds kind all l is so_far =
    sym (ap (λ ks. first_bad places (i + 1) ks (texts_now (drop i texts))) (kind_there kinds i kind is)
    ∙ ap (first_bad places (i + 1) (kind ∷ drop (i + 1) kinds)) (texts_at texts i d l))
    ∙ so_far

pub good_text : (texts : List (Bor (List ℕ))) (i : ℕ) (d : Bor (List ℕ)) (places : Places) (kinds : List OperandKind) (kind : OperandKind) (all : Option Wrong) → i < length texts
    → slice_get kinds i ≡ Some kind → is_operand places kind (get_or texts i d).now ≡ true → first_bad places (i + 1) (drop i kinds) (texts_now (drop i texts)) ≡ all
    → first_bad places (i + 1 + 1) (drop (i + 1) kinds) (texts_now (drop (i + 1) texts)) ≡ all
good_text texts i d places kinds kind all l is good so_far =
    sym (ap (λ b. cond b (first_bad places (i + 1 + 1) (drop (i + 1) kinds) (texts_now (drop (i + 1) texts))) (Some (wrongs.Operand (i + 1) kind))) good)
    ∙ at_text texts i d places kinds kind all l is so_far

pub bad_text : (texts : List (Bor (List ℕ))) (i : ℕ) (d : Bor (List ℕ)) (places : Places) (kinds : List OperandKind) (kind : OperandKind) (all : Option Wrong) → i < length texts
    → slice_get kinds i ≡ Some kind → is_operand places kind (get_or texts i d).now ≡ false → first_bad places (i + 1) (drop i kinds) (texts_now (drop i texts)) ≡ all
    → Some (wrongs.Operand (i + 1) kind) ≡ all
bad_text texts i d places kinds kind all l is bad so_far =
    sym (ap (λ b. cond b (first_bad places (i + 1 + 1) (drop (i + 1) kinds) (texts_now (drop (i + 1) texts))) (Some (wrongs.Operand (i + 1) kind))) bad)
    ∙ at_text texts i d places kinds kind all l is so_far

length-texts : (lines : List (Bor (List ℕ))) → length lines ≡ length (texts_now lines)
length-texts [] = refl
length-texts (x ∷ xs) = ap suc (length-texts xs)

unequal : (a b : ℕ) → a ≢ b → (a == b) ≡ false
unequal a b differs = elim (cases_Bool (a == b)) [ inl same ↦ absurd (differs ((Decides-eqb a b).0 same)) | inr e ↦ e ]

-- why texts are no operands, by their number and by their kinds
module _ (places : Places) (op : Op) (lines : List (Bor (List ℕ))) (kinds : List OperandKind) (are : kinds ≡ kinds_of op (length lines)) where
  kinds_are : kinds ≡ kinds_of op (length (texts_now lines))
  kinds_are = are ∙ ap (kinds_of op) (length-texts lines)

  -- the answer by whether the number is right
  abbrev by_count : Bool → Wrong
  by_count right =
      cond right (or_no_instruction (first_bad places 1 (kinds_of op (length (texts_now lines))) (texts_now lines)))
      (wrongs.Count (length (kinds_of op (length (texts_now lines)))))

  test_is : (b : Bool) → (length lines == length kinds) ≡ b → by_count b ≡ why_not_operands places op (texts_now lines)
  test_is b e =
      ap by_count (sym e ∙ ap (λ n. n == length kinds) (length-texts lines) ∙ ap (λ (ks : List OperandKind). length (texts_now lines) == length ks) kinds_are)

  pub counted : length lines ≢ length kinds → wrongs.Count (length kinds) ≡ why_not_operands places op (texts_now lines)
  counted differs =
      ap (λ (ks : List OperandKind). wrongs.Count (length ks)) kinds_are ∙ test_is false (unequal (length lines) (length kinds) differs)

  pub judged : (found : Option Wrong) → length lines ≡ length kinds → found ≡ first_bad places 1 kinds (texts_now lines)
      → or_no_instruction found ≡ why_not_operands places op (texts_now lines)
  judged found e is =
      ap or_no_instruction (is ∙ ap (λ (ks : List OperandKind). first_bad places 1 ks (texts_now lines)) kinds_are) ∙ test_is true ((Decides-eqb (length lines) (length kinds)).1 e)

-- ## Numbers

pub number_not : (n : ℕ) (line held : List ℕ) (r : Bool) → r ≡ says line → r ≡ false → held ≡ held ++ numbers_from n (line ∷ [])
number_not n line held r is is_no = sym (append-nil held) ∙ ap (λ b. held ++ cond b (n ∷ []) []) (sym is_no ∙ is)

pub number_added : (n : ℕ) (line held new : List ℕ) (r : Bool) → r ≡ says line → r ≡ true → new ≡ held ++ n ∷ [] → new ≡ held ++ numbers_from n (line ∷ [])
number_added n line held new r is is_yes more = more ∙ ap (λ b. held ++ cond b (n ∷ []) []) (sym is_yes ∙ is)

numbers_split : (n : ℕ) (x : List ℕ) (xs : List (List ℕ)) → numbers_from n (x ∷ xs) ≡ numbers_from n (x ∷ []) ++ numbers_from (n + 1) xs
numbers_split n x xs = by_test (says x)
  where
    by_test : (t : Bool) → cond t (n ∷ numbers_from (n + 1) xs) (numbers_from (n + 1) xs) ≡ cond t (n ∷ []) [] ++ numbers_from (n + 1) xs
    by_test true = refl
    by_test false = refl

pub numbers_added : (lines : List (Bor (List ℕ))) (i : ℕ) (d : Bor (List ℕ)) (held new all : List ℕ) → i < length lines
    → new ≡ held ++ numbers_from (i + 2) ((get_or lines i d).now ∷ []) → held ++ numbers_from (i + 2) (texts_now (drop i lines)) ≡ all
    → new ++ numbers_from (i + 1 + 2) (texts_now (drop (i + 1) lines)) ≡ all
numbers_added lines i d held new all l more so_far =
    let line = (get_or lines i d).now in
    let rest = texts_now (drop (i + 1) lines) in
    ap (λ xs. xs ++ numbers_from (i + 1 + 2) rest) more
    ∙ append_assoc held (numbers_from (i + 2) (line ∷ [])) (numbers_from (i + 1 + 2) rest)
    ∙ ap (λ n. held ++ (numbers_from (i + 2) (line ∷ []) ++ numbers_from n rest)) (let same : i + 1 + 2 ≡ i + 2 + 1 = omega arith in same)
    ∙ ap (λ xs. held ++ xs) (sym (numbers_split (i + 2) line rest))
    ∙ ap (λ ts. held ++ numbers_from (i + 2) ts) (sym (texts_at lines i d l)) ∙ so_far

pub all_numbers : (lines : List (Bor (List ℕ))) (i : ℕ) (held all : List ℕ) → length lines ≡ i
    → held ++ numbers_from (i + 2) (texts_now (drop i lines)) ≡ all → held ≡ all
all_numbers lines i held all l so_far =
    sym (append-nil held) ∙ ap (λ ts. held ++ numbers_from (i + 2) (texts_now ts)) (sym (drop_whole lines i l)) ∙ so_far

-- ## Faults

pub faults_added : (lines : List (Bor (List ℕ))) (i : ℕ) (d : Bor (List ℕ)) (second : Bool) (places : Places) (numbers : List ℕ) (held new all : List LineFault) → i < length lines
    → new ≡ held ++ line_faults second places numbers i (get_or lines i d).now
    → held ++ faults_from second places numbers i (texts_now (drop i lines)) ≡ all
    → new ++ faults_from second places numbers (i + 1) (texts_now (drop (i + 1) lines)) ≡ all
faults_added lines i d second places numbers held new all l more so_far =
    let rest = faults_from second places numbers (i + 1) (texts_now (drop (i + 1) lines)) in
    ap (λ xs. xs ++ rest) more
    ∙ append_assoc held (line_faults second places numbers i (get_or lines i d).now) rest
    ∙ ap (λ ts. held ++ faults_from second places numbers i ts) (sym (texts_at lines i d l)) ∙ so_far

pub all_faults : (lines : List (Bor (List ℕ))) (i : ℕ) (second : Bool) (places : Places) (numbers : List ℕ) (held all : List LineFault) → length lines ≡ i
    → held ++ faults_from second places numbers i (texts_now (drop i lines)) ≡ all → held ≡ all
all_faults lines i second places numbers held all l so_far =
    sym (append-nil held) ∙ ap (λ ts. held ++ faults_from second places numbers i (texts_now ts)) (sym (drop_whole lines i l)) ∙ so_far

-- faults by places that are the same
pub by_places : (second : Bool) (places known : Places) (numbers : List ℕ) (lines : List (List ℕ)) → ((q : List ℕ) → places q ≡ known q)
    → faults_from second places numbers 0 lines ≡ faults_from second known numbers 0 lines
by_places second places known numbers lines same = ap (λ (f : Places). faults_from second f numbers 0 lines) (fun_ext same)
