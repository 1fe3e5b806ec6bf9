-- The places of labels, one line after the other.
use Rattle.std.proofs.Common.{◌≡◌, ℕ, ◌+◌, ◌<◌, zero, suc, true, false, Bool, not, ◌&&◌, ◌||◌, cond, List, [], ◌∷◌, ◌++◌, length, map, take, drop, get_or, Option, Some, None, IsSome, inl, inr, refl, ap, sym, ◌∙◌, subst, arith}
use Rattle.std.specs.Borrow.{Bor}
use Rattle.std.specs.List.{list_any}
use Rattle.std.specs.Str.{bytes_eq}
use Rattle.std.specs.BTreeMap.{insert_entry, is_at}
use Rattle.std.specs.Cmp.Lexicographic.{slice_cmp}
use Rattle.std.specs.Ordering.{match_ordering, nat_cmp, is_eq}
use Rattle.std.specs.Map.{lookup}
use Rattle.std.specs.declared.cmp.Ordering.{Ordering}
use Rattle.std.specs.declared.cmp.Ordering.TheVariants.{Less, Equal, Greater}
use Rattle.std.proofs.lemmas.Bool.{and_from, and_parts, cases_Bool, false≢true, and_right}
use Rattle.std.proofs.lemmas.Cmp.{nat_list_cmp_total, tied_itself}
use Rattle.std.proofs.lemmas.List.{take_more, length-take-le}
use Rattle.std.proofs.lemmas.Slice.Eq.{bytes_eq-Decides}
use Rattle.bx_tree.specs.Orders.{equal_texts}
use Rattle.tool_text.specs.Grammar.{Labels}
use Rattle.tool_text.specs.Reading.{Places, are_distinct, has_label, label_of, place_from, place_of}
use Rattle.tool_text.specs.Tables.{IsFree, IsTaken, with_place}
use Rattle.bx_tree.specs.Lent.{texts_now}

-- ## A map with one more key

-- by the texts of keys
abbrev pub text_cmp : List ℕ → List ℕ → Ordering
text_cmp = slice_cmp nat_cmp

one_text : (x y : List ℕ) → is_eq (text_cmp x y) ≡ bytes_eq x y
one_text x y = elim (cases_Bool (bytes_eq x y)) [
  | inl e ↦ ap is_eq (subst (λ z. text_cmp x z ≡ Equal) ((bytes_eq-Decides x y).0 e) (tied_itself nat_list_cmp_total x)) ∙ sym e
  | inr n ↦ by_order (text_cmp x y) refl n
]
  where
    by_order : (o : Ordering) → text_cmp x y ≡ o → bytes_eq x y ≡ false → is_eq o ≡ bytes_eq x y
    by_order Less h n = sym n
    by_order Equal h n = absurd (false≢true (sym n ∙ (bytes_eq-Decides x y).1 (equal_texts x y h)))
    by_order Greater h n = sym n

-- what a map has at a text, with a key put in or its value replaced
placed : (o : Ordering) (qk qe : Bool) (v w : ℕ) (rest more : Option ℕ) → (o ≡ Equal → qk ≡ qe) → (o ≡ Greater → qk ≡ true → qe ≡ true → ⊥)
    → more ≡ cond qk (Some v) rest
    → match_ordering o (cond qk (Some v) (cond qe (Some w) rest)) (cond qe (Some v) rest) (cond qe (Some w) more) ≡ cond qk (Some v) (cond qe (Some w) rest)
placed Less qk qe v w rest more same apart h = refl
placed Equal true true v w rest more same apart h = refl
placed Equal false false v w rest more same apart h = refl
placed Equal true false v w rest more same apart h = absurd (false≢true (sym (same refl)))
placed Equal false true v w rest more same apart h = absurd (false≢true (same refl))
placed Greater true true v w rest more same apart h = absurd (apart refl refl refl)
placed Greater true false v w rest more same apart h = h
placed Greater false true v w rest more same apart h = refl
placed Greater false false v w rest more same apart h = h

is_equal : (o : Ordering) → is_eq o ≡ true → o ≡ Equal
is_equal Less e = cc
is_equal Equal e = refl
is_equal Greater e = cc

module _ {K : Type 0} (f : K → List ℕ) where
  abbrev pub at_text : List ℕ → K → Bool
  at_text q = is_at (λ x. text_cmp q (f x))

  same_keys : (q : List ℕ) (k x : K) → text_cmp (f k) (f x) ≡ Equal → at_text q k ≡ at_text q x
  same_keys q k x e = ap (λ t. is_eq (text_cmp q t)) (equal_texts (f k) (f x) e)

  apart_keys : (q : List ℕ) (k x : K) → text_cmp (f k) (f x) ≡ Greater → at_text q k ≡ true → at_text q x ≡ true → ⊥
  apart_keys q k x g a b =
      let one : q ≡ f k = equal_texts q (f k) (is_equal (text_cmp q (f k)) a) in
      let two : q ≡ f x = equal_texts q (f x) (is_equal (text_cmp q (f x)) b) in
      let level : text_cmp (f k) (f x) ≡ Equal = ap (λ t. text_cmp t (f x)) (sym one) ∙ ap (λ t. text_cmp q t) (sym two) ∙ tied_itself nat_list_cmp_total q in
      let z : Equal ≡ Greater = sym level ∙ g in
      cc

  pub look_inserted : (es : List (K × ℕ)) (k : K) (v : ℕ) (q : List ℕ)
      → lookup (at_text q) (insert_entry (λ a b. text_cmp (f a) (f b)) es k v) ≡ cond (at_text q k) (Some v) (lookup (at_text q) es)
  look_inserted [] k v q = refl
  look_inserted (e ∷ es) k v q =
      spread (text_cmp (f k) (f e.0))
      ∙ placed (text_cmp (f k) (f e.0)) (at_text q k) (at_text q e.0) v e.1 (lookup (at_text q) es)
      (lookup (at_text q) (insert_entry (λ a b. text_cmp (f a) (f b)) es k v))
      (same_keys q k e.0) (apart_keys q k e.0) (look_inserted es k v q)
    where
      spread : (o : Ordering)
          → lookup (at_text q) (match_ordering o ((k, v) ∷ e ∷ es) ((e.0, v) ∷ es) (e ∷ insert_entry (λ a b. text_cmp (f a) (f b)) es k v))
          ≡ match_ordering o (cond (at_text q k) (Some v) (cond (at_text q e.0) (Some e.1) (lookup (at_text q) es)))
          (cond (at_text q e.0) (Some v) (lookup (at_text q) es)) (cond (at_text q e.0) (Some e.1) (lookup (at_text q) (insert_entry (λ a b. text_cmp (f a) (f b)) es k v)))
      spread Less = refl
      spread Equal = refl
      spread Greater = refl

bytes_back : (x y : List ℕ) → bytes_eq x y ≡ bytes_eq y x
bytes_back x y = elim (cases_Bool (bytes_eq x y)) [
  | inl e ↦ e ∙ sym ((bytes_eq-Decides y x).1 (sym ((bytes_eq-Decides x y).0 e)))
  | inr n ↦ elim (cases_Bool (bytes_eq y x)) [
    | inl e ↦ absurd (false≢true (sym n ∙ (bytes_eq-Decides x y).1 (sym ((bytes_eq-Decides y x).0 e))))
    | inr m ↦ n ∙ sym m
  ]
]

-- the map with this key has the place at its text
pub with_key : {K : Type 0} (f : K → List ℕ) (es : List (K × ℕ)) (k : K) (label : List ℕ) (v : ℕ) (q : List ℕ) → f k ≡ label
    → lookup (at_text f q) (insert_entry (λ a b. text_cmp (f a) (f b)) es k v) ≡ with_place (Some label) v (λ t. lookup (at_text f t) es) q
with_key f es k label v q is =
    look_inserted f es k v q
    ∙ ap (λ b. cond b (Some v) (lookup (at_text f q) es)) (one_text q (f k) ∙ ap (bytes_eq q) is ∙ bytes_back q label)

-- ## Labels of more lines

abbrev or_later : Option ℕ → Option ℕ → Option ℕ
or_later None later = later
or_later (Some i) later = Some i

choice : (b : Bool) (i : ℕ) (rest later : Option ℕ) → cond b (Some i) (or_later rest later) ≡ or_later (cond b (Some i) rest) later
choice true i rest later = refl
choice false i rest later = refl

abbrev place_last : (i : ℕ) (own : Option (List ℕ)) (q : List ℕ) → Option ℕ
place_last i None q = None
place_last i (Some label) q = cond (bytes_eq label q) (Some i) None

place_push : (i : ℕ) (ls : Labels) (own : Option (List ℕ)) (q : List ℕ)
    → place_from i (ls ++ own ∷ []) q ≡ or_later (place_from i ls q) (place_last (i + length ls) own q)
place_push i [] None q = refl
place_push i [] (Some label) q = ap (λ n. cond (bytes_eq label q) (Some n) None) (omega arith)
place_push i (None ∷ ls) own q =
    place_push (i + 1) ls own q ∙ ap (λ n. or_later (place_from (i + 1) ls q) (place_last n own q)) (omega arith)
place_push i (Some label ∷ ls) own q =
    ap (cond (bytes_eq label q) (Some i)) (place_push (i + 1) ls own q ∙ ap (λ n. or_later (place_from (i + 1) ls q) (place_last n own q)) (omega arith))
    ∙ choice (bytes_eq label q) i (place_from (i + 1) ls q) (place_last (i + length (Some label ∷ ls)) own q)

-- a label that is free, put at the end
pub place_added : (ls : Labels) (own : Option (List ℕ)) (places : Places) (q : List ℕ) → IsFree own places → ((t : List ℕ) → places t ≡ place_of ls t)
    → with_place own (length ls) places q ≡ place_of (ls ++ own ∷ []) q
place_added ls None places q free same = same q ∙ sym (plain (place_of ls q)) ∙ sym (place_push 0 ls None q)
  where
    plain : (o : Option ℕ) → or_later o None ≡ o
    plain None = refl
    plain (Some i) = refl
place_added ls (Some label) places q free same =
    chosen (bytes_eq label q) refl ∙ ap (λ n. or_later (place_of ls q) (cond (bytes_eq label q) (Some n) None)) (sym (omega arith)) ∙ sym (place_push 0 ls (Some label) q)
  where
    kept : (o : Option ℕ) → o ≡ or_later o None
    kept None = refl
    kept (Some i) = refl

    chosen : (b : Bool) → bytes_eq label q ≡ b → cond b (Some (length ls)) (places q) ≡ or_later (place_of ls q) (cond b (Some (length ls)) None)
    chosen true e =
        let none : place_of ls q ≡ None = ap (place_of ls) (sym ((bytes_eq-Decides label q).0 e)) ∙ sym (same label) ∙ free in
        ap (λ o. or_later o (Some (length ls))) (sym none)
    chosen false e = same q ∙ kept (place_of ls q)

has_place : (i : ℕ) (ls : Labels) (label : List ℕ) → place_from i ls label ≡ None → list_any (has_label label) ls ≡ false
has_place i [] label e = refl
has_place i (None ∷ ls) label e = has_place (i + 1) ls label e
has_place i (Some own ∷ ls) label e = elim (cases_Bool (bytes_eq own label)) [
  | inl y ↦ let z : Some i ≡ None = sym (ap (λ b. cond b (Some i) (place_from (i + 1) ls label)) y) ∙ e in cc
  | inr n ↦
      ap (λ b. b || list_any (has_label label) ls) (bytes_back label own ∙ n)
      ∙ has_place (i + 1) ls label (sym (ap (λ b. cond b (Some i) (place_from (i + 1) ls label)) n) ∙ e)
]

any_push : (label : List ℕ) (ls : Labels) (own : Option (List ℕ)) → list_any (has_label label) ls ≡ false → has_label label own ≡ false
    → list_any (has_label label) (ls ++ own ∷ []) ≡ false
any_push label [] own h e = ap (λ b. b || false) e
any_push label (x ∷ ls) own h e = elim (cases_Bool (has_label label x)) [
  | inl y ↦ absurd (false≢true (sym h ∙ ap (λ b. b || list_any (has_label label) ls) y))
  | inr n ↦
      ap (λ b. b || list_any (has_label label) (ls ++ own ∷ [])) n
      ∙ any_push label ls own (sym (ap (λ b. b || list_any (has_label label) ls) n) ∙ h) e
]

has_same : (own label : List ℕ) (b : Bool) → bytes_eq own label ≡ b → has_label own (Some label) ≡ b
has_same own label b e = e

-- labels stay distinct with one that is free
pub distinct_added : (i : ℕ) (ls : Labels) (own : Option (List ℕ)) → IsFree own (place_from i ls) → are_distinct ls ≡ true → are_distinct (ls ++ own ∷ []) ≡ true
distinct_added i [] None free h = refl
distinct_added i [] (Some label) free h = refl
distinct_added i (None ∷ ls) None free h = distinct_added (i + 1) ls None tt h
distinct_added i (None ∷ ls) (Some label) free h = distinct_added (i + 1) ls (Some label) free h
distinct_added i (Some x ∷ ls) None free h =
    let parts = and_parts (not (list_any (has_label x) ls)) (are_distinct ls) h in
    and_from _ _ (ap not (any_push x ls None (not_true (list_any (has_label x) ls) parts.0) refl)) (distinct_added (i + 1) ls None tt parts.1)
  where
    not_true : (b : Bool) → not b ≡ true → b ≡ false
    not_true true e = cc
    not_true false e = refl
distinct_added i (Some x ∷ ls) (Some label) free h = elim (cases_Bool (bytes_eq x label)) [
  | inl y ↦ let z : Some i ≡ None = sym (ap (λ b. cond b (Some i) (place_from (i + 1) ls label)) y) ∙ free in cc
  | inr n ↦
      let parts = and_parts (not (list_any (has_label x) ls)) (are_distinct ls) h in
      and_from _ _ (ap not (any_push x ls (Some label) (not_true (list_any (has_label x) ls) parts.0) n))
      (distinct_added (i + 1) ls (Some label) (sym (ap (λ b. cond b (Some i) (place_from (i + 1) ls label)) n) ∙ free) parts.1)
]
  where
    not_true : (b : Bool) → not b ≡ true → b ≡ false
    not_true true e = cc
    not_true false e = refl

any_later : (label : List ℕ) (ls more : Labels) → list_any (has_label label) (ls ++ Some label ∷ more) ≡ true
any_later label [] more = ap (λ b. b || list_any (has_label label) more) ((bytes_eq-Decides label label).1 refl)
any_later label (x ∷ ls) more = elim (cases_Bool (has_label label x)) [
  | inl y ↦ ap (λ b. b || list_any (has_label label) (ls ++ Some label ∷ more)) y
  | inr n ↦ ap (λ b. b || list_any (has_label label) (ls ++ Some label ∷ more)) n ∙ any_later label ls more
]

-- a label that is taken is there twice
taken_twice : (i : ℕ) (ls more : Labels) (label : List ℕ) → IsSome (place_from i ls label) → are_distinct (ls ++ Some label ∷ more) ≡ false
taken_twice i [] more label h = cc
taken_twice i (None ∷ ls) more label h = taken_twice (i + 1) ls more label h
taken_twice i (Some x ∷ ls) more label h = elim (cases_Bool (bytes_eq x label)) [
  | inl y ↦
      let one : x ≡ label = (bytes_eq-Decides x label).0 y in
      ap (λ b. not b && are_distinct (ls ++ Some label ∷ more)) (subst (λ t. list_any (has_label t) (ls ++ Some label ∷ more) ≡ true) (sym one) (any_later label ls more))
  | inr n ↦
      and_right (not (list_any (has_label x) (ls ++ Some label ∷ more))) (are_distinct (ls ++ Some label ∷ more))
      (taken_twice (i + 1) ls more label (subst IsSome (ap (λ b. cond b (Some i) (place_from (i + 1) ls label)) n) h))
]

-- ## Lines

abbrev pub labels_of : List (Bor (List ℕ)) → Labels
labels_of lines = map label_of (texts_now lines)

labels_push : (lines : List (Bor (List ℕ))) (line : Bor (List ℕ)) → labels_of (lines ++ line ∷ []) ≡ labels_of lines ++ label_of line.now ∷ []
labels_push [] line = refl
labels_push (x ∷ xs) line = ap (λ ls. label_of x.now ∷ ls) (labels_push xs line)

length-labels : (lines : List (Bor (List ℕ))) → length (labels_of lines) ≡ length lines
length-labels [] = refl
length-labels (x ∷ xs) = ap suc (length-labels xs)

pub record Known (lines : List (Bor (List ℕ))) (places : Places) : Type 0 where
  pub distinct : are_distinct (labels_of lines) ≡ true
  pub known : (q : List ℕ) → places q ≡ place_of (labels_of lines) q

free_same : (own : Option (List ℕ)) (f g : Places) → ((q : List ℕ) → f q ≡ g q) → IsFree own f → IsFree own g
free_same None f g same h = tt
free_same (Some label) f g same h = sym (same label) ∙ h

pub one_line : (lines : List (Bor (List ℕ))) (i : ℕ) (d : Bor (List ℕ)) (places new : Places) → i < length lines
    → are_distinct (labels_of (take i lines)) ≡ true → ((q : List ℕ) → places q ≡ place_of (labels_of (take i lines)) q)
    → IsFree (label_of (get_or lines i d).now) places → ((q : List ℕ) → new q ≡ with_place (label_of (get_or lines i d).now) i places q)
    → Known (take (i + 1) lines) new
one_line lines i d places new l distinct known free added =
    let line = get_or lines i d in
    let more : labels_of (take (i + 1) lines) ≡ labels_of (take i lines) ++ label_of line.now ∷ [] = ap labels_of (take_more lines i d l) ∙ labels_push (take i lines) line in
    let size : length (labels_of (take i lines)) ≡ i = length-labels (take i lines) ∙ length-take-le i lines (omega (arith, l)) in
    record {
      distinct = ap are_distinct more ∙ distinct_added 0 (labels_of (take i lines)) (label_of line.now) (free_same (label_of line.now) places (place_of (labels_of (take i lines))) known free) distinct;
      known = λ q. added q ∙ ap (λ n. with_place (label_of line.now) n places q) (sym size)
          ∙ place_added (labels_of (take i lines)) (label_of line.now) places q free known ∙ ap (λ ls. place_of ls q) (sym more);
    }

twice_in : (ls more : Labels) (own : Option (List ℕ)) (places : Places) → ((q : List ℕ) → places q ≡ place_of ls q) → IsTaken own places
    → are_distinct (ls ++ own ∷ more) ≡ false
twice_in ls more None places same h = absurd h
twice_in ls more (Some label) places same h = taken_twice 0 ls more label (subst IsSome (same label) h)

labels-append : (xs ys : List (Bor (List ℕ))) → labels_of (xs ++ ys) ≡ labels_of xs ++ labels_of ys
labels-append [] ys = refl
labels-append (x ∷ xs) ys = ap (λ ls. label_of x.now ∷ ls) (labels-append xs ys)

cut_there : (lines : List (Bor (List ℕ))) (i : ℕ) (d : Bor (List ℕ)) → i < length lines → lines ≡ take i lines ++ get_or lines i d ∷ drop (suc i) lines
cut_there [] i d l = absurd (omega (arith, l))
cut_there (x ∷ xs) zero d l = refl
cut_there (x ∷ xs) (suc i) d l = ap (λ ys. x ∷ ys) (cut_there xs i d (omega (arith, l)))

pub line_twice : (lines : List (Bor (List ℕ))) (i : ℕ) (d : Bor (List ℕ)) (places : Places) → i < length lines
    → ((q : List ℕ) → places q ≡ place_of (labels_of (take i lines)) q) → IsTaken (label_of (get_or lines i d).now) places
    → are_distinct (labels_of lines) ≡ false
line_twice lines i d places l known taken =
    ap are_distinct (ap labels_of (cut_there lines i d l) ∙ labels-append (take i lines) (get_or lines i d ∷ drop (suc i) lines))
    ∙ twice_in (labels_of (take i lines)) (labels_of (drop (suc i) lines)) (label_of (get_or lines i d).now) places known taken
