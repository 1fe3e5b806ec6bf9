-- Of the files of one path the source file is kept, and without one that of the least maker.
use Rattle.std.proofs.Common.{◌≡◌, ◌⊎◌, ℕ, ◌≤◌, Bool, true, false, cond, nat_le, List, [], ◌∷◌, Option, Some, None, refl, ap, sym, ◌∙◌, subst, inl, inr, arith}
use Rattle.std.specs.Prelude.{fold}
use Rattle.std.specs.BTreeMap.{insert_entry}
use Rattle.std.specs.List.{AllByRecursion}
use Rattle.std.specs.List.Sorted.{IsStrictlySortedBy}
use Rattle.std.specs.Cmp.{Equal-is}
use Rattle.std.specs.Ordering.{is_eq, match_ordering}
use Rattle.std.specs.declared.cmp.Ordering.{Ordering}
use Rattle.std.specs.declared.cmp.Ordering.TheVariants.{Less, Equal, Greater}
use Rattle.std.proofs.lemmas.Bool.{cases_Bool, cases_lt, false≢true, le-leb, leb-true}
use Rattle.std.proofs.lemmas.Cmp.{tied_itself}
use Rattle.std.proofs.lemmas.Option.{same_Some}
use Rattle.bx_tree.specs.Orders.{equal_paths, path_cmp_total}
use Rattle.bx_tree.specs.Paths.{Atoms, path_cmp}
use Rattle.bx_tree.specs.declared.file_input.FileInput.{FileInput}
use Rattle.bx_tree.specs.declared.file_input.FileInput.TheVariants.{Source, Made}
use Rattle.dscript_sdk_pips.specs.FileSets.{AreCounted, FileMap, MayCount, counted, counting, file_for, files_by_path, put_file}
use Rattle.dscript_sdk_pips.proofs.FilesKept.{Own, files_rise, keys, own_from, rising_from, values}
use Rattle.dscript_sdk_pips.proofs.Listed.{path_kept}
use Rattle.bx_tree.specs.FileInputs.{input_path}
use Rattle.bx_tree.specs.Members.{Has}
use Rattle.bx_tree.proofs.Sets.{contains_has, has_contained}

-- ## Which of two files counts

by_test : {X : Type 0} (P : X → Type 0) (b : Bool) (x y : X) → (b ≡ true → P x) → (b ≡ false → P y) → P (cond b x y)
by_test P true x y h k = h refl
by_test P false x y h k = k refl

greater_or : (m n : ℕ) → nat_le m n ≡ false → n ≤ m
greater_or m n e = elim (cases_lt n m) [ inl less ↦ omega (arith, less) | inr high ↦ absurd (false≢true (sym e ∙ le-leb m n high)) ]

counting_first : (f g : FileInput) → MayCount (counting f g) f
counting_first (Source path) g = tt
counting_first (Made path m) (Source other) = tt
counting_first (Made path m) (Made other n) =
    by_test (λ h. MayCount h (Made path m)) (nat_le m n) (Made path m) (Made other n) (λ e. omega arith) (λ e. greater_or m n e)

counting_second : (f g : FileInput) → MayCount (counting f g) g
counting_second (Source path) g = tt
counting_second (Made path m) (Source other) = tt
counting_second (Made path m) (Made other n) =
    by_test (λ h. MayCount h (Made other n)) (nat_le m n) (Made path m) (Made other n) (λ e. leb-true m n e) (λ e. omega arith)

counting_either : (f g : FileInput) → (counting f g ≡ f) ⊎ (counting f g ≡ g)
counting_either (Source path) g = inl refl
counting_either (Made path m) (Source other) = inr refl
counting_either (Made path m) (Made other n) =
    by_test (λ h. (h ≡ Made path m) ⊎ (h ≡ Made other n)) (nat_le m n) (Made path m) (Made other n) (λ e. inl refl) (λ e. inr refl)

may_count_over : (f g h : FileInput) → MayCount f g → MayCount g h → MayCount f h
may_count_over (Source path) g h a b = tt
may_count_over (Made path m) (Source other) h a b = absurd a
may_count_over (Made path m) (Made other n) (Source third) a b = absurd b
may_count_over (Made path m) (Made other n) (Made third o) a b = omega (arith, a, b)

-- ## What is found after a file is put

placed : (q k : Atoms) (v : FileInput) (e : Atoms × FileInput) (es rest : FileMap) (o : Ordering) → path_cmp k e.0 ≡ o
    → file_for rest q ≡ cond (is_eq (path_cmp q k)) (Some v) (file_for es q)
    → file_for (match_ordering o ((k, v) ∷ e ∷ es) ((e.0, v) ∷ es) (e ∷ rest)) q
    ≡ cond (is_eq (path_cmp q k)) (Some v) (file_for (e ∷ es) q)
placed q k v e es rest Less c h = refl
placed q k v e es rest Equal c h =
    ap (λ p. cond (is_eq (path_cmp q p)) (Some v) (file_for es q)) (sym (equal_paths k e.0 c))
    ∙ twice (is_eq (path_cmp q k)) (Some v) (Some e.1) (file_for es q)
    ∙ ap (λ p. cond (is_eq (path_cmp q k)) (Some v) (cond (is_eq (path_cmp q p)) (Some e.1) (file_for es q))) (equal_paths k e.0 c)
  where
    twice : (b : Bool) (x y z : Option FileInput) → cond b x z ≡ cond b x (cond b y z)
    twice true x y z = refl
    twice false x y z = refl
placed q k v e es rest Greater c h =
    ap (cond (is_eq (path_cmp q e.0)) (Some e.1)) h ∙ swapped (is_eq (path_cmp q e.0)) (is_eq (path_cmp q k)) refl refl
  where
    apart : is_eq (path_cmp q e.0) ≡ true → is_eq (path_cmp q k) ≡ true → ⊥
    apart a b =
        let here : q ≡ e.0 = equal_paths q e.0 ((Equal-is (path_cmp q e.0)).0 a) in
        let there : q ≡ k = equal_paths q k ((Equal-is (path_cmp q k)).0 b) in
        let level : path_cmp k e.0 ≡ Equal = ap (path_cmp k) (sym here ∙ there) ∙ tied_itself path_cmp_total k in
        cc

    swapped : (a b : Bool) → is_eq (path_cmp q e.0) ≡ a → is_eq (path_cmp q k) ≡ b
        → cond a (Some e.1) (cond b (Some v) (file_for es q)) ≡ cond b (Some v) (cond a (Some e.1) (file_for es q))
    swapped true true x y = absurd (apart x y)
    swapped true false x y = refl
    swapped false b x y = refl

found_put : (es : FileMap) (q k : Atoms) (v : FileInput)
    → file_for (insert_entry path_cmp es k v) q ≡ cond (is_eq (path_cmp q k)) (Some v) (file_for es q)
found_put [] q k v = refl
found_put (e ∷ es) q k v = placed q k v e es (insert_entry path_cmp es k v) (path_cmp k e.0) refl (found_put es q k v)

-- ## The file that is kept for a path

record KeptFor (q : Atoms) (before : Option FileInput) (files : List FileInput) (file : FileInput) : Type 0 where
  given : (before ≡ Some file) ⊎ Has files file
  least : (other : FileInput) → Has files other → input_path other ≡ q → MayCount file other
  over : (other : FileInput) → before ≡ Some other → MayCount file other

-- the file that counts is the new one or the one before, and counts over both
counted_either : (f : FileInput) (o : Option FileInput) → (counted f o ≡ f) ⊎ (o ≡ Some (counted f o))
counted_either f None = inl refl
counted_either f (Some g) = elim (counting_either f g) [ inl e ↦ inl e | inr e ↦ inr (ap Some (sym e)) ]

counted_new : (f : FileInput) (o : Option FileInput) → MayCount (counted f o) f
counted_new (Source path) None = tt
counted_new (Made path m) None = omega arith
counted_new f (Some g) = counting_first f g

counted_old : (f : FileInput) (o : Option FileInput) (g : FileInput) → o ≡ Some g → MayCount (counted f o) g
counted_old f o g e = subst (λ p. MayCount (counted f p) g) (sym e) (counting_second f g)

kept_here : (f : FileInput) (fs : List FileInput) (o : Option FileInput) (g : FileInput)
    → KeptFor (input_path f) (Some (counted f o)) fs g → KeptFor (input_path f) o (f ∷ fs) g
kept_here f fs o g h = record {
  given = elim h.given [
    | inl put ↦
        let is = same_Some (counted f o) g put in
        elim (counted_either f o) [ inl new ↦ inr (inl (sym new ∙ is)) | inr old ↦ inl (old ∙ ap Some is) ]
    | inr later ↦ inr (inr later)
  ];
  least = λ other there path. elim there [
    | inl here ↦ subst (MayCount g) here (may_count_over g (counted f o) f (h.over (counted f o) refl) (counted_new f o))
    | inr later ↦ h.least other later path
  ];
  over = λ other e. may_count_over g (counted f o) other (h.over (counted f o) refl) (counted_old f o other e);
}

kept_else : (q : Atoms) (f : FileInput) (fs : List FileInput) (o : Option FileInput) (g : FileInput) → (input_path f ≡ q → ⊥)
    → KeptFor q o fs g → KeptFor q o (f ∷ fs) g
kept_else q f fs o g n h = record {
  given = elim h.given [ inl old ↦ inl old | inr later ↦ inr (inr later) ];
  least = λ other there path. elim there [
    | inl here ↦ absurd (n (ap input_path here ∙ path))
    | inr later ↦ h.least other later path
  ];
  over = h.over;
}

kept_for : (files : List FileInput) (es : FileMap) (q : Atoms) (g : FileInput) → file_for (fold put_file es files) q ≡ Some g
    → KeptFor q (file_for es q) files g
kept_for [] es q g e = record {
  given = inl e;
  least = λ other there path. absurd there;
  over = λ other old. subst (MayCount g) (same_Some g other (sym e ∙ old)) (may_count_itself g);
}
  where
    may_count_itself : (f : FileInput) → MayCount f f
    may_count_itself (Source path) = tt
    may_count_itself (Made path m) = omega arith
kept_for (f ∷ fs) es q g e = by_path (is_eq (path_cmp q (input_path f))) refl (kept_for fs (put_file es f) q g e)
  where
    put : file_for (put_file es f) q ≡ cond (is_eq (path_cmp q (input_path f))) (Some (counted f (file_for es (input_path f)))) (file_for es q)
    put = found_put es q (input_path f) (counted f (file_for es (input_path f)))

    by_path : (b : Bool) → is_eq (path_cmp q (input_path f)) ≡ b → KeptFor q (file_for (put_file es f) q) fs g → KeptFor q (file_for es q) (f ∷ fs) g
    by_path true here h =
        let same : q ≡ input_path f = equal_paths q (input_path f) ((Equal-is (path_cmp q (input_path f))).0 here) in
        let there = put ∙ ap (λ b. cond b (Some (counted f (file_for es (input_path f)))) (file_for es q)) here in
        subst (λ p. KeptFor p (file_for es p) (f ∷ fs) g) (sym same)
        (kept_here f fs (file_for es (input_path f)) g
        (subst (λ p. KeptFor p (Some (counted f (file_for es (input_path f)))) fs g) same (subst (λ o. KeptFor q o fs g) there h)))
    by_path false other h =
        let there = put ∙ ap (λ b. cond b (Some (counted f (file_for es (input_path f)))) (file_for es q)) other in
        kept_else q f fs (file_for es q) g
        (λ path. let level : is_eq (path_cmp q (input_path f)) ≡ true = ap (λ p. is_eq (path_cmp q p)) path ∙ ap is_eq (tied_itself path_cmp_total q) in false≢true (sym other ∙ level))
        (subst (λ o. KeptFor q o fs g) there h)

-- ## Each kept file is the one of its path

later_keys : (k : Atoms) (es : FileMap) (g : FileInput) → AllByRecursion (λ p. path_cmp k p ≡ Less) (keys es) → Own es → Has (values es) g
    → path_cmp k (input_path g) ≡ Less
later_keys k [] g less own there = absurd there
later_keys k (e ∷ es) g less own there = elim there [
  | inl here ↦ ap (path_cmp k) (ap input_path (sym here) ∙ own.0) ∙ less.0
  | inr later ↦ later_keys k es g less.1 own.1 later
]

found_kept : (es : FileMap) (g : FileInput) → IsStrictlySortedBy path_cmp (keys es) → Own es → Has (values es) g → file_for es (input_path g) ≡ Some g
unfolding IsStrictlySortedBy
found_kept [] g up own there = absurd there
found_kept (e ∷ es) g up own there = elim there [
  | inl here ↦
      let path : e.0 ≡ input_path g = sym own.0 ∙ ap input_path here in
      ap (λ p. cond (is_eq (path_cmp (input_path g) p)) (Some e.1) (file_for es (input_path g))) path
      ∙ ap (λ o. cond (is_eq o) (Some e.1) (file_for es (input_path g))) (tied_itself path_cmp_total (input_path g))
      ∙ ap Some here
  | inr later ↦
      let less = later_keys e.0 es g up.0 own.1 later in
      ap (λ b. cond b (Some e.1) (file_for es (input_path g))) (other e.0 (input_path g) less)
      ∙ found_kept es g up.1 own.1 later
]
  where
    other : (k q : Atoms) → path_cmp k q ≡ Less → is_eq (path_cmp q k) ≡ false
    other k q less = elim (cases_Bool (is_eq (path_cmp q k))) [
      | inr apart ↦ apart
      | inl level ↦
          let same : q ≡ k = equal_paths q k ((Equal-is (path_cmp q k)).0 level) in
          let itself : path_cmp k q ≡ Equal = ap (path_cmp k) same ∙ tied_itself path_cmp_total k in
          absurd (cc)
    ]

no_keys : IsStrictlySortedBy path_cmp []
unfolding IsStrictlySortedBy
no_keys = tt

kept_file : (files : List FileInput) (g : FileInput) → Has (files_by_path files) g → KeptFor (input_path g) None files g
kept_file files g there =
    kept_for files [] (input_path g) g
    (found_kept (fold put_file [] files) g (rising_from files [] no_keys) (own_from files [] tt) there)

from_before : (files : List FileInput) (g : FileInput) → (None ≡ Some g) ⊎ Has files g → Has files g
from_before files g h = elim h [ inl old ↦ absurd (cc) | inr there ↦ there ]

pub are_counted : (files : List FileInput) → AreCounted files (files_by_path files)
are_counted files = record {
  rising = files_rise files;
  given = λ g there.
      contains_has files g (from_before files g (kept_file files g (has_contained (files_by_path files) g there)).given);
  each = λ g there. path_kept files g there;
  least = λ g other there among path.
      (kept_file files g (has_contained (files_by_path files) g there)).least other (has_contained files other among) path;
}
