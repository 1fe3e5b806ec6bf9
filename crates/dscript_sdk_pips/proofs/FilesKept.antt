-- Files that are kept by their paths rise by path, each under its own.
use Rattle.std.proofs.Common.{◌≡◌, ℕ, Bool, true, false, cond, nat_le, List, [], ◌∷◌, map, Option, Some, None, refl, ap, sym, ◌∙◌, subst, inl, inr}
use Rattle.std.specs.Prelude.{fold}
use Rattle.std.specs.BTreeMap.{insert_entry}
use Rattle.std.specs.BTreeSet.{insert_key}
use Rattle.std.specs.List.{AllByRecursion}
use Rattle.std.specs.List.Sorted.{IsStrictlySortedBy}
use Rattle.std.specs.Cmp.{Equal-is}
use Rattle.std.specs.Ordering.{is_eq, match_ordering}
use Rattle.std.specs.declared.cmp.Ordering.{Ordering}
use Rattle.std.specs.declared.cmp.Ordering.TheVariants.{Less, Equal, Greater}
use Rattle.std.proofs.lemmas.Bool.{cases_Bool}
use Rattle.bx_tree.specs.Orders.{equal_paths, path_cmp_total}
use Rattle.bx_tree.specs.Paths.{Atoms, path_cmp}
use Rattle.bx_tree.specs.declared.file_input.FileInput.{FileInput}
use Rattle.bx_tree.specs.declared.file_input.FileInput.TheVariants.{Source, Made}
use Rattle.pip_model_types.specs.Inputs.{RiseByPath}
use Rattle.dscript_sdk_pips.specs.FileSets.{FileMap, counted, counting, file_for, files_by_path, put_file}
use Rattle.bx_tree.specs.FileInputs.{input_path}
use Rattle.bx_tree.proofs.Sets.{insert_sorted}

abbrev pub keys : FileMap → List Atoms
keys es = map (λ (e : Atoms × FileInput). e.0) es

abbrev pub values : FileMap → List FileInput
values es = map (λ (e : Atoms × FileInput). e.1) es

-- each file is under its own path
abbrev pub Own : FileMap → Type 0
Own es = AllByRecursion (λ (e : Atoms × FileInput). input_path e.1 ≡ e.0) es

-- ## The keys rise

keys_placed : (o : Ordering) (k : Atoms) (v : FileInput) (e : Atoms × FileInput) (es rest : FileMap) (ks : List Atoms) → keys rest ≡ ks
    → keys (match_ordering o ((k, v) ∷ e ∷ es) ((e.0, v) ∷ es) (e ∷ rest)) ≡ match_ordering o (k ∷ e.0 ∷ keys es) (e.0 ∷ keys es) (e.0 ∷ ks)
keys_placed Less k v e es rest ks h = refl
keys_placed Equal k v e es rest ks h = refl
keys_placed Greater k v e es rest ks h = ap (λ l. e.0 ∷ l) h

pub keys_put : (es : FileMap) (k : Atoms) (v : FileInput) → keys (insert_entry path_cmp es k v) ≡ insert_key path_cmp (keys es) k
keys_put [] k v = refl
keys_put (e ∷ es) k v = keys_placed (path_cmp k e.0) k v e es (insert_entry path_cmp es k v) (insert_key path_cmp (keys es) k) (keys_put es k v)

pub rising_from : (files : List FileInput) (es : FileMap) → IsStrictlySortedBy path_cmp (keys es)
    → IsStrictlySortedBy path_cmp (keys (fold put_file es files))
rising_from [] es h = h
rising_from (f ∷ fs) es h =
    rising_from fs (put_file es f)
    (subst (IsStrictlySortedBy path_cmp) (sym (keys_put es (input_path f) (counted f (file_for es (input_path f)))))
    (insert_sorted path_cmp_total (keys es) (input_path f) h))

-- ## Each file is under its own path

found_own : (es : FileMap) (q : Atoms) (f : FileInput) → Own es → file_for es q ≡ Some f → input_path f ≡ q
found_own [] q f h e = cc
found_own (x ∷ es) q f h e = elim (cases_Bool (is_eq (path_cmp q x.0))) [
  | inl here ↦
      let found : Some x.1 ≡ Some f = sym (ap (λ b. cond b (Some x.1) (file_for es q)) here) ∙ e in
      let same : x.1 ≡ f = cc in
      let key : q ≡ x.0 = equal_paths q x.0 ((Equal-is (path_cmp q x.0)).0 here) in
      ap input_path (sym same) ∙ h.0 ∙ sym key
  | inr other ↦ found_own es q f h.1 (sym (ap (λ b. cond b (Some x.1) (file_for es q)) other) ∙ e)
]

lesser_own : (path other : Atoms) (m n : ℕ) (b : Bool) → other ≡ path → input_path (cond b (Made path m) (Made other n)) ≡ path
lesser_own path other m n true e = refl
lesser_own path other m n false e = e

counting_own : (f g : FileInput) → input_path g ≡ input_path f → input_path (counting f g) ≡ input_path f
counting_own (Source path) g e = refl
counting_own (Made path m) (Source other) e = e
counting_own (Made path m) (Made other n) e = lesser_own path other m n (nat_le m n) e

counted_own : (f : FileInput) (o : Option FileInput) → ((g : FileInput) → o ≡ Some g → input_path g ≡ input_path f)
    → input_path (counted f o) ≡ input_path f
counted_own f None h = refl
counted_own f (Some g) h = counting_own f g (h g refl)

own_placed : (o : Ordering) (k : Atoms) (v : FileInput) (e : Atoms × FileInput) (es rest : FileMap) → (o ≡ Equal → k ≡ e.0) → input_path v ≡ k
    → Own (e ∷ es) → Own rest → Own (match_ordering o ((k, v) ∷ e ∷ es) ((e.0, v) ∷ es) (e ∷ rest))
own_placed Less k v e es rest same is h more = (is, h)
own_placed Equal k v e es rest same is h more = (is ∙ same refl, h.1)
own_placed Greater k v e es rest same is h more = (h.0, more)

own_put : (es : FileMap) (k : Atoms) (v : FileInput) → input_path v ≡ k → Own es → Own (insert_entry path_cmp es k v)
own_put [] k v is h = (is, tt)
own_put (e ∷ es) k v is h =
    own_placed (path_cmp k e.0) k v e es (insert_entry path_cmp es k v) (equal_paths k e.0) is h (own_put es k v is h.1)

pub own_from : (files : List FileInput) (es : FileMap) → Own es → Own (fold put_file es files)
own_from [] es h = h
own_from (f ∷ fs) es h =
    own_from fs (put_file es f)
    (own_put es (input_path f) (counted f (file_for es (input_path f)))
    (counted_own f (file_for es (input_path f)) (λ g e. found_own es (input_path f) g h e)) h)

pub own_paths : (es : FileMap) → Own es → map input_path (values es) ≡ keys es
own_paths [] h = refl
own_paths (e ∷ es) h = ap (λ p. p ∷ map input_path (values es)) h.0 ∙ ap (λ ps. e.0 ∷ ps) (own_paths es h.1)

no_keys : IsStrictlySortedBy path_cmp []
unfolding IsStrictlySortedBy
no_keys = tt

pub files_rise : (files : List FileInput) → RiseByPath (files_by_path files)
files_rise files =
    subst (IsStrictlySortedBy path_cmp) (sym (own_paths (fold put_file [] files) (own_from files [] tt)))
    (rising_from files [] no_keys)
