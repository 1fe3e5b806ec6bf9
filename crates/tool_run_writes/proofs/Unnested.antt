-- Files of which none lies below another, and one more that clashes with none of them.
use Rattle.std.proofs.Common.{◌≡◌, ◌≢◌, ◌⊎◌, ℕ, Bool, true, false, true≢false, ◌||◌, List, [], ◌∷◌, ◌++◌, refl, ap, sym, ◌∙◌, subst, inl, inr}
use Rattle.std.specs.Prelude.{is_some}
use Rattle.std.specs.BTreeMap.{insert_entry, is_at}
use Rattle.std.specs.BTreeSet.{insert_key}
use Rattle.std.specs.List.{list_any}
use Rattle.std.specs.List.Sorted.{IsStrictlySortedBy}
use Rattle.std.specs.Map.{lookup}
use Rattle.std.specs.Ordering.{match_ordering}
use Rattle.std.specs.declared.cmp.Ordering.{Ordering}
use Rattle.std.specs.declared.cmp.Ordering.TheVariants.{Less, Equal, Greater}
use Rattle.std.proofs.lemmas.Bool.{or_parts, or_from}
use Rattle.bx_tree.specs.Paths.{Atoms, IsBelow, path_cmp, same_path}
use Rattle.bx_tree.specs.Trees.{Files, NoneNested, paths_of}
use Rattle.bx_tree.specs.Orders.{path_cmp_total, same_path_decides}
use Rattle.bx_tree.specs.Members.{Has}
use Rattle.bx_tree.proofs.Sets.{contains_has, has_contained, has_insert, insert_sorted}
use Rattle.pip_model_types.specs.Made.{RisingFiles}
use Rattle.bx_tree.specs.Below.{is_below}
use Rattle.tool_run_writes.specs.Writes.{clashes, has_below}
use Rattle.bx_tree.proofs.BelowPaths.{below_decides}
use Rattle.tool_run_writes.proofs.DirectorySets.{either_swapped, either_twice, found_any}

-- ## Tests

not_below : (path dir : Atoms) → is_below path dir ≡ false → IsBelow path dir → ⊥
not_below path dir e h = true≢false (sym ((below_decides path dir).1 h) ∙ e)

is_not_below : (path dir : Atoms) → (IsBelow path dir → ⊥) → is_below path dir ≡ false
is_not_below path dir none = by_test (is_below path dir) refl
  where
    by_test : (t : Bool) → is_below path dir ≡ t → t ≡ false
    by_test true e = absurd (none ((below_decides path dir).0 e))
    by_test false e = refl

longer : (path rest : Atoms) → rest ≢ [] → path ≡ path ++ rest → ⊥
longer [] rest some e = some (sym e)
longer (a ∷ as') rest some e = let f : as' ≡ as' ++ rest = cc in longer as' rest some f

pub not_itself : (path : Atoms) → IsBelow path path → ⊥
not_itself path h = longer path h.0 h.1 h.2

-- ## A file more

put_paths : (files : Files) (path : Atoms) (bytes : List ℕ) → paths_of (insert_entry path_cmp files path bytes) ≡ insert_key path_cmp (paths_of files) path
put_paths [] path bytes = refl
put_paths (f ∷ fs) path bytes = by_order (path_cmp path f.0) (insert_entry path_cmp fs path bytes) (put_paths fs path bytes)
  where
    by_order : (o : Ordering) (rest : Files) → paths_of rest ≡ insert_key path_cmp (paths_of fs) path
        → paths_of (match_ordering o ((path, bytes) ∷ f ∷ fs) ((f.0, bytes) ∷ fs) (f ∷ rest))
        ≡ match_ordering o (path ∷ f.0 ∷ paths_of fs) (f.0 ∷ paths_of fs) (f.0 ∷ insert_key path_cmp (paths_of fs) path)
    by_order Less rest e = refl
    by_order Equal rest e = refl
    by_order Greater rest e = ap (λ ps. f.0 ∷ ps) e

-- files that rise, with one more, rise
pub put_rising : (files : Files) (path : Atoms) (bytes : List ℕ) → RisingFiles files → RisingFiles (insert_entry path_cmp files path bytes)
put_rising files path bytes h =
    subst (IsStrictlySortedBy path_cmp) (sym (put_paths files path bytes)) (insert_sorted path_cmp_total (paths_of files) path h)

-- a path of the files with one more is that of the one, or one of theirs
pub put_has : (files : Files) (path : Atoms) (bytes : List ℕ) (q : Atoms) → Has (paths_of (insert_entry path_cmp files path bytes)) q
    → (path ≡ q) ⊎ Has (paths_of files) q
put_has files path bytes q h = has_insert path_cmp (paths_of files) path q (subst (λ (ps : List Atoms). Has ps q) (put_paths files path bytes) h)

-- a path that clashes with no file lies below none of them, and none below it
no_clash : (files : Files) (path q : Atoms) → clashes files path ≡ false → Has (paths_of files) q → (is_below q path ≡ false) × (is_below path q ≡ false)
no_clash [] path q e h = absurd h
no_clash (f ∷ fs) path q e h =
    let parts = or_parts (is_below f.0 path || is_below path f.0) (clashes fs path) e in
    let here = or_parts (is_below f.0 path) (is_below path f.0) parts.0 in
    elim h [
      | inl same ↦ subst (λ (p : Atoms). (is_below p path ≡ false) × (is_below path p ≡ false)) same here
      | inr k ↦ no_clash fs path q parts.1 k
    ]

put_pair : (files : Files) (path dir q : Atoms) → NoneNested (paths_of files) → clashes files path ≡ false → (path ≡ dir) ⊎ Has (paths_of files) dir
    → (path ≡ q) ⊎ Has (paths_of files) q → IsBelow q dir → ⊥
put_pair files path dir q none e (inl d) (inl s) below =
    not_itself path (subst (λ (p : Atoms). IsBelow path p) (sym d) (subst (λ (p : Atoms). IsBelow p dir) (sym s) below))
put_pair files path dir q none e (inl d) (inr k) below =
    not_below q path (no_clash files path q e k).0 (subst (λ (p : Atoms). IsBelow q p) (sym d) below)
put_pair files path dir q none e (inr h) (inl s) below =
    not_below path dir (no_clash files path dir e h).1 (subst (λ (p : Atoms). IsBelow p dir) (sym s) below)
put_pair files path dir q none e (inr h) (inr k) below = none dir q (contains_has (paths_of files) dir h) (contains_has (paths_of files) q k) below

-- files of which none lies below another, with one more that clashes with none
pub put_unnested : (files : Files) (path : Atoms) (bytes : List ℕ) → NoneNested (paths_of files) → clashes files path ≡ false
    → NoneNested (paths_of (insert_entry path_cmp files path bytes))
put_unnested files path bytes none e = λ dir q h k below.
    let now = paths_of (insert_entry path_cmp files path bytes) in
    put_pair files path dir q none e (put_has files path bytes dir (has_contained now dir h)) (put_has files path bytes q (has_contained now q k)) below

pub none_unnested : NoneNested []
none_unnested = λ dir q h k below. has_contained [] dir h

-- ## A path at which a file is

has_path : (files : Files) (path : Atoms) → list_any (λ f. same_path path f.0) files ≡ true → Has (paths_of files) path
has_path [] path e = cc
has_path (f ∷ fs) path e = by_first (same_path path f.0) refl e (λ k. has_path fs path k)
  where
    by_first : (t : Bool) → same_path path f.0 ≡ t → (t || list_any (λ g. same_path path g.0) fs) ≡ true
        → (list_any (λ g. same_path path g.0) fs ≡ true → Has (paths_of fs) path) → Has (paths_of (f ∷ fs)) path
    by_first true same e more = inl (sym ((same_path_decides path f.0).0 same))
    by_first false other e more = inr (more e)

is_known : (files : Files) (path : Atoms) → is_some (lookup (is_at (path_cmp path)) files) ≡ true → Has (paths_of files) path
is_known files path e = has_path files path (sym (found_any files path) ∙ e)

unclashed : (files : Files) (path : Atoms) → ((q : Atoms) → Has (paths_of files) q → (IsBelow q path → ⊥) × (IsBelow path q → ⊥)) → clashes files path ≡ false
unclashed [] path h = refl
unclashed (f ∷ fs) path h =
    let here = h f.0 (inl refl) in
    or_from (is_below f.0 path || is_below path f.0) (clashes fs path)
    (or_from (is_below f.0 path) (is_below path f.0) (is_not_below f.0 path here.0) (is_not_below path f.0 here.1))
    (unclashed fs path (λ q k. h q (inr k)))

-- the path of a file clashes with none
pub known_unclashed : (files : Files) (path : Atoms) → NoneNested (paths_of files) → is_some (lookup (is_at (path_cmp path)) files) ≡ true
    → clashes files path ≡ false
known_unclashed files path none e =
    let there = contains_has (paths_of files) path (is_known files path e) in
    unclashed files path (λ q k. (none path q there (contains_has (paths_of files) q k), none q path (contains_has (paths_of files) q k) there))

member_below : (files : Files) (path q : Atoms) → Has (paths_of files) path → has_below files q ≡ (is_below path q || has_below files q)
member_below [] path q h = absurd h
member_below (f ∷ fs) path q h = elim h [
  | inl e ↦ either_twice (is_below f.0 q) (has_below fs q) ∙ ap (λ (p : Atoms). is_below p q || (is_below f.0 q || has_below fs q)) e
  | inr k ↦ ap (λ t. is_below f.0 q || t) (member_below fs path q k) ∙ either_swapped (is_below f.0 q) (is_below path q) (has_below fs q)
]

-- the directories above a file's path are among those of the files
pub known_below : (files : Files) (path q : Atoms) → is_some (lookup (is_at (path_cmp path)) files) ≡ true
    → has_below files q ≡ (is_below path q || has_below files q)
known_below files path q e = member_below files path q (is_known files path e)
