-- What is asked of the members of directories is answered by the directories around the path.
use Rattle.std.proofs.Common.{◌≡◌, ℕ, ◌≤◌, Bool, true, false, ◌||◌, cond, length, nat_le, List, [], ◌∷◌, ◌++◌, ◌⊎◌, filter, Option, Some, None, refl, ap, sym, subst, ◌∙◌, inl, inr, arith}
use Rattle.std.specs.Borrow.{Bor}
use Rattle.std.specs.Prelude.{Any, Contains, IfSome, slice_get}
use Rattle.std.specs.List.{AllByRecursion, cons_option, list_any}
use Rattle.std.specs.Option.{unwrap_or}
use Rattle.std.proofs.lemmas.Bool.{cases_Bool, false≢true, le-leb, leb-false, leb-true, or_cases}
use Rattle.std.proofs.lemmas.List.Folds.{Any-from_list_any, list_any-from_Any}
use Rattle.std.proofs.lemmas.List.Kept.{IsStrictlySortedBy-filter}
use Rattle.std.specs.Cmp.{both_ways}
use Rattle.bx_tree.specs.Orders.{same_path_decides}
use Rattle.bx_tree.specs.Paths.{Atoms, IsBelow, same_path}
use Rattle.bx_tree.specs.Trees.{Files, file_at}
use Rattle.bx_tree.specs.Below.{is_below, is_directly_in, next_atom}
use Rattle.tool_run_writes.specs.Writes.{has_below, own_names}
use Rattle.bx_tree.proofs.BelowPaths.{below_decides}
use Rattle.bx_tree.proofs.AtomsBelow.{none_next}
use Rattle.pip_view_inputs.specs.Results.{ByPip, files_by}
use Rattle.violations.specs.Producing.{dirs_at}
use Rattle.pip_model_types.specs.Dirs.{RiseByForm, dir_cmp, dir_path, dir_pip}
use Rattle.pip_model_types.specs.declared.dir_inputs.DirInput.{DirInput}
use Rattle.pip_model_types.specs.declared.dir_inputs.DirInput.TheVariants.{Sealed, Opaque}
use Rattle.pip_model_types.specs.declared.dir_inputs.SealForm.TheVariants.{Full, Partial, SourceTop, SourceAll}
use Rattle.pip_view_directories.specs.Around.{AreAround, IsAround}
use Rattle.pip_view_directories.specs.Ranges.{AreOthers, is_other}
use Rattle.pip_view_directories.proofs.Rising.{at_head, filter_from, filter_keeps, head_or_rest, in_decides, in_rest, is_in, some_by_test}
use Rattle.pip_view.specs.Gathered.{dirs_now, members_of, opaque_members, opaque_of}
use Rattle.pip_view.specs.InputFiles.{by_pip, insert_by_pip, is_opaque, is_source_of}
use Rattle.pip_view.specs.Seen.{KeepsView, SearchedAt, ViewData, is_sealed_at, lies_near, opaque_in}
use Rattle.pip_view.proofs.ByPip.{insert_all}
use Rattle.pip_view.proofs.NearFiles.{left_out, none_kept}
use Rattle.pip_view.proofs.OneAtom.{not_directly}
use Rattle.pip_view.proofs.OpaqueMembers.{alike, kept_members, near, of_pip}

-- ## Members at a path or below it

at_kept : (path : Atoms) (files : Files) → file_at (filter (lies_near path) files) path ≡ file_at files path
at_kept path [] = refl
at_kept path (f ∷ fs) = by_tests (filter (lies_near path) fs) (same_path f.0 path) (is_below f.0 path) refl (at_kept path fs)
  where
    by_tests : (kept : Files) (t u : Bool) → same_path f.0 path ≡ t → file_at kept path ≡ file_at fs path
        → file_at (cond (t || u) (f ∷ kept) kept) path ≡ cond t (Some f.1) (file_at fs path)
    by_tests kept true u e more = ap (λ s. cond s (Some f.1) (file_at kept path)) e
    by_tests kept false true e more = ap (λ s. cond s (Some f.1) (file_at kept path)) e ∙ more
    by_tests kept false false e more = more

under_kept : (path : Atoms) (files : Files) → has_below (filter (lies_near path) files) path ≡ has_below files path
under_kept path [] = refl
under_kept path (f ∷ fs) = by_tests (filter (lies_near path) fs) (same_path f.0 path) (is_below f.0 path) refl (under_kept path fs)
  where
    by_tests : (kept : Files) (t u : Bool) → is_below f.0 path ≡ u → has_below kept path ≡ has_below fs path
        → has_below (cond (t || u) (f ∷ kept) kept) path ≡ (u || has_below fs path)
    by_tests kept true u e more = ap (λ s. s || has_below kept path) e ∙ ap (λ s. u || s) more
    by_tests kept false true e more = ap (λ s. s || has_below kept path) e
    by_tests kept false false e more = more

own_kept : (path : Atoms) (files : Files) → own_names (filter (lies_near path) files) path ≡ own_names files path
own_kept path [] = refl
own_kept path (f ∷ fs) = by_tests (filter (lies_near path) fs) (same_path f.0 path) (is_below f.0 path) refl (own_kept path fs)
  where
    by_tests : (kept : Files) (t u : Bool) → is_below f.0 path ≡ u → own_names kept path ≡ own_names fs path
        → own_names (cond (t || u) (f ∷ kept) kept) path ≡ cons_option (next_atom path f.0) (own_names fs path)
    by_tests kept true u e more = ap (cons_option (next_atom path f.0)) more
    by_tests kept false true e more = ap (cons_option (next_atom path f.0)) more
    by_tests kept false false e more = more ∙ sym (ap (λ o. cons_option o (own_names fs path)) (none_next path f.0 e))

-- ## Directories in the order of their pips, some of them left out

abbrev RisesFrom : DirInput → List DirInput → Type 0
RisesFrom dir dirs = AllByRecursion (λ other. nat_le (dir_pip dir) (dir_pip other) ≡ true) dirs

abbrev RiseByPip : List DirInput → Type 0
RiseByPip [] = Unit {0}
RiseByPip (dir ∷ dirs) = RisesFrom dir dirs × RiseByPip dirs

through : (a b c : ℕ) → nat_le a b ≡ true → nat_le b c ≡ true → nat_le a c ≡ true
through a b c h k = let l = leb-true a b h in let m = leb-true b c k in le-leb a c (omega (arith, l, m))

over : (a b : ℕ) → nat_le a b ≡ false → nat_le b a ≡ true
over a b h = let l = leb-false a b h in le-leb b a (omega (arith, l))

rises_through : (dir other : DirInput) (dirs : List DirInput) → nat_le (dir_pip dir) (dir_pip other) ≡ true → RisesFrom other dirs → RisesFrom dir dirs
rises_through dir other [] e h = tt
rises_through dir other (d ∷ ds) e h = (through (dir_pip dir) (dir_pip other) (dir_pip d) e h.0, rises_through dir other ds e h.1)

insert_rises : (dir : DirInput) (dirs : List DirInput) → RiseByPip dirs → RiseByPip (insert_by_pip dir dirs)
insert_rises dir [] up = (tt, tt)
insert_rises dir (d ∷ ds) up = by_test (nat_le (dir_pip dir) (dir_pip d)) refl (insert_rises dir ds up.1)
  where
    by_test : (t : Bool) → nat_le (dir_pip dir) (dir_pip d) ≡ t → RiseByPip (insert_by_pip dir ds)
        → RiseByPip (cond t (dir ∷ d ∷ ds) (d ∷ insert_by_pip dir ds))
    by_test true e more = ((e, rises_through dir d ds e up.0), up)
    by_test false e more =
        (insert_all (λ other. nat_le (dir_pip d) (dir_pip other) ≡ true) dir ds (over (dir_pip dir) (dir_pip d) e) up.0, more)

by_pip_rises : (dirs : List DirInput) → RiseByPip (by_pip dirs)
by_pip_rises [] = tt
by_pip_rises (d ∷ ds) = insert_rises d (by_pip ds) (by_pip_rises ds)

insert_first : (dir : DirInput) (dirs : List DirInput) → RisesFrom dir dirs → insert_by_pip dir dirs ≡ dir ∷ dirs
insert_first dir [] h = refl
insert_first dir (d ∷ ds) h = ap (λ t. cond t (dir ∷ d ∷ ds) (d ∷ insert_by_pip dir ds)) h.0

filter_rises : (g : DirInput → Bool) (dir : DirInput) (dirs : List DirInput) → RisesFrom dir dirs → RisesFrom dir (filter g dirs)
filter_rises g dir [] h = tt
filter_rises g dir (d ∷ ds) h = by_test (g d) (filter_rises g dir ds h.1)
  where
    by_test : (t : Bool) → RisesFrom dir (filter g ds) → RisesFrom dir (cond t (d ∷ filter g ds) (filter g ds))
    by_test true more = (h.0, more)
    by_test false more = more

insert_left_out : (g : DirInput → Bool) (dir : DirInput) (dirs : List DirInput) → g dir ≡ false
    → filter g (insert_by_pip dir dirs) ≡ filter g dirs
insert_left_out g dir [] e = ap (λ t. cond t (dir ∷ []) []) e
insert_left_out g dir (d ∷ ds) e = by_test (nat_le (dir_pip dir) (dir_pip d)) (insert_left_out g dir ds e)
  where
    by_test : (t : Bool) → filter g (insert_by_pip dir ds) ≡ filter g ds
        → filter g (cond t (dir ∷ d ∷ ds) (d ∷ insert_by_pip dir ds)) ≡ filter g (d ∷ ds)
    by_test true more = ap (λ t. cond t (dir ∷ filter g (d ∷ ds)) (filter g (d ∷ ds))) e
    by_test false more = ap (λ fs. cond (g d) (d ∷ fs) fs) more

insert_kept : (g : DirInput → Bool) (dir : DirInput) (dirs : List DirInput) → g dir ≡ true → RiseByPip dirs
    → filter g (insert_by_pip dir dirs) ≡ insert_by_pip dir (filter g dirs)
insert_kept g dir [] e up = ap (λ t. cond t (dir ∷ []) []) e
insert_kept g dir (d ∷ ds) e up = by_test (nat_le (dir_pip dir) (dir_pip d)) refl (insert_kept g dir ds e up.1)
  where
    put : (s t : Bool) → nat_le (dir_pip dir) (dir_pip d) ≡ t → t ≡ false
        → cond s (d ∷ insert_by_pip dir (filter g ds)) (insert_by_pip dir (filter g ds)) ≡ insert_by_pip dir (cond s (d ∷ filter g ds) (filter g ds))
    put true t k n = sym (ap (λ b. cond b (dir ∷ d ∷ filter g ds) (d ∷ insert_by_pip dir (filter g ds))) (k ∙ n))
    put false t k n = refl

    by_test : (t : Bool) → nat_le (dir_pip dir) (dir_pip d) ≡ t → filter g (insert_by_pip dir ds) ≡ insert_by_pip dir (filter g ds)
        → filter g (cond t (dir ∷ d ∷ ds) (d ∷ insert_by_pip dir ds)) ≡ insert_by_pip dir (filter g (d ∷ ds))
    by_test true k more =
        ap (λ t. cond t (dir ∷ filter g (d ∷ ds)) (filter g (d ∷ ds))) e
        ∙ sym (insert_first dir (filter g (d ∷ ds)) (filter_rises g dir (d ∷ ds) (k, rises_through dir d ds k up.0)))
    by_test false k more = ap (λ fs. cond (g d) (d ∷ fs) fs) more ∙ put (g d) false k refl

-- which directories are left out does not change the order of the others
by_pip_filter : (g : DirInput → Bool) (dirs : List DirInput) → by_pip (filter g dirs) ≡ filter g (by_pip dirs)
by_pip_filter g [] = refl
by_pip_filter g (d ∷ ds) = by_test (g d) refl (by_pip_filter g ds)
  where
    by_test : (t : Bool) → g d ≡ t → by_pip (filter g ds) ≡ filter g (by_pip ds)
        → by_pip (cond t (d ∷ filter g ds) (filter g ds)) ≡ filter g (insert_by_pip d (by_pip ds))
    by_test true e more = ap (insert_by_pip d) more ∙ sym (insert_kept g d (by_pip ds) e (by_pip_rises ds))
    by_test false e more = more ∙ sym (insert_left_out g d (by_pip ds) e)

insert_from : (dir x : DirInput) (dirs : List DirInput) → Contains (insert_by_pip dir dirs) x → Contains (dir ∷ dirs) x
insert_from dir x [] c = c
insert_from dir x (d ∷ ds) c = by_test (nat_le (dir_pip dir) (dir_pip d)) c (insert_from dir x ds)
  where
    by_test : (t : Bool) → Contains (cond t (dir ∷ d ∷ ds) (d ∷ insert_by_pip dir ds)) x
        → (Contains (insert_by_pip dir ds) x → Contains (dir ∷ ds) x) → Contains (dir ∷ d ∷ ds) x
    by_test true k more = k
    by_test false k more = elim (head_or_rest d x (insert_by_pip dir ds) k) [
      | inl is ↦ in_rest dir x (d ∷ ds) (subst (Contains (d ∷ ds)) is (at_head d ds))
      | inr there ↦ elim (head_or_rest dir x ds (more there)) [
        | inl is ↦ subst (Contains (dir ∷ d ∷ ds)) is (at_head dir (d ∷ ds))
        | inr later ↦ in_rest dir x (d ∷ ds) (in_rest d x ds later)
      ]
    ]

from_by_pip : (dirs : List DirInput) (x : DirInput) → Contains (by_pip dirs) x → Contains dirs x
from_by_pip [] x c = c
from_by_pip (d ∷ ds) x c = elim (head_or_rest d x (by_pip ds) (insert_from d x (by_pip ds) c)) [
  | inl is ↦ subst (Contains (d ∷ ds)) is (at_head d ds)
  | inr there ↦ in_rest d x ds (from_by_pip ds x there)
]

-- ## Which directories matter at a path

around_from : (path : Atoms) (dir : DirInput) → (path ≡ dir_path dir) ⊎ (is_below path (dir_path dir) ≡ true) → IsAround path dir
around_from path dir h = elim h [
  | inl same ↦ inl (sym same)
  | inr below ↦ inr (inl ((below_decides path (dir_path dir)).0 below))
]

around_under : (path : Atoms) (dir : DirInput) → (dir_path dir ≡ path) ⊎ (is_below (dir_path dir) path ≡ true) → IsAround path dir
around_under path dir h = elim h [
  | inl same ↦ inl same
  | inr below ↦ inr (inr ((below_decides (dir_path dir) path).0 below))
]

member_around : (path : Atoms) (j : ℕ) (root f : Atoms) → is_below f root ≡ true → (same_path f path || is_below f path) ≡ true
    → IsAround path (Opaque j root)
member_around path j root f inside is = elim (or_cases (same_path f path) (is_below f path) is) [
  | inl same ↦ inr (inl (subst (λ p. IsBelow p root) ((same_path_decides f path).0 same) ((below_decides f root).0 inside)))
  | inr below ↦
      let a = (below_decides f root).0 inside in
      let b = (below_decides f path).0 below in
      elim (alike root path a.0 b.0 (sym a.2 ∙ b.2)) [
        | inl h ↦ around_from path (Opaque j root) (near path root h.0 h.1)
        | inr h ↦ around_under path (Opaque j root) (near root path h.0 h.1)
      ]
]

nothing_near : (made : ByPip) (path : Atoms) (dir : DirInput) → (IsAround path dir → ⊥) → filter (lies_near path) (opaque_members made dir) ≡ []
nothing_near made path (Sealed j form root) far = refl
nothing_near made path (Opaque j root) far =
    none_kept (lies_near path) (opaque_members made (Opaque j root))
    (λ f c is. far (member_around path j root f.0 (filter_from (λ (g : Atoms × List ℕ). is_below g.0 root) (files_by made j) f c).0 is))

opaque_other : (dir : DirInput) → is_opaque dir ≡ true → is_other dir ≡ true
opaque_other (Sealed j form root) e = absurd (false≢true e)
opaque_other (Opaque j root) e = refl

around_members : (made : ByPip) (path : Atoms) (dirs others found : List DirInput) → RiseByForm dirs → AreOthers dirs others
    → AreAround others path found
    → filter (lies_near path) (members_of made (by_pip (filter is_opaque found)))
    ≡ filter (lies_near path) (members_of made (by_pip (filter is_opaque dirs)))
around_members made path dirs others found up are around =
    let some = filter is_opaque found in
    let all = filter is_opaque dirs in
    let into : (d : DirInput) → Contains some d → Contains all d = λ d c.
    let h = filter_from is_opaque found d c in
    filter_keeps is_opaque dirs d h.0 ((are.all d).0 (around.some d h.1)).0 in
    let test = some_by_test all some (IsStrictlySortedBy-filter dir_cmp is_opaque dirs up)
    (IsStrictlySortedBy-filter dir_cmp is_opaque found around.rising) into in
    ap (λ ds. filter (lies_near path) (members_of made ds)) (ap by_pip test ∙ by_pip_filter (is_in some) all)
    ∙ left_out (opaque_members made) (lies_near path) (is_in some) (by_pip all) (λ d c e. nothing_near made path d (λ is.
    let h = filter_from is_opaque dirs d (from_by_pip all d c) in
    let other = (are.all d).1 (h.1, opaque_other d h.0) in
    false≢true (sym e ∙ (in_decides some d).1 (filter_keeps is_opaque found d h.0 (around.all d other is)))))

-- ## Seals of source files

source_other : (path : Atoms) (dir : DirInput) → is_source_of path dir ≡ true → is_other dir ≡ true
source_other path (Sealed j Full root) e = absurd (false≢true e)
source_other path (Sealed j Partial root) e = absurd (false≢true e)
source_other path (Sealed j SourceTop root) e = refl
source_other path (Sealed j SourceAll root) e = refl
source_other path (Opaque j root) e = absurd (false≢true e)

directly_below : (path root : Atoms) → is_directly_in path root ≡ true → is_below path root ≡ true
directly_below path root e = elim (cases_Bool (is_below path root)) [
  | inl below ↦ below
  | inr outside ↦ absurd (false≢true (not_directly root path outside ∙ e))
]

source_around : (path : Atoms) (dir : DirInput) → is_source_of path dir ≡ true → IsAround path dir
source_around path (Sealed j Full root) e = absurd (false≢true e)
source_around path (Sealed j Partial root) e = absurd (false≢true e)
source_around path (Sealed j SourceTop root) e = inr (inl ((below_decides path root).0 (directly_below path root e)))
source_around path (Sealed j SourceAll root) e = inr (inl ((below_decides path root).0 e))
source_around path (Opaque j root) e = absurd (false≢true e)

any_into : (p : DirInput → Bool) (xs ys : List DirInput) → ((x : DirInput) → Contains xs x → p x ≡ true → Contains ys x)
    → list_any p xs ≡ true → list_any p ys ≡ true
any_into p xs ys into e =
    let (k, x, l, is, passes) = Any-from_list_any p xs e in
    let (i, m, at) = into x (k, l, is) passes in
    list_any-from_Any p ys (i, x, m, at, passes)

around_sources : (path : Atoms) (dirs others found : List DirInput) → AreOthers dirs others → AreAround others path found
    → list_any (is_source_of path) found ≡ list_any (is_source_of path) dirs
around_sources path dirs others found are around =
    both_ways (list_any (is_source_of path) found) (list_any (is_source_of path) dirs)
    (any_into (is_source_of path) found dirs (λ d c e. ((are.all d).0 (around.some d c)).0))
    (any_into (is_source_of path) dirs found
    (λ d c e. around.all d ((are.all d).1 (c, source_other path d e)) (source_around path d e)))

-- ## What a view searches

pub searched_if : (v : ViewData) (path : Atoms) (kept others : List DirInput) (found : Option (List DirInput)) → KeepsView v kept others
    → IfSome found (AreAround others path) → IfSome found (SearchedAt v path)
searched_if v path kept others None keeps h = tt
searched_if v path kept others (Some found) keeps h =
    let dirs = dirs_at (slice_get v.pips v.pip) in record {
      members = around_members v.inputs path dirs others found keeps.rising keeps.unlisted h
          ∙ ap (λ (fs : Files). filter (lies_near path) fs) (of_pip v (slice_get v.pips v.pip));
      sealed = around_sources path dirs others found keeps.unlisted h;
    }

by_kept : {X : Type 0} (ask : Files → X) (path : Atoms) → ((fs : Files) → ask (filter (lies_near path) fs) ≡ ask fs)
    → (v : ViewData) (kept others ds : List DirInput) (found : Option (List DirInput)) → KeepsView v kept others → ds ≡ opaque_of found kept
    → IfSome found (SearchedAt v path) → ask (members_of v.inputs ds) ≡ ask (opaque_in v)
by_kept ask path same v kept others ds None keeps e h = ap (λ xs. ask (members_of v.inputs xs)) e ∙ ap ask (kept_members v kept others keeps)
by_kept ask path same v kept others ds (Some found) keeps e h =
    ap (λ xs. ask (members_of v.inputs xs)) e ∙ sym (same (members_of v.inputs (by_pip (filter is_opaque found)))) ∙ ap ask h.members
    ∙ same (opaque_in v)

pub at_searched : (v : ViewData) (path : Atoms) (kept others ds : List DirInput) (found : Option (List DirInput)) → KeepsView v kept others
    → ds ≡ opaque_of found kept → IfSome found (SearchedAt v path) → file_at (members_of v.inputs ds) path ≡ file_at (opaque_in v) path
at_searched v path = by_kept (λ fs. file_at fs path) path (at_kept path) v

pub under_searched : (v : ViewData) (path : Atoms) (kept others ds : List DirInput) (found : Option (List DirInput)) → KeepsView v kept others
    → ds ≡ opaque_of found kept → IfSome found (SearchedAt v path) → has_below (members_of v.inputs ds) path ≡ has_below (opaque_in v) path
under_searched v path = by_kept (λ fs. has_below fs path) path (under_kept path) v

pub own_searched : (v : ViewData) (path : Atoms) (kept others ds : List DirInput) (found : Option (List DirInput)) → KeepsView v kept others
    → ds ≡ opaque_of found kept → IfSome found (SearchedAt v path) → own_names (members_of v.inputs ds) path ≡ own_names (opaque_in v) path
own_searched v path = by_kept (λ fs. own_names fs path) path (own_kept path) v

pub sealed_searched : (v : ViewData) (path : Atoms) (found : Option (List DirInput)) → IfSome found (SearchedAt v path)
    → list_any (is_source_of path) (unwrap_or found (dirs_at (slice_get v.pips v.pip))) ≡ is_sealed_at v path
sealed_searched v path None h = refl
sealed_searched v path (Some found) h = h.sealed

-- no directories
pub no_dirs : (dirs : List (Bor DirInput)) → length dirs ≡ 0 → dirs_now dirs ≡ []
no_dirs [] e = refl
no_dirs (d ∷ ds) e = absurd (omega (arith, e))
