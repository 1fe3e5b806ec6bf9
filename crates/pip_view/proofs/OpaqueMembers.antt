-- The members of opaque directories, as they are found in the lists of the pips that made them.
use Rattle.std.proofs.Common.{◌≡◌, ◌≢◌, ◌⊎◌, ◌<◌, ◌≤◌, ◌+◌, ℕ, suc, Bool, true, false, ◌&&◌, ◌||◌, cond, Bor, Option, Some, None, List, [], ◌∷◌, ◌++◌, length, drop, filter, get_or, refl, ap, sym, ◌∙◌, subst, inl, inr, append_assoc, append-nil, add-one}
use Rattle.std.specs.Prelude.{slice_get}
use Rattle.std.specs.List.{cons_option, list_any}
use Rattle.std.proofs.lemmas.Bool.{false≢true}
use Rattle.std.proofs.lemmas.List.{drop_all}
use Rattle.std.proofs.Math.Seq.{drop-cons}
use Rattle.bx_tree.specs.Orders.{same_path_decides}
use Rattle.bx_tree.specs.Paths.{Atoms, same_path}
use Rattle.bx_tree.specs.Trees.{Files, file_at}
use Rattle.bx_tree.specs.Below.{is_below, next_atom}
use Rattle.tool_run_writes.specs.Writes.{has_below, own_names}
use Rattle.bx_tree.proofs.BelowPaths.{below_decides}
use Rattle.bx_tree.proofs.AtomsBelow.{none_next}
use Rattle.pip_view_inputs.specs.Plain.{kind_process, process_in}
use Rattle.pip_view_inputs.specs.Results.{ByPip}
use Rattle.violations.specs.Producing.{dirs_at}
use Rattle.pip_model_types.specs.declared.dir_inputs.DirInput.{DirInput}
use Rattle.pip_model_types.specs.declared.pip.Pip.{Pip}
use Rattle.pip_model_types.specs.declared.pip.PipKind.{PipKind}
use Rattle.pip_model_types.specs.declared.pip.PipKind.TheVariants.{Process, Copy, Write, Seal}
use Rattle.pip_view.specs.Gathered.{below_of, deeper, dirs_now, members_of, opaque_members}
use Rattle.pip_view.specs.InputFiles.{by_pip, is_opaque}
use Rattle.pip_view.specs.Seen.{KeepsView, ViewData, opaque_by, opaque_in}
use Rattle.pip_view.proofs.SourceMembers.{at_both, below_both, names_both, or_else}
use Rattle.pip_model_types.specs.Kinds.{taken_dirs}

-- ## Two directories

-- of two directories above one path, one is at or above the other
pub alike : (dir other r s : Atoms) → dir ++ r ≡ other ++ s → ((t : Atoms) × (other ≡ dir ++ t)) ⊎ ((t : Atoms) × (dir ≡ other ++ t))
alike [] other r s e = inl (other, refl)
alike (d ∷ ds) [] r s e = inr (d ∷ ds, refl)
alike (d ∷ ds) (o ∷ os) r s e =
    let first : d ≡ o = cc in
    let rest : ds ++ r ≡ os ++ s = cc in
    elim (alike ds os r s rest) [
      | inl h ↦ inl (h.0, ap (λ x. x ∷ os) (sym first) ∙ ap (λ as'. d ∷ as') h.1)
      | inr h ↦ inr (h.0, ap (λ x. x ∷ ds) first ∙ ap (λ as'. o ∷ as') h.1)
    ]

longer : (s r : Atoms) → s ≢ [] → s ++ r ≢ []
longer [] r some = absurd (some refl)
longer (a ∷ as') r some = λ e. cc

-- what lies below a path lies below what that lies below
below_through : (f path dir : Atoms) → is_below f path ≡ true → is_below path dir ≡ true → is_below f dir ≡ true
below_through f path dir e k =
    let a = (below_decides f path).0 e in
    let b = (below_decides path dir).0 k in
    (below_decides f dir).1 (b.0 ++ a.0, longer b.0 a.0 b.1, a.2 ∙ ap (λ p. p ++ a.0) b.2 ∙ append_assoc dir b.0 a.0)

pub near : (path dir t : Atoms) → path ≡ dir ++ t → (path ≡ dir) ⊎ (is_below path dir ≡ true)
near path dir [] e = inl (e ∙ append-nil dir)
near path dir (a ∷ as') e = inr ((below_decides path dir).1 (a ∷ as', (λ (none : a ∷ as' ≡ []). cc), e))

-- nothing lies below two directories that are apart
none_both : (f dir other : Atoms) → is_below f dir ≡ true → is_below f other ≡ true → is_below other dir ≡ false
    → same_path dir other ≡ false → is_below dir other ≡ false → ⊥
none_both f dir other e k after differ before =
    let a = (below_decides f dir).0 e in
    let b = (below_decides f other).0 k in
    elim (alike dir other a.0 b.0 (sym a.2 ∙ b.2)) [
      | inl h ↦ elim (near other dir h.0 h.1) [
        | inl same ↦ false≢true (sym differ ∙ (same_path_decides dir other).1 (sym same))
        | inr below ↦ false≢true (sym after ∙ below)
      ]
      | inr h ↦ elim (near dir other h.0 h.1) [
        | inl same ↦ false≢true (sym differ ∙ (same_path_decides dir other).1 same)
        | inr below ↦ false≢true (sym before ∙ below)
      ]
    ]

abbrev within : Option Atoms → Atoms → Bool
within None f = false
within (Some dir) f = is_below f dir

left_alone : (a b : Bool) → (a ≡ true → b ≡ true) → (a && b) ≡ a
left_alone true b h = h refl
left_alone false b h = refl

right_alone : (a b : Bool) → (b ≡ true → a ≡ true) → (a && b) ≡ b
right_alone true b h = refl
right_alone false true h = absurd (false≢true (h refl))
right_alone false false h = refl

never : (a b : Bool) → (a ≡ true → b ≡ true → ⊥) → (a && b) ≡ false
never true true h = absurd (h refl refl)
never true false h = refl
never false b h = refl

-- what lies below both of two directories lies below the deeper one
both_within : (dir other f : Atoms) → (is_below f dir && is_below f other) ≡ within (deeper dir other) f
both_within dir other f = by_first (is_below other dir) refl
  where
    by_second : is_below other dir ≡ false → (s u : Bool) → same_path dir other ≡ s → is_below dir other ≡ u
        → (is_below f dir && is_below f other) ≡ within (cond (s || u) (Some dir) None) f
    by_second e true u k m =
        left_alone (is_below f dir) (is_below f other) (λ h. subst (λ (p : Atoms). is_below f p ≡ true) ((same_path_decides dir other).0 k) h)
    by_second e false true k m = left_alone (is_below f dir) (is_below f other) (λ h. below_through f dir other h m)
    by_second e false false k m = never (is_below f dir) (is_below f other) (λ g h. none_both f dir other g h e k m)

    by_first : (t : Bool) → is_below other dir ≡ t
        → (is_below f dir && is_below f other) ≡ within (cond t (Some other) (cond (same_path dir other || is_below dir other) (Some dir) None)) f
    by_first true e = right_alone (is_below f dir) (is_below f other) (λ k. below_through f other dir k e)
    by_first false e = by_second e (same_path dir other) (is_below dir other) refl refl

-- where it is known whether the path lies below the first directory
below_other : (dir other f : Atoms) (t : Bool) → is_below f dir ≡ t → (t && is_below f other) ≡ within (deeper dir other) f
below_other dir other f t e = sym (ap (λ b. b && is_below f other) e) ∙ both_within dir other f

-- ## Files below two directories

abbrev pub has_within : Option Atoms → Files → Bool
has_within None files = false
has_within (Some dir) files = has_below files dir

abbrev pub names_at : Option Atoms → Atoms → Files → List (List ℕ)
names_at None path files = []
names_at (Some dir) path files = own_names (below_of dir files) path

any_within : (o : Option Atoms) (files : Files) → list_any (λ (f : Atoms × List ℕ). within o f.0) files ≡ has_within o files
any_within None [] = refl
any_within None (f ∷ fs) = any_within None fs
any_within (Some dir) files = refl

both_any : (dir path : Atoms) (files : Files)
    → has_below (below_of dir files) path ≡ list_any (λ (f : Atoms × List ℕ). within (deeper dir path) f.0) files
both_any dir path [] = refl
both_any dir path (f ∷ fs) = by_test (is_below f.0 dir) refl (both_any dir path fs)
  where
    by_test : (t : Bool) → is_below f.0 dir ≡ t
        → has_below (below_of dir fs) path ≡ list_any (λ (g : Atoms × List ℕ). within (deeper dir path) g.0) fs
        → has_below (cond t (f ∷ below_of dir fs) (below_of dir fs)) path
        ≡ (within (deeper dir path) f.0 || list_any (λ (g : Atoms × List ℕ). within (deeper dir path) g.0) fs)
    by_test true e more =
        ap (λ b. is_below f.0 path || b) more
        ∙ ap (λ b. b || list_any (λ (g : Atoms × List ℕ). within (deeper dir path) g.0) fs) (below_other dir path f.0 true e)
    by_test false e more =
        more ∙ ap (λ b. b || list_any (λ (g : Atoms × List ℕ). within (deeper dir path) g.0) fs) (below_other dir path f.0 false e)

-- whether a file below one directory lies below another
pub below_deeper : (dir path : Atoms) (files : Files) → has_below (below_of dir files) path ≡ has_within (deeper dir path) files
below_deeper dir path files = both_any dir path files ∙ any_within (deeper dir path) files

abbrev kept_within : Option Atoms → Files → Files
kept_within o files = filter (λ (f : Atoms × List ℕ). within o f.0) files

none_kept : (files : Files) → kept_within None files ≡ []
none_kept [] = refl
none_kept (f ∷ fs) = none_kept fs

names_kept : (o : Option Atoms) (path : Atoms) (files : Files) → own_names (kept_within o files) path ≡ names_at o path files
names_kept None path files = ap (λ (fs : Files). own_names fs path) (none_kept files)
names_kept (Some dir) path files = refl

both_names : (dir path : Atoms) (files : Files) → own_names (below_of dir files) path ≡ own_names (kept_within (deeper dir path) files) path
both_names dir path [] = refl
both_names dir path (f ∷ fs) =
    by_tests (below_of dir fs) (kept_within (deeper dir path) fs) (is_below f.0 dir) (within (deeper dir path) f.0) refl refl (both_names dir path fs)
  where
    by_tests : (here there : Files) (t u : Bool) → is_below f.0 dir ≡ t → within (deeper dir path) f.0 ≡ u → own_names here path ≡ own_names there path
        → own_names (cond t (f ∷ here) here) path ≡ own_names (cond u (f ∷ there) there) path
    by_tests here there true true e k more = ap (cons_option (next_atom path f.0)) more
    by_tests here there true false e k more =
        ap (λ o. cons_option o (own_names here path)) (none_next path f.0 (below_other dir path f.0 true e ∙ k)) ∙ more
    by_tests here there false true e k more = absurd (false≢true (below_other dir path f.0 false e ∙ k))
    by_tests here there false false e k more = more

-- the names of the files below one directory in the listing of another
pub names_deeper : (dir path : Atoms) (files : Files) → own_names (below_of dir files) path ≡ names_at (deeper dir path) path files
names_deeper dir path files = both_names dir path files ∙ names_kept (deeper dir path) path files

-- ## One directory after another

next_member : (made : ByPip) (dirs : List (Bor DirInput)) (i : ℕ) (dir : Bor DirInput) → i < length dirs → dir ≡ get_or dirs i dir
    → members_of made (dirs_now (drop i dirs)) ≡ opaque_members made dir.now ++ members_of made (dirs_now (drop (i + 1) dirs))
next_member made dirs i dir l is =
    ap (λ (ds : List (Bor DirInput)). members_of made (dirs_now ds)) (drop-cons dirs i dir l)
    ∙ ap (λ (d : Bor DirInput). members_of made (dirs_now (d ∷ drop (suc i) dirs))) (sym is)
    ∙ ap (λ m. opaque_members made dir.now ++ members_of made (dirs_now (drop m dirs))) (sym (add-one i))

pub member_found : (made : ByPip) (path : Atoms) (dirs : List (Bor DirInput)) (i : ℕ) (dir : Bor DirInput) (bytes : List ℕ) (whole : Option (List ℕ))
    → i < length dirs → dir ≡ get_or dirs i dir → file_at (opaque_members made dir.now) path ≡ Some bytes
    → file_at (members_of made (dirs_now (drop i dirs))) path ≡ whole → Some bytes ≡ whole
member_found made path dirs i dir bytes whole l is found so_far =
    let rest = members_of made (dirs_now (drop (i + 1) dirs)) in
    sym (ap (λ (fs : Files). file_at fs path) (next_member made dirs i dir l is) ∙ at_both (opaque_members made dir.now) rest path
    ∙ ap (λ o. or_else o (file_at rest path)) found) ∙ so_far

pub member_passed : (made : ByPip) (path : Atoms) (dirs : List (Bor DirInput)) (i : ℕ) (dir : Bor DirInput) (whole : Option (List ℕ))
    → i < length dirs → dir ≡ get_or dirs i dir → file_at (opaque_members made dir.now) path ≡ None
    → file_at (members_of made (dirs_now (drop i dirs))) path ≡ whole → file_at (members_of made (dirs_now (drop (i + 1) dirs))) path ≡ whole
member_passed made path dirs i dir whole l is none so_far =
    let rest = members_of made (dirs_now (drop (i + 1) dirs)) in
    sym (ap (λ (fs : Files). file_at fs path) (next_member made dirs i dir l is) ∙ at_both (opaque_members made dir.now) rest path
    ∙ ap (λ o. or_else o (file_at rest path)) none) ∙ so_far

pub no_member_left : (made : ByPip) (path : Atoms) (dirs : List (Bor DirInput)) (i : ℕ) (whole : Option (List ℕ)) → length dirs ≤ i
    → file_at (members_of made (dirs_now (drop i dirs))) path ≡ whole → None ≡ whole
no_member_left made path dirs i whole l so_far =
    sym (ap (λ (ds : List (Bor DirInput)). file_at (members_of made (dirs_now ds)) path) (drop_all i dirs l)) ∙ so_far

pub below_member : (made : ByPip) (path : Atoms) (dirs : List (Bor DirInput)) (i : ℕ) (dir : Bor DirInput) (t whole : Bool)
    → i < length dirs → dir ≡ get_or dirs i dir → has_below (opaque_members made dir.now) path ≡ t
    → has_below (members_of made (dirs_now (drop i dirs))) path ≡ whole
    → (t || has_below (members_of made (dirs_now (drop (i + 1) dirs))) path) ≡ whole
below_member made path dirs i dir t whole l is e so_far =
    let rest = members_of made (dirs_now (drop (i + 1) dirs)) in
    sym (ap (λ (fs : Files). has_below fs path) (next_member made dirs i dir l is) ∙ below_both (opaque_members made dir.now) rest path
    ∙ ap (λ b. b || has_below rest path) e) ∙ so_far

pub none_below_left : (made : ByPip) (path : Atoms) (dirs : List (Bor DirInput)) (i : ℕ) (whole : Bool) → length dirs ≤ i
    → has_below (members_of made (dirs_now (drop i dirs))) path ≡ whole → false ≡ whole
none_below_left made path dirs i whole l so_far =
    sym (ap (λ (ds : List (Bor DirInput)). has_below (members_of made (dirs_now ds)) path) (drop_all i dirs l)) ∙ so_far

pub names_member : (made : ByPip) (path : Atoms) (dirs : List (Bor DirInput)) (i : ℕ) (dir : Bor DirInput) (names new whole : List (List ℕ))
    → i < length dirs → dir ≡ get_or dirs i dir → new ≡ names ++ own_names (opaque_members made dir.now) path
    → names ++ own_names (members_of made (dirs_now (drop i dirs))) path ≡ whole
    → new ++ own_names (members_of made (dirs_now (drop (i + 1) dirs))) path ≡ whole
names_member made path dirs i dir names new whole l is e so_far =
    let rest = members_of made (dirs_now (drop (i + 1) dirs)) in
    ap (λ ns. ns ++ own_names rest path) e
    ∙ append_assoc names (own_names (opaque_members made dir.now) path) (own_names rest path)
    ∙ ap (λ ns. names ++ ns)
    (sym (ap (λ (fs : Files). own_names fs path) (next_member made dirs i dir l is) ∙ names_both (opaque_members made dir.now) rest path))
    ∙ so_far

pub no_member_names_left : (made : ByPip) (path : Atoms) (dirs : List (Bor DirInput)) (i : ℕ) (names whole : List (List ℕ)) → length dirs ≤ i
    → names ++ own_names (members_of made (dirs_now (drop i dirs))) path ≡ whole → names ≡ whole
no_member_names_left made path dirs i names whole l so_far =
    sym (append-nil names)
    ∙ ap (λ (ds : List (Bor DirInput)). names ++ own_names (members_of made (dirs_now ds)) path) (sym (drop_all i dirs l)) ∙ so_far

-- ## What a view keeps

of_kind : (v : ViewData) (kind : PipKind) → members_of v.inputs (by_pip (filter is_opaque (taken_dirs kind))) ≡ opaque_by v (kind_process kind)
of_kind v (Process d) = refl
of_kind v (Copy d) = refl
of_kind v (Write d) = refl
of_kind v (Seal d) = refl

pub of_pip : (v : ViewData) (o : Option Pip) → members_of v.inputs (by_pip (filter is_opaque (dirs_at o))) ≡ opaque_by v (process_in o)
of_pip v None = refl
of_pip v (Some pip) = of_kind v pip.kind

-- the members of the directories that are kept are those that the pip takes
pub kept_members : (v : ViewData) (kept others : List DirInput) → KeepsView v kept others → members_of v.inputs kept ≡ opaque_in v
kept_members v kept others h = ap (members_of v.inputs) h.dirs ∙ of_pip v (slice_get v.pips v.pip)
