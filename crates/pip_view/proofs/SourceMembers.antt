-- The members of seals of source files, which are source files themselves.
use Rattle.std.proofs.Common.{◌≡◌, ℕ, Bool, true, false, ◌||◌, cond, List, [], ◌∷◌, ◌++◌, filter, Option, Some, None, refl, ap, sym, ◌∙◌, subst, inl, inr}
use Rattle.std.specs.List.{cons_option, flat_map, list_any}
use Rattle.std.proofs.lemmas.Bool.{cases_Bool, false≢true}
use Rattle.bx_tree.specs.Orders.{same_path_decides}
use Rattle.bx_tree.specs.Paths.{Atoms, same_path}
use Rattle.bx_tree.specs.Trees.{Files, file_at}
use Rattle.bx_tree.specs.Members.{Has}
use Rattle.bx_tree.specs.Below.{is_below, next_atom, is_directly_in}
use Rattle.bx_tree.proofs.Members.{has_either}
use Rattle.tool_run_writes.specs.Writes.{has_below, own_names}
use Rattle.pip_model_types.specs.declared.dir_inputs.DirInput.{DirInput}
use Rattle.pip_model_types.specs.declared.dir_inputs.DirInput.TheVariants.{Sealed, Opaque}
use Rattle.pip_model_types.specs.declared.dir_inputs.SealForm.TheVariants.{Full, Partial, SourceTop, SourceAll}
use Rattle.pip_model_types.specs.declared.pip.Pip.{Pip}
use Rattle.pip_view.specs.InputFiles.{dir_members, is_source, is_source_of}
use Rattle.pip_view_inputs.specs.Results.{ByPip}

-- ## Files of two lists

abbrev pub or_else : Option (List ℕ) → Option (List ℕ) → Option (List ℕ)
or_else None o = o
or_else (Some bytes) o = Some bytes

pub at_both : (xs ys : Files) (p : Atoms) → file_at (xs ++ ys) p ≡ or_else (file_at xs p) (file_at ys p)
at_both [] ys p = refl
at_both (x ∷ xs) ys p = by_test (same_path x.0 p) (at_both xs ys p)
  where
    by_test : (t : Bool) → file_at (xs ++ ys) p ≡ or_else (file_at xs p) (file_at ys p)
        → cond t (Some x.1) (file_at (xs ++ ys) p) ≡ or_else (cond t (Some x.1) (file_at xs p)) (file_at ys p)
    by_test true more = refl
    by_test false more = more

pub below_both : (xs ys : Files) (dir : Atoms) → has_below (xs ++ ys) dir ≡ (has_below xs dir || has_below ys dir)
below_both [] ys dir = refl
below_both (x ∷ xs) ys dir = ap (λ t. is_below x.0 dir || t) (below_both xs ys dir) ∙ grouped (is_below x.0 dir) (has_below xs dir) (has_below ys dir)
  where
    grouped : (a b c : Bool) → (a || (b || c)) ≡ ((a || b) || c)
    grouped true b c = refl
    grouped false b c = refl

pub names_both : (xs ys : Files) (dir : Atoms) → own_names (xs ++ ys) dir ≡ own_names xs dir ++ own_names ys dir
names_both [] ys dir = refl
names_both (x ∷ xs) ys dir = ap (cons_option (next_atom dir x.0)) (names_both xs ys dir) ∙ by_name (next_atom dir x.0)
  where
    by_name : (o : Option (List ℕ)) → cons_option o (own_names xs dir ++ own_names ys dir) ≡ cons_option o (own_names xs dir) ++ own_names ys dir
    by_name None = refl
    by_name (Some name) = refl

-- ## Files that pass a test of their paths

abbrev passing : (Atoms → Bool) → Files → Files
passing test files = filter (λ (f : Atoms × List ℕ). test f.0) files

pub at_passing : (test : Atoms → Bool) (files : Files) (p : Atoms) → file_at (passing test files) p ≡ cond (test p) (file_at files p) None
at_passing test [] p = nothing (test p) None
  where
    nothing : (t : Bool) (o : Option (List ℕ)) → o ≡ cond t o o
    nothing true o = refl
    nothing false o = refl
at_passing test (f ∷ fs) p = elim (cases_Bool (same_path f.0 p)) [
  | inl same ↦ at_it (ap test ((same_path_decides f.0 p).0 same)) same (test f.0) refl (at_passing test fs p)
  | inr other ↦ past (test f.0) other (at_passing test fs p)
]
  where
    at_it : test f.0 ≡ test p → same_path f.0 p ≡ true → (t : Bool) → test f.0 ≡ t → file_at (passing test fs) p ≡ cond (test p) (file_at fs p) None
        → file_at (cond t (f ∷ passing test fs) (passing test fs)) p ≡ cond (test p) (cond (same_path f.0 p) (Some f.1) (file_at fs p)) None
    at_it e same true is more =
        ap (λ s. cond s (Some f.1) (file_at (passing test fs) p)) same
        ∙ sym (ap (λ s. cond s (cond (same_path f.0 p) (Some f.1) (file_at fs p)) None) (sym e ∙ is) ∙ ap (λ s. cond s (Some f.1) (file_at fs p)) same)
    at_it e same false is more =
        more ∙ ap (λ s. cond s (file_at fs p) None) (sym e ∙ is)
        ∙ sym (ap (λ s. cond s (cond (same_path f.0 p) (Some f.1) (file_at fs p)) None) (sym e ∙ is))

    past : (t : Bool) → same_path f.0 p ≡ false → file_at (passing test fs) p ≡ cond (test p) (file_at fs p) None
        → file_at (cond t (f ∷ passing test fs) (passing test fs)) p ≡ cond (test p) (cond (same_path f.0 p) (Some f.1) (file_at fs p)) None
    past true other more =
        ap (λ s. cond s (Some f.1) (file_at (passing test fs) p)) other ∙ more
        ∙ ap (λ s. cond (test p) (cond s (Some f.1) (file_at fs p)) None) (sym other)
    past false other more = more ∙ ap (λ s. cond (test p) (cond s (Some f.1) (file_at fs p)) None) (sym other)

below_passing : (test : Atoms → Bool) (files : Files) (dir : Atoms) → has_below (passing test files) dir ≡ true → has_below files dir ≡ true
below_passing test [] dir e = e
below_passing test (f ∷ fs) dir e = by_test (test f.0) e (below_passing test fs dir)
  where
    or_true : (a b : Bool) → b ≡ true → (a || b) ≡ true
    or_true true b e = refl
    or_true false b e = e

    either : (a b c : Bool) → (a || b) ≡ true → (b ≡ true → c ≡ true) → (a || c) ≡ true
    either true b c e more = refl
    either false b c e more = more e

    by_test : (t : Bool) → has_below (cond t (f ∷ passing test fs) (passing test fs)) dir ≡ true → (has_below (passing test fs) dir ≡ true → has_below fs dir ≡ true)
        → (is_below f.0 dir || has_below fs dir) ≡ true
    by_test true e more = either (is_below f.0 dir) (has_below (passing test fs) dir) (has_below fs dir) e more
    by_test false e more = or_true (is_below f.0 dir) (has_below fs dir) (more e)

to_more : (o : Option (List ℕ)) (names : List (List ℕ)) (n : List ℕ) → Has names n → Has (cons_option o names) n
to_more None names n h = h
to_more (Some m) names n h = inr h

along : (o : Option (List ℕ)) (xs ys : List (List ℕ)) (n : List ℕ) → (Has xs n → Has ys n) → Has (cons_option o xs) n → Has (cons_option o ys) n
along None xs ys n more h = more h
along (Some m) xs ys n more (inl e) = inl e
along (Some m) xs ys n more (inr h) = inr (more h)

names_passing : (test : Atoms → Bool) (files : Files) (dir : Atoms) (n : List ℕ) → Has (own_names (passing test files) dir) n → Has (own_names files dir) n
names_passing test [] dir n h = h
names_passing test (f ∷ fs) dir n h = by_test (test f.0) h (names_passing test fs dir n)
  where
    by_test : (t : Bool) → Has (own_names (cond t (f ∷ passing test fs) (passing test fs)) dir) n → (Has (own_names (passing test fs) dir) n → Has (own_names fs dir) n)
        → Has (cons_option (next_atom dir f.0) (own_names fs dir)) n
    by_test true h more = along (next_atom dir f.0) (own_names (passing test fs) dir) (own_names fs dir) n more h
    by_test false h more = to_more (next_atom dir f.0) (own_names fs dir) n (more h)

-- ## Directories

abbrev pub sealed_sources : List Pip → Files → ByPip → List DirInput → Files
sealed_sources pips tree made dirs = flat_map (dir_members pips tree made) (filter is_source dirs)

-- a property of lists of files that holds of no files, of those that pass a test, and of two such lists
module _ (P : Files → List DirInput → Type 0) (pips : List Pip) (tree : Files) (made : ByPip) (none : P [] [])
    (passes : (dir : DirInput) (dirs : List DirInput) (test : Atoms → Bool) → ((p : Atoms) → is_source_of p dir ≡ test p) → (rest : Files) → P rest dirs
    → P (passing test tree ++ rest) (dir ∷ dirs))
    (others : (dir : DirInput) (dirs : List DirInput) → ((p : Atoms) → is_source_of p dir ≡ false) → (rest : Files) → P rest dirs → P rest (dir ∷ dirs)) where
  pub sealed_all : (dirs : List DirInput) → P (sealed_sources pips tree made dirs) dirs
  sealed_all [] = none
  sealed_all (Sealed pip Full root ∷ dirs) = others (Sealed pip Full root) dirs (λ p. refl) _ (sealed_all dirs)
  sealed_all (Sealed pip Partial root ∷ dirs) = others (Sealed pip Partial root) dirs (λ p. refl) _ (sealed_all dirs)
  sealed_all (Sealed pip SourceTop root ∷ dirs) =
      passes (Sealed pip SourceTop root) dirs (λ p. is_directly_in p root) (λ p. refl) _ (sealed_all dirs)
  sealed_all (Sealed pip SourceAll root ∷ dirs) =
      passes (Sealed pip SourceAll root) dirs (λ p. is_below p root) (λ p. refl) _ (sealed_all dirs)
  sealed_all (Opaque pip path ∷ dirs) = others (Opaque pip path) dirs (λ p. refl) _ (sealed_all dirs)

-- what is at a path among the members
abbrev At : Files → Files → List DirInput → Type 0
At tree files dirs = (p : Atoms) → file_at files p ≡ cond (list_any (is_source_of p) dirs) (file_at tree p) None

pub sealed_at : (pips : List Pip) (tree : Files) (made : ByPip) (dirs : List DirInput) → At tree (sealed_sources pips tree made dirs) dirs
sealed_at pips tree made dirs = sealed_all (At tree) pips tree made (λ p. refl)
    (λ dir ds test is rest h p.
    at_both (passing test tree) rest p ∙ ap (λ o. or_else o (file_at rest p)) (at_passing test tree p) ∙ ap (or_else (cond (test p) (file_at tree p) None)) (h p)
    ∙ joined (test p) (list_any (is_source_of p) ds) (file_at tree p)
    ∙ ap (λ t. cond (t || list_any (is_source_of p) ds) (file_at tree p) None) (sym (is p)))
    (λ dir ds is rest h p. h p ∙ ap (λ t. cond (t || list_any (is_source_of p) ds) (file_at tree p) None) (sym (is p)))
    dirs
  where
    joined : (a b : Bool) (o : Option (List ℕ)) → or_else (cond a o None) (cond b o None) ≡ cond (a || b) o None
    joined true true None = refl
    joined true false None = refl
    joined true b (Some bytes) = refl
    joined false b o = refl

-- what lies below a directory among the members does so among the source files
abbrev Within : Files → Files → List DirInput → Type 0
Within tree files dirs = (dir : Atoms) → has_below files dir ≡ true → has_below tree dir ≡ true

pub sealed_below : (pips : List Pip) (tree : Files) (made : ByPip) (dirs : List DirInput) → Within tree (sealed_sources pips tree made dirs) dirs
sealed_below pips tree made dirs = sealed_all (Within tree) pips tree made (λ d e. absurd (false≢true e))
    (λ dir ds test is rest h d e. split (has_below (passing test tree) d) (has_below rest d) (below_passing test tree d) (h d) (sym (below_both (passing test tree) rest d) ∙ e))
    (λ dir ds is rest h. h)
    dirs
  where
    split : {c : Bool} (a b : Bool) → (a ≡ true → c ≡ true) → (b ≡ true → c ≡ true) → (a || b) ≡ true → c ≡ true
    split true b f g e = f refl
    split false b f g e = g e

-- a name of the members is one of the source files
abbrev Named : Files → Files → List DirInput → Type 0
Named tree files dirs = (dir : Atoms) (n : List ℕ) → Has (own_names files dir) n → Has (own_names tree dir) n

pub sealed_names : (pips : List Pip) (tree : Files) (made : ByPip) (dirs : List DirInput) → Named tree (sealed_sources pips tree made dirs) dirs
sealed_names pips tree made dirs = sealed_all (Named tree) pips tree made (λ d n h. absurd h)
    (λ dir ds test is rest h d n m. elim (has_either (own_names (passing test tree) d) (own_names rest d) n (subst (λ ns. Has ns n) (names_both (passing test tree) rest d) m)) [
      | inl a ↦ names_passing test tree d n a
      | inr b ↦ h d n b
    ])
    (λ dir ds is rest h. h)
    dirs
