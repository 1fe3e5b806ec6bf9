-- The files of the modules that were found are specifications of the tree.
use Rattle.std.proofs.Common.{◌≡◌, ◌⊎◌, ℕ, codes, Bool, true, false, List, [], ◌∷◌, ◌++◌, map, filter, Option, Some, None, cond, refl, ap, sym, subst, ◌∙◌, inl, inr}
use Rattle.std.specs.Prelude.{◌&&◌, ◌||◌, option_and_then, option_map, not}
use Rattle.std.specs.List.{AllByRecursion, AllZip, IsDistinct, cons_option}
use Rattle.std.specs.Ordering.{eq_by_cmp}
use Rattle.std.proofs.lemmas.Map.Keys.{IsDistinct-from_sorted}
use Rattle.std.specs.Option.{option_map_or}
use Rattle.std.proofs.lemmas.Bool.{cases_Bool, false≢true, and_parts}
use Rattle.std.specs.Cmp.{both_ways}
use Rattle.bx_tree.specs.Paths.{Atoms, has_path, path_cmp, same_path}
use Rattle.bx_tree.specs.Orders.{path_cmp_matches, same_path_decides}
use Rattle.bx_tree.specs.Trees.{Files, IsTree, file_at, paths_of}
use Rattle.dscript_ast.specs.ExprTree.{ExprTree, PropTree}
use Rattle.dscript_ast.specs.FileTree as trees
use Rattle.dscript_names_workspace.specs.Lists.{files_listed}
use Rattle.dscript_names_workspace.specs.Modules.{DescriptionData, are_projects, described, described_by, is_semantics, name_in, optional_projects}
use Rattle.dscript_names_workspace.specs.Modules.{projects_in, projects_of}
use Rattle.dscript_names_workspace.specs.Objects.{field_named, object_with}
use Rattle.dscript_names_workspace.specs.Paths.{in_tree, is_module_file, is_specification}
use Rattle.bx_tree.specs.Below.{is_below}
use Rattle.dscript_program.specs.Workspaces.{ModuleData}
use Rattle.dscript_parse.specs.Reading.{Reading, Read, NoTokens, NoFile}
use Rattle.dscript_names_workspace.specs.Membership.{dir_of, files_of_module, implied_files, is_config, is_deeper, is_implied}
use Rattle.dscript_names_workspace.specs.ModuleLaws.{AreSpecifications}
use Rattle.dscript_names_workspace.specs.Workspaces.{Found, ModuleFile, Described, Faulty, configuration_fault, module_in, modules}
use Rattle.dscript_names_workspace.specs.Finding.{Finds, IsModuleFile, build_path, main_module, module_described, module_file}
use Rattle.dscript_names_workspace.proofs.FoundModules.{found_from}

-- ## Files that pass a test, in the order of the tree

is_here : (paths : List Atoms) (path : Atoms) → has_path (path ∷ paths) path ≡ true
is_here paths path = ap (λ b. b || has_path paths path) ((same_path_decides path path).1 refl)

same_tests : {X : Type 0} (p q : X → Bool) (xs : List X) → AllByRecursion (λ x. p x ≡ q x) xs → filter p xs ≡ filter q xs
same_tests p q [] h = refl
same_tests p q (x ∷ xs) h =
    ap (λ b. cond b (x ∷ filter p xs) (filter p xs)) h.0 ∙ ap (λ ys. cond (q x) (x ∷ ys) ys) (same_tests p q xs h.1)

pub kept_is : (test : Atoms → Bool) (paths : List Atoms) (path : Atoms) → has_path (filter test paths) path ≡ true
    → test path ≡ true
kept_is test [] path h = absurd (false≢true h)
kept_is test (p ∷ ps) path h = step test (test p) p ps path refl (kept_is test ps path) h
  where
    step : (test : Atoms → Bool) (b : Bool) (p : Atoms) (ps : List Atoms) (path : Atoms) → test p ≡ b
        → (has_path (filter test ps) path ≡ true → test path ≡ true)
        → has_path (cond b (p ∷ filter test ps) (filter test ps)) path ≡ true → test path ≡ true
    step test false p ps path e k h = k h
    step test true p ps path e k h = elim (cases_Bool (same_path p path)) [
      | inl same ↦ ap test (sym ((same_path_decides p path).0 same)) ∙ e
      | inr differ ↦ k (sym (ap (λ b. b || has_path (filter test ps) path) differ) ∙ h)
    ]

kept_in : (test : Atoms → Bool) (paths : List Atoms) (path : Atoms) → has_path paths path ≡ true → test path ≡ true
    → has_path (filter test paths) path ≡ true
kept_in test [] path h t = h
kept_in test (p ∷ ps) path h t = elim (cases_Bool (same_path p path)) [
  | inl same ↦
      let is = (same_path_decides p path).0 same in
      ap (λ b. has_path (cond b (p ∷ filter test ps) (filter test ps)) path) (ap test is ∙ t)
      ∙ ap (λ b. b || has_path (filter test ps) path) same
  | inr differ ↦
      more (test p) p (filter test ps) path (kept_in test ps path (sym (ap (λ b. b || has_path ps path) differ) ∙ h) t)
]
  where
    or_true : (b : Bool) → (b || true) ≡ true
    or_true true = refl
    or_true false = refl

    more : (b : Bool) (p : Atoms) (ps : List Atoms) (path : Atoms) → has_path ps path ≡ true
        → has_path (cond b (p ∷ ps) ps) path ≡ true
    more true p ps path h = ap (λ b. same_path p path || b) h ∙ or_true (same_path p path)
    more false p ps path h = h

each_kept : (test : Atoms → Bool) (all paths : List Atoms) → ((path : Atoms) → has_path paths path ≡ true → has_path all path ≡ true)
    → AllByRecursion (λ path. has_path (filter test all) path ≡ test path) paths
each_kept test all [] into = tt
each_kept test all (p ∷ ps) into = (
  both_ways (has_path (filter test all) p) (test p) (kept_is test all p) (kept_in test all p (into p (is_here ps p))),
  each_kept test all ps (λ path h. into path (ap (λ b. same_path p path || b) h ∙ or_true (same_path p path))),
)
  where
    or_true : (b : Bool) → (b || true) ≡ true
    or_true true = refl
    or_true false = refl

-- files of the tree that pass a test are in its order
in_order_kept : (files : Files) (test : Atoms → Bool) → in_tree files (filter test (paths_of files)) ≡ filter test (paths_of files)
in_order_kept files test =
    same_tests (has_path (filter test (paths_of files))) test (paths_of files)
    (each_kept test (paths_of files) (paths_of files) (λ path h. h))

each_passes : (test other : Atoms → Bool) (paths : List Atoms) → ((path : Atoms) → test path ≡ true → other path ≡ true)
    → AllByRecursion (λ path. other path ≡ true) (filter test paths)
each_passes test other [] f = tt
each_passes test other (p ∷ ps) f = step test other (test p) p ps refl f (each_passes test other ps f)
  where
    step : (test other : Atoms → Bool) (b : Bool) (p : Atoms) (ps : List Atoms) → test p ≡ b
        → ((path : Atoms) → test path ≡ true → other path ≡ true)
        → AllByRecursion (λ path. other path ≡ true) (filter test ps)
        → AllByRecursion (λ path. other path ≡ true) (cond b (p ∷ filter test ps) (filter test ps))
    step test other true p ps e f h = (f p e, h)
    step test other false p ps e f h = h

specifications_kept : (files : Files) (test : Atoms → Bool) → ((path : Atoms) → test path ≡ true → is_specification path ≡ true)
    → AreSpecifications files (filter test (paths_of files))
specifications_kept files test f = record {
  in_order = in_order_kept files test;
  named = each_passes test is_specification (paths_of files) f;
}

-- ## Implied files and listed files

implied_named : (below spec config module' deeper : Bool) → (below && spec && config && module' && deeper) ≡ true → spec ≡ true
implied_named true true c m d e = refl
implied_named true false c m d e = cc
implied_named false s c m d e = cc

one_named : (dir : Atoms) (paths : List Atoms) (path : Atoms) → are_projects dir paths ≡ true → has_path paths path ≡ true
    → is_specification path ≡ true
one_named dir [] path h k = absurd (false≢true k)
one_named dir (p ∷ ps) path h k = elim (cases_Bool (same_path p path)) [
  | inl same ↦
      ap is_specification (sym ((same_path_decides p path).0 same))
      ∙ (and_parts (is_below p dir) (is_specification p) (first (is_below p dir && is_specification p) (are_projects dir ps) h)).1
  | inr differ ↦
      one_named dir ps path (rest (is_below p dir && is_specification p) (are_projects dir ps) h)
      (sym (ap (λ b. b || has_path ps path) differ) ∙ k)
]
  where
    first : (a b : Bool) → (a && b) ≡ true → a ≡ true
    first true b e = refl
    first false b e = cc

    rest : (a b : Bool) → (a && b) ≡ true → b ≡ true
    rest true b e = e
    rest false b e = cc

abbrev pub AreSources : Files → Option (List Atoms) → Type 0
AreSources files None = Unit {0}
AreSources files (Some paths) = AreSpecifications files paths

tested : (files : Files) (dir : Atoms) (b : Bool) (xs paths : List Atoms) → are_projects dir xs ≡ b
    → cond b (Some (in_tree files xs)) None ≡ Some paths → AreSpecifications files paths
tested files dir false xs paths t e = cc
tested files dir true xs paths t e =
    let is : in_tree files xs ≡ paths = cc in
    subst (AreSpecifications files) is
    (specifications_kept files (has_path xs) (λ path k. one_named dir xs path t k))

projects_are : (files : Files) (dir : Atoms) (o : Option (List Atoms)) (paths : List Atoms)
    → option_and_then (λ xs. cond (are_projects dir xs) (Some (in_tree files xs)) None) o ≡ Some paths
    → AreSpecifications files paths
projects_are files dir None paths e = cc
projects_are files dir (Some xs) paths e = tested files dir (are_projects dir xs) xs paths refl e

mapped_are : (files : Files) (dir : Atoms) (o : Option (List Atoms)) (projects : Option (List Atoms))
    → ((paths : List Atoms) → o ≡ Some paths → AreSpecifications files paths) → option_map Some o ≡ Some projects
    → AreSources files projects
mapped_are files dir None projects f e = cc
mapped_are files dir (Some paths) projects f e =
    let is : Some paths ≡ projects = cc in
    subst (AreSources files) is (f paths refl)

optional_are : (files : Files) (dir : Atoms) (field : Option ExprTree) (projects : Option (List Atoms))
    → optional_projects files dir field ≡ Some projects → AreSources files projects
optional_are files dir None projects e =
    let is : None ≡ projects = cc in
    subst (AreSources files) is tt
optional_are files dir (Some x) projects e =
    mapped_are files dir (projects_in files dir x) projects
    (λ paths k. projects_are files dir (files_listed files dir x) paths k) e

named_are : (files : Files) (name : Option (List ℕ)) (o : Option (Option (List Atoms))) (d : DescriptionData)
    → ((projects : Option (List Atoms)) → o ≡ Some projects → AreSources files projects)
    → option_and_then (λ n. option_map (λ projects. record { name = n; projects = projects }) o) name ≡ Some d
    → AreSources files d.projects
named_are files None o d f e = cc
named_are files (Some n) None d f e = cc
named_are files (Some n) (Some projects) d f e =
    let is : projects ≡ d.projects = ap (λ (o : Option DescriptionData). option_map_or (λ x. x.projects) o projects) e in
    subst (AreSources files) is (f projects refl)

fields_are : (files : Files) (dir : Atoms) (b : Bool) (fields : List PropTree) (d : DescriptionData)
    → cond b (option_and_then (λ n. option_map (λ projects. record { name = n; projects = projects }) (projects_of files dir fields))
    (option_and_then name_in (field_named (codes "name") fields))) None ≡ Some d → AreSources files d.projects
fields_are files dir false fields d e = cc
fields_are files dir true fields d e =
    named_are files (option_and_then name_in (field_named (codes "name") fields)) (projects_of files dir fields) d
    (λ projects k. optional_are files dir (field_named (codes "projects") fields) projects k) e

object_are : (files : Files) (dir : Atoms) (o : Option (List PropTree)) (d : DescriptionData)
    → option_and_then (described_by files dir) o ≡ Some d → AreSources files d.projects
object_are files dir None d e = cc
object_are files dir (Some fields) d e =
    fields_are files dir (option_map_or is_semantics (field_named (codes "nameResolutionSemantics") fields) true) fields d e

described_are : (files : Files) (dir : Atoms) (e : ExprTree) (d : DescriptionData) → described files dir e ≡ Some d
    → AreSources files d.projects
described_are files dir e d h =
    object_are files dir (object_with (codes "name" ∷ codes "projects" ∷ codes "nameResolutionSemantics" ∷ []) e) d h

-- ## The files of a module

files_are : (files : Files) (implied : List Atoms) (projects : Option (List Atoms)) → AreSpecifications files implied
    → AreSources files projects → AreSpecifications files (files_of_module implied projects)
files_are files implied None h k = h
files_are files implied (Some paths) h k = k

abbrev pub IsOwn : Files → ModuleFile → Type 0
IsOwn files (Described m lists) = AreSpecifications files m.files
IsOwn files (Faulty fault) = Unit {0}

described_own : (files : Files) (implied : List Atoms) (path : Atoms) (e : ExprTree) (o : Option DescriptionData)
    → described files (dir_of path) e ≡ o → AreSpecifications files implied
    → IsOwn files (option_map_or (module_described files implied path) o (Faulty (configuration_fault path)))
described_own files implied path e None h k = tt
described_own files implied path e (Some d) h k = files_are files implied d.projects k (described_are files (dir_of path) e d h)

read_own : (files : Files) (implied : List Atoms) (path : Atoms) (reading : Reading) → AreSpecifications files implied
    → IsOwn files (module_file files implied path reading)
read_own files implied path (NoTokens place) h = tt
read_own files implied path (NoFile place) h = tt
read_own files implied path (Read (trees.Project items)) h = tt
read_own files implied path (Read (trees.Config e)) h = tt
read_own files implied path (Read (trees.Module e)) h =
    described_own files implied path e (described files (dir_of path) e) refl h

implied_are : (files : Files) (dirs : List Atoms) (dir : Atoms) → AreSpecifications files (implied_files files dirs dir)
implied_are files dirs dir =
    specifications_kept files (is_implied dirs dir) (λ path h.
    implied_named (is_below path dir) (is_specification path) (not (is_config path)) (not (is_module_file path))
    (not (is_deeper dirs dir path)) h)

file_own : (files : Files) (dirs : List Atoms) (path : Atoms) (m : ModuleFile) → IsModuleFile files dirs path m → IsOwn files m
file_own files dirs path m h =
    subst (IsOwn files) (sym h.2.2)
    (read_own files (implied_files files dirs (dir_of path)) path h.2.0 (implied_are files dirs (dir_of path)))

put_own : (files : Files) (m : ModuleFile) (ms : List ModuleData) → IsOwn files m
    → AllByRecursion (λ d. AreSpecifications files d.files) ms
    → AllByRecursion (λ d. AreSpecifications files d.files) (cons_option (module_in m) ms)
put_own files (Described m lists) ms h k = (h, k)
put_own files (Faulty fault) ms h k = k

all_own : (files : Files) (dirs paths : List Atoms) (ms : List ModuleFile) → AllZip (IsModuleFile files dirs) paths ms
    → AllByRecursion (λ d. AreSpecifications files d.files) (modules ms)
all_own files dirs [] [] h = tt
all_own files dirs [] (m ∷ ms) h = absurd h
all_own files dirs (p ∷ ps) [] h = absurd h
all_own files dirs (p ∷ ps) (m ∷ ms) h =
    put_own files m (modules ms) (file_own files dirs p m h.0) (all_own files dirs ps ms h.1)

-- ## The one module of a tree without a configuration

build_named : is_specification build_path ≡ true
build_named = refl

build_there : (files : Files) (text : List ℕ) → file_at files build_path ≡ Some text → has_path (paths_of files) build_path ≡ true
build_there [] text e = cc
build_there (f ∷ fs) text e = elim (cases_Bool (same_path f.0 build_path)) [
  | inl same ↦ ap (λ b. b || has_path (paths_of fs) build_path) same
  | inr differ ↦
      ap (λ b. b || has_path (paths_of fs) build_path) differ
      ∙ build_there fs text (sym (ap (λ b. cond b (Some f.1) (file_at fs build_path)) differ) ∙ e)
]

one_is : (path q : Atoms) → eq_by_cmp path_cmp path q ≡ false → has_path (path ∷ []) q ≡ false
one_is path q e = ap (λ b. b || false) (path_cmp_matches path q ∙ e)

none_left : (path x : Atoms) (xs : List Atoms) → x ≡ path → AllByRecursion (λ y. eq_by_cmp path_cmp x y ≡ false) xs
    → filter (has_path (path ∷ [])) xs ≡ []
none_left path x [] e h = refl
none_left path x (y ∷ ys) e h =
    ap (λ b. cond b (y ∷ filter (has_path (path ∷ [])) ys) (filter (has_path (path ∷ [])) ys))
    (one_is path y (ap (λ p. eq_by_cmp path_cmp p y) (sym e) ∙ h.0))
    ∙ none_left path x ys e h.1

apart : (path x : Atoms) → same_path x path ≡ false → has_path (path ∷ []) x ≡ false
apart path x e = elim (cases_Bool (same_path path x)) [
  | inl same ↦ absurd (false≢true (sym e ∙ (same_path_decides x path).1 (sym ((same_path_decides path x).0 same))))
  | inr differ ↦ ap (λ b. b || false) differ
]

-- a file of the tree alone is in its order
single : (paths : List Atoms) (path : Atoms) → IsDistinct (eq_by_cmp path_cmp) paths → has_path paths path ≡ true
    → filter (has_path (path ∷ [])) paths ≡ path ∷ []
unfolding IsDistinct
single [] path d h = absurd (false≢true h)
single (x ∷ xs) path d h = elim (cases_Bool (same_path x path)) [
  | inl same ↦
      let is = (same_path_decides x path).0 same in
      ap (λ b. cond b (x ∷ filter (has_path (path ∷ [])) xs) (filter (has_path (path ∷ [])) xs))
      (ap (λ b. b || false) ((same_path_decides path x).1 (sym is)))
      ∙ ap (λ ys. x ∷ ys) (none_left path x xs is d.0) ∙ ap (λ p. p ∷ []) is
  | inr differ ↦
      ap (λ b. cond b (x ∷ filter (has_path (path ∷ [])) xs) (filter (has_path (path ∷ [])) xs)) (apart path x differ)
      ∙ single xs path d.1 (sym (ap (λ b. b || has_path xs path) differ) ∙ h)
]

main_own : (files : Files) (text : List ℕ) → IsTree files → file_at files build_path ≡ Some text
    → AreSpecifications files (build_path ∷ [])
main_own files text tree e = record {
  in_order = single (paths_of files) build_path (IsDistinct-from_sorted path_cmp (paths_of files) tree.rising) (build_there files text e);
  named = (build_named, tt);
}

pub own_files : (files : Files) (ms : List ModuleData) → IsTree files → Finds files (Found ms)
    → AllByRecursion (λ m. AreSpecifications files m.files) ms
own_files files ms tree h = elim (found_from files ms h) [
  | inl main ↦ subst (AllByRecursion (λ m. AreSpecifications files m.files)) (sym main.is) (main_own files main.text tree main.there, tt)
  | inr listed ↦
      subst (AllByRecursion (λ m. AreSpecifications files m.files)) (sym listed.are)
      (all_own files (map dir_of (in_tree files listed.said)) (in_tree files listed.said) listed.module_files listed.read)
]
