-- No file is in two of the modules that were found.
use Rattle.std.proofs.Common.{◌≡◌, ℕ, Bool, true, false, not, List, [], ◌∷◌, ◌++◌, map, filter, Option, Some, None, cond, refl, ap, sym, subst, ◌∙◌, inl, inr}
use Rattle.std.specs.Prelude.{◌&&◌, ◌||◌, option_and_then, option_map}
use Rattle.std.specs.List.{AllByRecursion, AllZip, cons_option, list_all, list_any}
use Rattle.std.specs.List.Sorted.{IsStrictlySortedBy}
use Rattle.std.specs.Option.{is_some, option_map_or}
use Rattle.std.specs.declared.cmp.Ordering.{Ordering}
use Rattle.std.specs.declared.cmp.Ordering.TheVariants.{Less, Equal}
use Rattle.std.proofs.lemmas.Bool.{cases_Bool, false≢true, and_from, or_parts}
use Rattle.std.proofs.lemmas.Cmp.{tied_itself}
use Rattle.std.proofs.lemmas.List.Kept.{IsStrictlySortedBy-filter}
use Rattle.bx_tree.specs.Paths.{Atoms, IsPath, has_path, path_cmp, same_path}
use Rattle.bx_tree.specs.Orders.{path_cmp_total, same_path_decides}
use Rattle.bx_tree.specs.Trees.{Files, IsTree, paths_of}
use Rattle.dscript_ast.specs.ExprTree.{ExprTree}
use Rattle.dscript_ast.specs.FileTree as trees
use Rattle.dscript_names_workspace.specs.Configs.{module_files, modules_list, resolver_at, resolvers, resolvers_list}
use Rattle.dscript_names_workspace.specs.Lists.{ItemTree, One, Many, files_listed, items_of, concat_if_all, listed_by}
use Rattle.dscript_names_workspace.specs.Modules.{DescriptionData, described}
use Rattle.dscript_names_workspace.specs.Paths.{in_tree, is_empty, is_module_file, is_specification}
use Rattle.bx_tree.specs.Below.{is_below}
use Rattle.bx_tree.proofs.BelowPaths.{below_decides}
use Rattle.bx_tree.specs.Members.{Has}
use Rattle.bx_tree.proofs.Members.{none_passes, has_front, has_last}
use Rattle.dscript_program.specs.SpecFaults.{FaultData}
use Rattle.dscript_program.specs.Workspaces.{ModuleData}
use Rattle.dscript_parse.specs.Reading.{Reading, Read, NoTokens, NoFile}
use Rattle.dscript_names_workspace.specs.Membership.{dir_of, files_of_module, implied_files, is_between, is_config, is_deeper, is_implied}
use Rattle.dscript_names_workspace.specs.ModuleLaws.{ShareNoFile, ShareNone}
use Rattle.dscript_names_workspace.specs.Workspaces.{Found, ModuleFile, Described, Faulty, module_file_fault, file_fault, has_file, implies_file}
use Rattle.dscript_names_workspace.specs.Workspaces.{configuration_fault, is_taken, module_in, modules, option_or}
use Rattle.dscript_names_workspace.specs.Finding.{Finds, IsModuleFile, main_module, module_described, module_file}
use Rattle.dscript_names_workspace.proofs.Deepest.{comparable}
use Rattle.dscript_names_workspace.proofs.FoundModules.{IsListed, found_from}
use Rattle.dscript_names_workspace.proofs.ModuleDirs.{same_dir}
use Rattle.dscript_names_workspace.proofs.ModuleSources.{kept_is}

-- ## Tests of lists

none_of : (test : Atoms → Bool) (paths : List Atoms) (path : Atoms) → list_any test paths ≡ false
    → has_path paths path ≡ true → test path ≡ false
none_of test [] path e h = absurd (false≢true h)
none_of test (p ∷ ps) path e h = elim (cases_Bool (same_path p path)) [
  | inl same ↦ ap test (sym ((same_path_decides p path).0 same)) ∙ (or_parts (test p) (list_any test ps) e).0
  | inr differ ↦
      none_of test ps path (or_parts (test p) (list_any test ps) e).1 (sym (ap (λ b. b || has_path ps path) differ) ∙ h)
]

some_of : (test : Atoms → Bool) (paths : List Atoms) (path : Atoms) → has_path paths path ≡ true → test path ≡ true
    → list_any test paths ≡ true
some_of test [] path h t = absurd (false≢true h)
some_of test (p ∷ ps) path h t = elim (cases_Bool (same_path p path)) [
  | inl same ↦ ap (λ b. b || list_any test ps) (ap test ((same_path_decides p path).0 same) ∙ t)
  | inr differ ↦
      ap (λ b. test p || b) (some_of test ps path (sym (ap (λ b. b || has_path ps path) differ) ∙ h) t) ∙ or_true (test p)
]
  where
    or_true : (b : Bool) → (b || true) ≡ true
    or_true true = refl
    or_true false = refl

-- ## Module files without a clash

-- a module that lists its files lists none that is taken
abbrev IsFree : (Atoms → Bool) → ModuleFile → Type 0
IsFree taken (Described m true) = list_any taken m.files ≡ false
IsFree taken (Described m false) = Unit {0}
IsFree taken (Faulty fault) = Unit {0}

free_listed : (b : Bool) (fault : FaultData) (later : Option FaultData)
    → option_or (cond b (Some fault) None) later ≡ None → (b ≡ false) × (later ≡ None)
free_listed true fault later e = cc
free_listed false fault later e = (refl, e)

free_from : (taken : Atoms → Bool) (m : ModuleFile) (later : Option FaultData) → option_or (module_file_fault taken m) later ≡ None
    → IsFree taken m × (later ≡ None)
free_from taken (Faulty fault) later e = cc
free_from taken (Described m true) later e = free_listed (list_any taken m.files) (configuration_fault m.config) later e
free_from taken (Described m false) later e = (tt, e)

-- a module that lists no files has the implied ones
abbrev IsImplied : Files → List Atoms → Atoms → ModuleFile → Type 0
IsImplied files dirs path (Described m true) = Unit {0}
IsImplied files dirs path (Described m false) = m.files ≡ implied_files files dirs (dir_of path)
IsImplied files dirs path (Faulty fault) = Unit {0}

projects_implied : (files : Files) (dirs : List Atoms) (path : Atoms) (name : List ℕ) (projects : Option (List Atoms))
    → IsImplied files dirs path (module_described files (implied_files files dirs (dir_of path)) path
    (record { name = name; projects = projects }))
projects_implied files dirs path name None = refl
projects_implied files dirs path name (Some paths) = tt

description_implied : (files : Files) (dirs : List Atoms) (path : Atoms) (o : Option DescriptionData)
    → IsImplied files dirs path (option_map_or (module_described files (implied_files files dirs (dir_of path)) path) o
    (Faulty (configuration_fault path)))
description_implied files dirs path None = tt
description_implied files dirs path (Some d) = projects_implied files dirs path d.name d.projects

reading_implied : (files : Files) (dirs : List Atoms) (path : Atoms) (reading : Reading)
    → IsImplied files dirs path (module_file files (implied_files files dirs (dir_of path)) path reading)
reading_implied files dirs path (NoTokens place) = tt
reading_implied files dirs path (NoFile place) = tt
reading_implied files dirs path (Read (trees.Project items)) = tt
reading_implied files dirs path (Read (trees.Config e)) = tt
reading_implied files dirs path (Read (trees.Module e)) = description_implied files dirs path (described files (dir_of path) e)

file_implied : (files : Files) (dirs : List Atoms) (path : Atoms) (m : ModuleFile) → IsModuleFile files dirs path m
    → IsImplied files dirs path m
file_implied files dirs path m h =
    subst (IsImplied files dirs path) (sym h.2.2) (reading_implied files dirs path h.2.0)

-- ## Two implied modules

below_first : (below spec config own deeper : Bool) → (below && spec && config && own && not deeper) ≡ true
    → (below ≡ true) × (deeper ≡ false)
below_first true true true true false e = (refl, refl)
below_first true true true true true e = cc
below_first true true true false d e = cc
below_first true true false o d e = cc
below_first true false c o d e = cc
below_first false s c o d e = cc

not_both : (dirs : List Atoms) (d e path : Atoms) → has_path dirs d ≡ true → has_path dirs e ≡ true → (d ≡ e → ⊥)
    → is_implied dirs d path ≡ true → is_implied dirs e path ≡ true → ⊥
not_both dirs d e path h k apart i j =
    let a = below_first (is_below path d) (is_specification path) (not (is_config path)) (not (is_module_file path)) (is_deeper dirs d path) i in
    let b = below_first (is_below path e) (is_specification path) (not (is_config path)) (not (is_module_file path)) (is_deeper dirs e path) j in
    let above = (below_decides path d).0 a.0 in
    let above' = (below_decides path e).0 b.0 in
    elim (comparable path d e above.0 above'.0 above.2 above'.2) [
      | inl same ↦ apart same
      | inr other ↦ elim other [
        | inl under ↦
            false≢true (sym b.1 ∙ some_of (is_between e path) dirs d h
            (and_from (is_below d e) (is_below path d) ((below_decides d e).1 under) a.0))
        | inr over ↦
            false≢true (sym a.1 ∙ some_of (is_between d path) dirs e k
            (and_from (is_below e d) (is_below path e) ((below_decides e d).1 over) b.0))
      ]
    ]

-- ## Two modules

abbrev Apart : ModuleFile → ModuleFile → Type 0
Apart (Described m lists) (Described n other) = ShareNoFile m n
Apart (Described m lists) (Faulty fault) = Unit {0}
Apart (Faulty fault) other = Unit {0}

implied_at : (files : Files) (dirs : List Atoms) (path file : Atoms) (m : ModuleData) → m.files ≡ implied_files files dirs (dir_of path)
    → has_path m.files file ≡ true → is_implied dirs (dir_of path) file ≡ true
implied_at files dirs path file m e h =
    kept_is (is_implied dirs (dir_of path)) (paths_of files) file (ap (λ ps. has_path ps file) (sym e) ∙ h)

two_apart : (files : Files) (dirs : List Atoms) (all prefix before : List ModuleFile) (p q : Atoms) (m n : ModuleFile)
    → IsFree (is_taken all prefix) m → IsFree (is_taken all before) n → Has before m → Has all n
    → IsImplied files dirs p m → IsImplied files dirs q n → has_path dirs (dir_of p) ≡ true
    → has_path dirs (dir_of q) ≡ true → (dir_of p ≡ dir_of q → ⊥) → Apart m n
two_apart files dirs all prefix before p q (Faulty fault) n f g i j a b h k d = tt
two_apart files dirs all prefix before p q (Described m lists) (Faulty fault) f g i j a b h k d = tt
two_apart files dirs all prefix before p q (Described m lists) (Described n true) f g i j a b h k d = λ file t.
    elim (cases_Bool (has_path n.files file)) [
      | inl yes' ↦
          let free = none_of (is_taken all before) n.files file g yes' in
          let own = none_passes (has_file file) before (Described m lists)
          (or_parts (list_any (has_file file) before) (list_any (implies_file file) all) free).0 i in
          absurd (false≢true (sym own ∙ t))
      | inr none ↦ none
    ]
two_apart files dirs all prefix before p q (Described m true) (Described n false) f g i j a b h k d = λ file t.
    none_passes (implies_file file) all (Described n false)
    (or_parts (list_any (has_file file) prefix) (list_any (implies_file file) all) (none_of (is_taken all prefix) m.files file f t)).1 j
two_apart files dirs all prefix before p q (Described m false) (Described n false) f g i j a b h k d = λ file t.
    elim (cases_Bool (has_path n.files file)) [
      | inl yes' ↦
          absurd (not_both dirs (dir_of p) (dir_of q) file h k d (implied_at files dirs p file m a t)
          (implied_at files dirs q file n b yes'))
      | inr none ↦ none
    ]

-- ## All modules

-- each is in another directory than those after it
abbrev HaveOwnDirs : List Atoms → Type 0
HaveOwnDirs [] = Unit {0}
HaveOwnDirs (p ∷ ps) = AllByRecursion (λ q. dir_of p ≡ dir_of q → ⊥) ps × HaveOwnDirs ps

abbrev AllApart : List ModuleFile → Type 0
AllApart [] = Unit {0}
AllApart (m ∷ ms) = AllByRecursion (Apart m) ms × AllApart ms

later_apart : (files : Files) (dirs : List Atoms) (all prefix before : List ModuleFile) (p : Atoms) (m : ModuleFile)
    (paths : List Atoms) (rest : List ModuleFile) → IsFree (is_taken all prefix) m → Has before m → IsImplied files dirs p m
    → has_path dirs (dir_of p) ≡ true → AllByRecursion (λ q. dir_of p ≡ dir_of q → ⊥) paths
    → AllByRecursion (λ q. has_path dirs (dir_of q) ≡ true) paths → AllZip (IsImplied files dirs) paths rest
    → file_fault all before rest ≡ None → ((n : ModuleFile) → Has rest n → Has all n) → AllByRecursion (Apart m) rest
later_apart files dirs all prefix before p m [] [] f i a h d w z e into = tt
later_apart files dirs all prefix before p m [] (n ∷ ns) f i a h d w z e into = absurd z
later_apart files dirs all prefix before p m (q ∷ qs) [] f i a h d w z e into = tt
later_apart files dirs all prefix before p m (q ∷ qs) (n ∷ ns) f i a h d w z e into =
    let free = free_from (is_taken all before) n (file_fault all (before ++ n ∷ []) ns) e in (
      two_apart files dirs all prefix before p q m n f free.0 i (into n (inl refl)) a z.0 h w.0 d.0,
      later_apart files dirs all prefix (before ++ n ∷ []) p m qs ns f (has_front before (n ∷ []) m i) a h d.1 w.1 z.1 free.1
          (λ x k. into x (inr k)),
    )

all_apart : (files : Files) (dirs : List Atoms) (all before : List ModuleFile) (paths : List Atoms) (rest : List ModuleFile)
    → HaveOwnDirs paths → AllByRecursion (λ q. has_path dirs (dir_of q) ≡ true) paths
    → AllZip (IsImplied files dirs) paths rest → file_fault all before rest ≡ None
    → ((n : ModuleFile) → Has rest n → Has all n) → AllApart rest
all_apart files dirs all before [] [] d w z e into = tt
all_apart files dirs all before [] (m ∷ ms) d w z e into = absurd z
all_apart files dirs all before (p ∷ ps) [] d w z e into = tt
all_apart files dirs all before (p ∷ ps) (m ∷ ms) d w z e into =
    let free = free_from (is_taken all before) m (file_fault all (before ++ m ∷ []) ms) e in (
      later_apart files dirs all before (before ++ m ∷ []) p m ps ms free.0 (has_last before m) z.0 w.0 d.0 w.1 z.1 free.1
          (λ x k. into x (inr k)),
      all_apart files dirs all (before ++ m ∷ []) ps ms d.1 w.1 z.1 free.1 (λ x k. into x (inr k)),
    )

put_shared : (m : ModuleData) (lists : Bool) (n : ModuleFile) (ns : List ModuleData) → Apart (Described m lists) n
    → AllByRecursion (ShareNoFile m) ns → AllByRecursion (ShareNoFile m) (cons_option (module_in n) ns)
put_shared m lists (Described n other) ns h k = (h, k)
put_shared m lists (Faulty fault) ns h k = k

one_shared : (m : ModuleData) (lists : Bool) (ns : List ModuleFile) → AllByRecursion (Apart (Described m lists)) ns
    → AllByRecursion (ShareNoFile m) (modules ns)
one_shared m lists [] h = tt
one_shared m lists (n ∷ ns) h = put_shared m lists n (modules ns) h.0 (one_shared m lists ns h.1)

put_all : (m : ModuleFile) (ms : List ModuleFile) → AllByRecursion (Apart m) ms → ShareNone (modules ms)
    → ShareNone (cons_option (module_in m) (modules ms))
put_all (Described m lists) ms h k = (one_shared m lists ms h, k)
put_all (Faulty fault) ms h k = k

share_none : (ms : List ModuleFile) → AllApart ms → ShareNone (modules ms)
share_none [] h = tt
share_none (m ∷ ms) h = put_all m ms h.0 (share_none ms h.1)

zipped : (files : Files) (dirs paths : List Atoms) (ms : List ModuleFile) → AllZip (IsModuleFile files dirs) paths ms
    → AllZip (IsImplied files dirs) paths ms
zipped files dirs [] [] h = tt
zipped files dirs [] (m ∷ ms) h = absurd h
zipped files dirs (p ∷ ps) [] h = absurd h
zipped files dirs (p ∷ ps) (m ∷ ms) h = (file_implied files dirs p m h.0, zipped files dirs ps ms h.1)

-- ## The directories of listed module files

dir_among : (paths others : List Atoms) → ((path : Atoms) → has_path paths path ≡ true → has_path others path ≡ true)
    → AllByRecursion (λ q. has_path (map dir_of others) (dir_of q) ≡ true) paths
dir_among [] others f = tt
dir_among (p ∷ ps) others f = (
  mapped others p (f p (ap (λ b. b || has_path ps p) ((same_path_decides p p).1 refl))),
  dir_among ps others (λ path h. f path (ap (λ b. same_path p path || b) h ∙ or_true (same_path p path))),
)
  where
    or_true : (b : Bool) → (b || true) ≡ true
    or_true true = refl
    or_true false = refl

    mapped : (paths : List Atoms) (path : Atoms) → has_path paths path ≡ true → has_path (map dir_of paths) (dir_of path) ≡ true
    mapped [] path h = absurd (false≢true h)
    mapped (p ∷ ps) path h = elim (cases_Bool (same_path p path)) [
      | inl same ↦
          ap (λ b. b || has_path (map dir_of ps) (dir_of path))
          ((same_path_decides (dir_of p) (dir_of path)).1 (ap dir_of ((same_path_decides p path).0 same)))
      | inr differ ↦
          ap (λ b. same_path (dir_of p) (dir_of path) || b) (mapped ps path (sym (ap (λ b. b || has_path ps path) differ) ∙ h))
          ∙ or_true (same_path (dir_of p) (dir_of path))
    ]

abbrev AreModuleFiles : List Atoms → Type 0
AreModuleFiles paths = AllByRecursion (λ path. IsPath path × (is_module_file path ≡ true)) paths

not_less : (p q : Atoms) → path_cmp p q ≡ Less → p ≡ q → ⊥
not_less p q l e = let h : Equal ≡ Less = sym (tied_itself path_cmp_total p) ∙ ap (path_cmp p) e ∙ l in cc

differ_after : (p : Atoms) (qs : List Atoms) → IsPath p → is_module_file p ≡ true → AreModuleFiles qs
    → AllByRecursion (λ q. path_cmp p q ≡ Less) qs → AllByRecursion (λ q. dir_of p ≡ dir_of q → ⊥) qs
differ_after p [] h m k l = tt
differ_after p (q ∷ qs) h m k l = (
  λ e. not_less p q l.0 (same_dir p q h k.0.0 m k.0.1 e),
  differ_after p qs h m k.1 l.1,
)

own_dirs : (paths : List Atoms) → AreModuleFiles paths → IsStrictlySortedBy path_cmp paths → HaveOwnDirs paths
unfolding IsStrictlySortedBy
own_dirs [] h s = tt
own_dirs (p ∷ ps) h s = (differ_after p ps h.0.0 h.0.1 h.1 s.0, own_dirs ps h.1 s.1)

-- ## What a configuration lists is named so

all_joined : (t : Atoms → Bool) (xs ys : List Atoms) → list_all t xs ≡ true → list_all t ys ≡ true → list_all t (xs ++ ys) ≡ true
all_joined t [] ys h k = k
all_joined t (x ∷ xs) ys h k =
    and_from (t x) (list_all t (xs ++ ys)) (first (t x) (list_all t xs) h) (all_joined t xs ys (rest (t x) (list_all t xs) h) k)
  where
    first : (a b : Bool) → (a && b) ≡ true → a ≡ true
    first true b e = refl
    first false b e = cc

    rest : (a b : Bool) → (a && b) ≡ true → b ≡ true
    rest true b e = e
    rest false b e = cc

abbrev Named : Option (List Atoms) → Type 0
Named None = Unit {0}
Named (Some paths) = list_all is_module_file paths ≡ true

named_append : (o p : Option (List Atoms)) → Named o → Named p → Named (option_and_then (λ ys. option_map (λ more. ys ++ more) p) o)
named_append None p h k = tt
named_append (Some xs) None h k = tt
named_append (Some xs) (Some ys) h k = all_joined is_module_file xs ys h k

named_joined : {X : Type 0} (f : X → Option (List Atoms)) → ((x : X) → Named (f x)) → (xs : List X) → Named (concat_if_all f xs)
named_joined f h [] = refl
named_joined f h (x ∷ xs) = named_append (f x) (concat_if_all f xs) (h x) (named_joined f h xs)

named_tested : (o : Option (List Atoms))
    → Named (option_and_then (λ paths. cond (list_all is_module_file paths) (Some paths) None) o)
named_tested None = tt
named_tested (Some paths) = step paths (list_all is_module_file paths) refl
  where
    step : (paths : List Atoms) (b : Bool) → list_all is_module_file paths ≡ b → Named (cond b (Some paths) None)
    step paths true e = e
    step paths false e = tt

named_nothing : (o : Option (List Atoms)) → Named (option_and_then (λ paths. cond (is_empty paths) (Some []) None) o)
named_nothing None = tt
named_nothing (Some []) = refl
named_nothing (Some (p ∷ ps)) = tt

named_then : (files : Files) (o : Option ExprTree) → Named (option_and_then (module_files files) o)
named_then files None = tt
named_then files (Some e) = named_tested (files_listed files [] e)

named_item : (files : Files) (item : ItemTree) → Named (resolver_at files item)
named_item files (One e) = named_then files (modules_list e)
named_item files (Many e) = named_nothing (listed_by files [] e)

named_config : (files : Files) (o : Option ExprTree) → Named (option_and_then (resolvers files) o)
named_config files None = tt
named_config files (Some list) = named_joined (resolver_at files) (named_item files) (items_of list)

one_all : (t : Atoms → Bool) (paths : List Atoms) (path : Atoms) → list_all t paths ≡ true → has_path paths path ≡ true → t path ≡ true
one_all t [] path h k = absurd (false≢true k)
one_all t (p ∷ ps) path h k = elim (cases_Bool (t p)) [
  | inl yes' ↦ elim (cases_Bool (same_path p path)) [
    | inl same ↦ ap t (sym ((same_path_decides p path).0 same)) ∙ yes'
    | inr differ ↦
        one_all t ps path (sym (ap (λ b. b && list_all t ps) yes') ∙ h) (sym (ap (λ b. b || has_path ps path) differ) ∙ k)
  ]
  | inr none ↦ absurd (false≢true (sym (ap (λ b. b && list_all t ps) none) ∙ h))
]

listed_named : (said paths : List Atoms) → list_all is_module_file said ≡ true → AllByRecursion IsPath paths
    → AreModuleFiles (filter (has_path said) paths)
listed_named said [] t h = tt
listed_named said (p ∷ ps) t h = step said (has_path said p) p ps refl t h.0 (listed_named said ps t h.1)
  where
    step : (said : List Atoms) (b : Bool) (p : Atoms) (ps : List Atoms) → has_path said p ≡ b
        → list_all is_module_file said ≡ true → IsPath p → AreModuleFiles (filter (has_path said) ps)
        → AreModuleFiles (cond b (p ∷ filter (has_path said) ps) (filter (has_path said) ps))
    step said true p ps e t h k = ((h, one_all is_module_file said p t e), k)
    step said false p ps e t h k = k

listed_share : (files : Files) (ms : List ModuleData) → IsTree files → IsListed files ms → ShareNone ms
listed_share files ms tree h =
    let listed = in_tree files h.said in
    let named = subst Named h.says (named_config files (resolvers_list h.config)) in
    subst ShareNone (sym h.are) (share_none h.module_files
    (all_apart files (map dir_of listed) h.module_files [] listed h.module_files
    (own_dirs listed (listed_named h.said (paths_of files) named tree.paths)
    (IsStrictlySortedBy-filter path_cmp (has_path h.said) (paths_of files) tree.rising))
    (dir_among listed listed (λ path k. k)) (zipped files (map dir_of listed) listed h.module_files h.read)
    h.no_file_fault (λ n k. k)))

pub share_none_of : (files : Files) (ms : List ModuleData) → IsTree files → Finds files (Found ms) → ShareNone ms
share_none_of files ms tree h = elim (found_from files ms h) [
  | inl main ↦ subst ShareNone (sym main.is) (tt, tt)
  | inr listed ↦ listed_share files ms tree listed
]
