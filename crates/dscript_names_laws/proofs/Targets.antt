-- What a name stands for is there: a local of the blocks, a value that is declared, or an ambient call.
use Rattle.std.proofs.Common.{◌≡◌, ℕ, zero, suc, ◌+◌, ◌==◌, Bool, true, false, ◌&&◌, cond, List, [], ◌∷◌, ◌++◌, length, reverse, Option, Some, None}
use Rattle.std.proofs.Common.{Result, Ok, Err, refl, sym, ap, ◌∙◌, subst, arith, append_assoc}
use Rattle.std.specs.Prelude.{IsSomeAnd, find, ok_or, option_map, slice_get}
use Rattle.std.specs.List.{AllByRecursion, position_from}
use Rattle.std.specs.Option.{option_or}
use Rattle.std.specs.Str.{bytes_eq}
use Rattle.dscript_ast.specs.ExprTree as tree
use Rattle.dscript_ast.specs.ExprTree.{PartTrees}
use Rattle.dscript_ast.specs.declared.file.Mark.{Mark}
use Rattle.dscript_program.specs.ProgramData.{Dotted}
use Rattle.dscript_program.specs.Workspaces.{sdk_name}
use Rattle.dscript_program.specs.declared.ambient.Ambient.{Ambient as AmbientCall}
use Rattle.dscript_program.specs.declared.target.Target.{Target}
use Rattle.dscript_program.specs.declared.target.Target.TheVariants as targets
use Rattle.dscript_program.specs.declared.spec_fault.SpecKind.{SpecKind}
use Rattle.dscript_program.specs.declared.spec_fault.SpecKind.TheVariants as faults
use Rattle.dscript_names_scopes.specs.Blocks.{Block}
use Rattle.dscript_names_scopes.specs.Declarations.{is_any, is_exported, is_public}
use Rattle.dscript_names_scopes.specs.Lookup.{Level, Site, after_import, ambient_of, beginnings, first_level, found_at, found_outside, in_blocks, in_import_call, in_imports, in_module, in_namespaces, in_other_module, in_own_module, is_sdk_namespace, is_value_of, known, local_in, members_at, module_number, named_import, one_string, result_of_level, sdk_call, sdk_found, shortest, through_import, value_in, value_of_module}
use Rattle.dscript_names_scopes.specs.Names.{FileNames, World}
use Rattle.dscript_names_scopes.specs.declared.found.Found.{Found}
use Rattle.dscript_names_scopes.specs.declared.local.Local.{Local}
use Rattle.dscript_names_scopes.specs.declared.names.Declared.{Declared}
use Rattle.dscript_names_scopes.specs.declared.names.Imported.{Imported}

-- ## Locals of blocks

abbrev pub AllNumbers : (ℕ → Type 0) → List Local → Type 0
AllNumbers P locals = AllByRecursion (λ (l : Local). (n : ℕ) → l.number ≡ Some n → P n) locals

abbrev pub InBlocks : (ℕ → Type 0) → List Block → Type 0
InBlocks P blocks = AllByRecursion (λ (b : Block). AllNumbers P b.locals) blocks

-- ## Targets

-- the declaration of this number in the file of this number is a value
abbrev pub IsDeclaredValue : World → ℕ → ℕ → Type 0
IsDeclaredValue world file decl =
    IsSomeAnd (slice_get world.files file)
    (λ (f : FileNames). IsSomeAnd (slice_get f.decls decl) (λ (d : Declared). d.is_value ≡ true))

abbrev pub IsTarget : World → (ℕ → Type 0) → Target → Type 0
IsTarget world P (targets.Local n) = P n
IsTarget world P (targets.Declared file decl) = IsDeclaredValue world file decl
IsTarget world P (targets.Ambient call) = Unit {0}

-- places in lists

pub one_longer : {X : Type 0} (front : List X) (x : X) (n : ℕ) → length front ≡ n → length (front ++ x ∷ []) ≡ n + 1
one_longer [] x zero e = refl
one_longer [] x (suc n) e = absurd (omega (arith, e))
one_longer (y ∷ front) x zero e = absurd (omega (arith, e))
one_longer (y ∷ front) x (suc n) e = let more : length (front ++ x ∷ []) ≡ n + 1 = one_longer front x n (omega (arith, e)) in omega (arith, more)

at_next : {X : Type 0} (P : X → Type 0) (front : List X) (x : X) (rest : List X) (n : ℕ) → length front ≡ n → P x
    → IsSomeAnd (slice_get (front ++ x ∷ rest) n) P
at_next P [] x rest zero e h = h
at_next P [] x rest (suc n) e h = absurd (omega (arith, e))
at_next P (y ∷ front) x rest zero e h = absurd (omega (arith, e))
at_next P (y ∷ front) x rest (suc n) e h = at_next P front x rest n (omega (arith, e)) h

pub get_at : {X : Type 0} (front : List X) (x : X) (rest : List X) (n : ℕ) → length front ≡ n → slice_get (front ++ x ∷ rest) n ≡ Some x
get_at [] x rest zero e = refl
get_at [] x rest (suc n) e = absurd (omega (arith, e))
get_at (y ∷ front) x rest zero e = absurd (omega (arith, e))
get_at (y ∷ front) x rest (suc n) e = get_at front x rest n (omega (arith, e))

abbrev IfPlace : {X : Type 0} → (X → Type 0) → List X → Option ℕ → Type 0
IfPlace P all None = Unit {0}
IfPlace P all (Some n) = IsSomeAnd (slice_get all n) P

placed : {X : Type 0} (P : X → Type 0) (all : List X) (b : Bool) (n : ℕ) (rest : Option ℕ)
    → (b ≡ true → IsSomeAnd (slice_get all n) P) → IfPlace P all rest → IfPlace P all (cond b (Some n) rest)
placed P all true n rest here later = here refl
placed P all false n rest here later = later

position_at : {X : Type 0} (P : X → Type 0) (test : X → Bool) → ((x : X) → test x ≡ true → P x) → (all front xs : List X) (n : ℕ)
    → all ≡ front ++ xs → length front ≡ n → IfPlace P all (position_from test n xs)
position_at P test passes all front [] n is e = tt
position_at P test passes all front (x ∷ xs) n is e =
    placed P all (test x) n (position_from test (n + 1) xs)
    (λ t. subst (λ ys. IsSomeAnd (slice_get ys n) P) (sym is) (at_next P front x xs n e (passes x t)))
    (position_at P test passes all (front ++ x ∷ []) xs (n + 1) (is ∙ sym (append_assoc front (x ∷ []) xs)) (one_longer front x n e))

first_true : (a b c : Bool) → (a && b && c) ≡ true → a ≡ true
first_true true b c e = refl
first_true false b c e = absurd cc

module _ (world : World) (P : ℕ → Type 0) where
  abbrev Good : Target → Type 0
  Good = IsTarget world P

  abbrev IfTarget : Option Target → Type 0
  IfTarget None = Unit {0}
  IfTarget (Some t) = Good t

  abbrev IfFound : Option Found → Type 0
  IfFound None = Unit {0}
  IfFound (Some f) = Good f.target

  abbrev pub IfOkFound : Result Found SpecKind → Type 0
  IfOkFound (Ok f) = Good f.target
  IfOkFound (Err kind) = Unit {0}

  abbrev IfLevel : Level → Type 0
  IfLevel None = Unit {0}
  IfLevel (Some r) = IfOkFound r

  or_found : (a b : Option Found) → IfFound a → IfFound b → IfFound (option_or a b)
  or_found None b h k = k
  or_found (Some f) b h k = h

  or_target : (a b : Option Target) → IfTarget a → IfTarget b → IfTarget (option_or a b)
  or_target None b h k = k
  or_target (Some t) b h k = h

  or_level : (a b : Level) → IfLevel a → IfLevel b → IfLevel (option_or a b)
  or_level None b h k = k
  or_level (Some r) b h k = h

  with_parts : (parts : ℕ) (o : Option Target) → IfTarget o
      → IfFound (option_map (λ (t : Target). let f : Found = record { target = t; parts = parts } in f) o)
  with_parts parts None h = tt
  with_parts parts (Some t) h = h

  as_level : (o : Option Found) → IfFound o → IfLevel (option_map Ok o)
  as_level None h = tt
  as_level (Some f) h = h

  ok_found : (o : Option Found) (kind : SpecKind) → IfFound o → IfOkFound (ok_or o kind)
  ok_found None kind h = tt
  ok_found (Some f) kind h = h

  shortest_found : (target_of : Dotted → Option Target) → ((d : Dotted) → IfTarget (target_of d)) → (parts : ℕ) (before names : Dotted)
      → IfFound (shortest target_of parts before names)
  shortest_found target_of gives parts before [] = tt
  shortest_found target_of gives parts before (x ∷ names) =
      or_found _ (shortest target_of (parts + 1) (before ++ x ∷ []) names)
      (with_parts parts (target_of (before ++ x ∷ [])) (gives (before ++ x ∷ [])))
      (shortest_found target_of gives (parts + 1) (before ++ x ∷ []) names)

  -- ## Blocks

  known_found : (o : Option ℕ) → ((n : ℕ) → o ≡ Some n → P n) → IfOkFound (known o)
  known_found None h = tt
  known_found (Some n) h = h n refl

  abbrev number_of : Local → Result Found SpecKind
  number_of l = known l.number

  by_test : (b : Bool) (l : Local) (rest : Option Local) → ((n : ℕ) → l.number ≡ Some n → P n) → IfLevel (option_map number_of rest)
      → IfLevel (option_map number_of (cond b (Some l) rest))
  by_test true l rest h k = known_found l.number h
  by_test false l rest h k = k

  local_found : (test : Local → Bool) (ls : List Local) → AllNumbers P ls → IfLevel (option_map number_of (find test ls))
  local_found test [] h = tt
  local_found test (l ∷ ls) h = by_test (test l) l (find test ls) h.0 (local_found test ls h.1)

  blocks_found : (blocks : List Block) (x : List ℕ) → InBlocks P blocks → IfLevel (in_blocks blocks x)
  blocks_found [] x h = tt
  blocks_found (b ∷ bs) x h =
      or_level (option_map number_of (local_in x b)) (in_blocks bs x) (local_found (λ l. bytes_eq l.name x) b.locals h.0) (blocks_found bs x h.1)

  -- ## Declarations

  value_placed : (sees : Mark → Bool) (file : FileNames) (name : Dotted)
      → IfPlace (λ (d : Declared). d.is_value ≡ true) file.decls (value_in sees file name)
  value_placed sees file name =
      position_at (λ (d : Declared). d.is_value ≡ true) (is_value_of sees name) (λ d t. first_true d.is_value _ _ t) file.decls [] file.decls 0 refl refl

  declared_found : (n : ℕ) (file : FileNames) → slice_get world.files n ≡ Some file → (o : Option ℕ)
      → IfPlace (λ (d : Declared). d.is_value ≡ true) file.decls o → IfTarget (option_map (targets.Declared n) o)
  declared_found n file is None h = tt
  declared_found n file is (Some decl) h =
      subst (λ (f : Option FileNames). IsSomeAnd f (λ (f : FileNames). IsSomeAnd (slice_get f.decls decl) (λ (d : Declared). d.is_value ≡ true))) (sym is) h

  namespaces_found : (n : ℕ) (file : FileNames) → slice_get world.files n ≡ Some file → (dirs : List Dotted) (written : Dotted)
      → IfFound (in_namespaces n file dirs written)
  namespaces_found n file is [] written = tt
  namespaces_found n file is (around ∷ outer) written =
      or_found _ (in_namespaces n file outer written)
      (shortest_found (λ d. option_map (targets.Declared n) (value_in is_any file d))
      (λ d. declared_found n file is (value_in is_any file d) (value_placed is_any file d)) 0 around written)
      (namespaces_found n file is outer written)

  if_own : (b : Bool) (o : Option Target) → IfTarget o → IfTarget (cond b o None)
  if_own true o h = h
  if_own false o h = tt

  module_found : (sees : Mark → Bool) (m n : ℕ) (front files : List FileNames) (name : Dotted) → world.files ≡ front ++ files → length front ≡ n
      → IfTarget (value_of_module sees m n files name)
  module_found sees m n front [] name is e = tt
  module_found sees m n front (file ∷ files) name is e =
      or_target (cond (file.module_number == m) (option_map (targets.Declared n) (value_in sees file name)) None) (value_of_module sees m (n + 1) files name)
      (if_own (file.module_number == m) (option_map (targets.Declared n) (value_in sees file name))
      (declared_found n file (ap (λ fs. slice_get fs n) is ∙ get_at front file files n e) (value_in sees file name) (value_placed sees file name)))
      (module_found sees m (n + 1) (front ++ file ∷ []) files name (is ∙ sym (append_assoc front (file ∷ []) files)) (one_longer front file n e))

  of_module : (sees : Mark → Bool) (m parts : ℕ) (names : Dotted) → IfFound (shortest (value_of_module sees m 0 world.files) parts [] names)
  of_module sees m parts names =
      shortest_found (value_of_module sees m 0 world.files) (λ d. module_found sees m 0 [] world.files d refl refl) parts [] names

  if_public : (o hidden : Option Found) → IfFound o
      → IfOkFound (elim o [
        | Some found ↦ Ok found
        | None ↦ elim hidden [ Some other ↦ Err faults.NotPublic | None ↦ Err faults.UnknownName ]
      ])
  if_public (Some found) hidden h = h
  if_public None (Some other) h = tt
  if_public None None h = tt

  other_found : (m parts : ℕ) (names : Dotted) → IfOkFound (in_other_module world m parts names)
  other_found m parts names =
      if_public (shortest (value_of_module is_public m 0 world.files) parts [] names) (shortest (value_of_module is_any m 0 world.files) parts [] names)
      (of_module is_public m parts names)

  ambient_found : (o : Option AmbientCall) → IfTarget (option_map targets.Ambient o)
  ambient_found None = tt
  ambient_found (Some call) = tt

  call_found : (name : Dotted) → IfTarget (ambient_of name)
  call_found name = ambient_found _

  sdk_target : (name : Dotted) → IfTarget (sdk_call name)
  sdk_target [] = tt
  sdk_target (x ∷ names) = if_own (is_sdk_namespace x) (ambient_of (x ∷ names)) (call_found (x ∷ names))

  if_module : (o : Option ℕ) (parts : ℕ) (names : Dotted)
      → IfOkFound (elim o [ Some m ↦ in_other_module world m parts names | None ↦ Err faults.UnknownModule ])
  if_module (Some m) parts names = other_found m parts names
  if_module None parts names = tt

  if_sdk : (b : Bool) (a c : Result Found SpecKind) → IfOkFound a → IfOkFound c → IfOkFound (cond b a c)
  if_sdk true a c h k = h
  if_sdk false a c h k = k

  in_module_found : (name : List ℕ) (parts : ℕ) (names : Dotted) → IfOkFound (in_module world name parts names)
  in_module_found name parts names =
      if_sdk (bytes_eq name sdk_name) (sdk_found parts names) _
      (ok_found (shortest sdk_call parts [] names) faults.UnknownName (shortest_found sdk_call sdk_target parts [] names))
      (if_module (module_number world name) parts names)

  -- ## Imports

  import_found : (module_name : List ℕ) (original : Option (List ℕ)) (rest : Dotted) → IfOkFound (after_import world module_name original rest)
  import_found module_name None rest = in_module_found module_name 1 rest
  import_found module_name (Some x) rest = in_module_found module_name 0 (x ∷ rest)

  through : (rest : Dotted) (o : Option Imported) → IfLevel (option_map (through_import world rest) o)
  through rest None = tt
  through rest (Some i) = import_found i.module_name i.original rest

  imports_found : (file : FileNames) (written : Dotted) → IfLevel (in_imports world file written)
  imports_found file [] = tt
  imports_found file (x ∷ rest) = through rest (find (λ i. bytes_eq i.name x) file.imports)

  named_found : (o : Option (List ℕ)) (names : Dotted) → IfLevel (named_import world o names)
  named_found (Some name) (x ∷ names) = in_module_found name 2 (x ∷ names)
  named_found (Some name) [] = tt
  named_found None names = tt

  if_call : (b : Bool) (l : Level) → IfLevel l → IfLevel (cond b l None)
  if_call true l h = h
  if_call false l h = tt

  call_import_found : (x : List ℕ) (parts : PartTrees) → IfLevel (in_import_call world x parts)
  call_import_found x (tree.more_parts part parts) = if_call _ (named_import world (one_string part) (members_at parts)) (named_found (one_string part) (members_at parts))
  call_import_found x tree.no_parts = tt

  -- ## All levels

  first_found : (levels : List Level) → AllByRecursion IfLevel levels → IfOkFound (first_level levels)
  first_found [] h = tt
  first_found (None ∷ levels) h = first_found levels h.1
  first_found (Some r ∷ levels) h = h.0

  outside_found : (site : Site) → slice_get world.files site.number ≡ Some site.file → (x : List ℕ) (parts : PartTrees)
      → IfOkFound (found_outside world site x parts)
  unfolding found_outside
  outside_found site is x parts =
      let written = x ∷ members_at parts in
      first_found (
      option_map Ok (in_namespaces site.number site.file (reverse (beginnings site.around)) written)
      ∷ in_imports world site.file written
      ∷ option_map Ok (in_own_module world site.file written)
      ∷ in_import_call world x parts
      ∷ option_map Ok (shortest ambient_of 0 [] written)
      ∷ []
      ) (
        as_level (in_namespaces site.number site.file (reverse (beginnings site.around)) written)
            (namespaces_found site.number site.file is (reverse (beginnings site.around)) written),
        (
          imports_found site.file written,
          (
            as_level (in_own_module world site.file written) (of_module_from is_exported site.file.module_number written),
            (
              call_import_found x parts,
              (as_level (shortest ambient_of 0 [] written) (shortest_found ambient_of call_found 0 [] written), tt),
            ),
          ),
        ),
      )
    where
      of_module_from : (sees : Mark → Bool) (m : ℕ) (names : Dotted) → IfFound (shortest (value_of_module sees m 0 world.files) 0 [] names)
      of_module_from sees m names = of_module sees m 0 names

  by_level : (level : Level) (outwards : Result Found SpecKind) → IfLevel level → IfOkFound outwards → IfOkFound (result_of_level level outwards)
  by_level None outwards h k = k
  by_level (Some found) outwards h k = h

  pub name_found : (site : Site) → slice_get world.files site.number ≡ Some site.file → (blocks : List Block) → InBlocks P blocks → (x : List ℕ)
      (parts : PartTrees) → IfOkFound (found_at world site blocks x parts)
  unfolding found_at
  name_found site is blocks h x parts =
      by_level (in_blocks blocks x) (found_outside world site x parts) (blocks_found blocks x h) (outside_found site is x parts)
