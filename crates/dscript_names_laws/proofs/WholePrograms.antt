-- In a program whose names are resolved, all that is used is there.
use Rattle.std.proofs.Common.{◌≡◌, ℕ, zero, suc, ◌+◌, ◌<◌, Bool, true, false, List, [], ◌∷◌, ◌++◌, length, map, Option, Some, None, Result, Ok, Err, refl, sym, ◌∙◌, ap, subst, inr, arith, append_assoc}
use Rattle.std.specs.Prelude.{IsSomeAnd, option_and_then, option_map, slice_get, ⊤}
use Rattle.std.specs.List.{AllByRecursion, flat_map}
use Rattle.std.proofs.lemmas.List.{length-append}
use Rattle.std.proofs.lemmas.Option.{slice_get_within}
use Rattle.bx_tree.specs.Paths.{Atoms}
use Rattle.bx_tree.specs.Members.{Has}
use Rattle.bx_tree.proofs.Lists.{all_append, all_weaker}
use Rattle.dscript_ast.specs.ExprTree.{to_stmts}
use Rattle.dscript_ast.specs.FileTree as file
use Rattle.dscript_ast.specs.FileTree.{MarkedTree, DeclTree, MarkedTrees, ImportTree, ItemTree, Marked}
use Rattle.dscript_ast.specs.TypeTree.{TypeTree}
use Rattle.dscript_ast.specs.declared.file.Mark.{Mark}
use Rattle.dscript_program.specs.BoundTree.{ExprData}
use Rattle.dscript_program.specs.ProgramData as declares
use Rattle.dscript_program.specs.ProgramData.{Dotted, DeclData, FileData, FunctionData, KindData, ProgramData}
use Rattle.dscript_program.specs.SpecFaults.{FaultData}
use Rattle.dscript_program.specs.Workspaces.{ModuleData}
use Rattle.dscript_program.specs.declared.spec_fault.SpecKind.{SpecKind}
use Rattle.dscript_program.specs.declared.target.Target.TheVariants as targets
use Rattle.dscript_names_scopes.specs.Blocks.{block_locals}
use Rattle.dscript_names_scopes.specs.Declarations.{ParsedData, all_declared, declared_as, declared_by, item_declared, items_of, names_of, world_of}
use Rattle.dscript_names_scopes.specs.Duplicates.{first_duplicate}
use Rattle.dscript_names_scopes.specs.Names.{FileNames, World}
use Rattle.dscript_names_scopes.specs.declared.names.Declared.{Declared}
use Rattle.dscript_names_binding.specs.Binding.{bind_all_marked, bind_decl, bind_item, bind_items, bind_marked, check_import, imports_fault, site_in}
use Rattle.dscript_names_binding.specs.Walk.{Binds, Bound, Here, chained, continued, declaration, gives, no_fault, ◌>>=◌}
use Rattle.dscript_names.specs.Named.{before_others, bind_files, file_first, named, unless_duplicate}
use Rattle.dscript_names_laws.specs.Whole.{HasLocal, IsThere, IsValue, IsWhole, IsWholeFunction, IsWholeKind, Makes, Names, Scope, Sets, Use, kind_at, no_locals, scope_of, uses_of}
use Rattle.dscript_names_laws.proofs.ScopeBlocks.{block_undeclared}
use Rattle.dscript_names_laws.proofs.ScopeSteps.{GoodAt, IsFine, IsFineFunction, IsMaking, IsThereIn, Scopes, Within, function_scopes}
use Rattle.dscript_names_laws.proofs.ScopeTrees.{IsExpr, body_scopes, expr_scopes, stmts_scopes}
use Rattle.dscript_names_laws.proofs.Tables.{At, at_split}
use Rattle.dscript_names_laws.proofs.Targets.{get_at, one_longer}

-- ## Declarations as they are declared, and as they are bound

abbrev is_value : KindData → Bool
is_value (declares.Const t e) = true
is_value (declares.Function ts t f) = true
is_value (declares.Interface ts es ms) = false
is_value (declares.TypeAlias ts t) = false

-- as many, and values in the same places
abbrev AreBound : List Declared → List DeclData → Type 0
AreBound [] [] = Unit {0}
AreBound [] (d ∷ ds) = ⊥
AreBound (e ∷ es) [] = ⊥
AreBound (e ∷ es) (d ∷ ds) = (e.is_value ≡ is_value d.kind) × AreBound es ds

bound_append : (es es' : List Declared) (ds ds' : List DeclData) → AreBound es ds → AreBound es' ds' → AreBound (es ++ es') (ds ++ ds')
bound_append [] es' [] ds' h k = k
bound_append [] es' (d ∷ ds) ds' h k = absurd h
bound_append (e ∷ es) es' [] ds' h k = absurd h
bound_append (e ∷ es) es' (d ∷ ds) ds' h k = (h.0, bound_append es es' ds ds' h.1 k)

-- ## What is kept from one declaration to the next

module _ (world : World) (table : List FunctionData) where
  -- no local is known outside of functions
  abbrev NoLocal : ℕ → Type 0
  NoLocal n = ⊥

  record Kept {A : Type 0} (Q : A → Type 0) (functions : ℕ) (b : Bound A) : Type 0 where
    value : Q b.value
    count : b.after.functions ≡ functions + length b.functions
    inner : AllByRecursion (IsFineFunction world table) b.functions

  abbrev GoodCount : {A : Type 0} → (A → Type 0) → ℕ → Result (Bound A) SpecKind → Type 0
  GoodCount Q functions (Ok b) = At table functions b.functions → Kept Q functions b
  GoodCount Q functions (Err kind) = ⊤

  record Keeps {A : Type 0} (Q : A → Type 0) (m : Binds A) : Type 0 where
    good : (here : Here) → GoodCount Q here.functions (m here)

  count_after
      : {A B : Type 0} (Q : A → Type 0) (P : B → Type 0) (functions : ℕ) (a : Bound A) (r : Result (Bound B) SpecKind) → GoodCount Q functions (Ok a)
      → (Q a.value → GoodCount P a.after.functions r) → GoodCount P functions (chained a r)
  count_after Q P functions a (Err kind) first second = tt
  count_after Q P functions a (Ok c) first second = λ at.
      let parts = at_split table functions a.functions c.functions at in
      let n = first parts.0 in
      let k = second n.value (subst (λ f. At table f c.functions) (sym n.count) parts.1) in
      record {
        value = k.value;
        count = k.count ∙ ap (λ f. f + length c.functions) n.count ∙ omega (arith, length-append a.functions c.functions);
        inner = all_append (IsFineFunction world table) a.functions c.functions n.inner k.inner;
      }

  count_continued
      : {A B : Type 0} (Q : A → Type 0) (P : B → Type 0) (functions : ℕ) (r : Result (Bound A) SpecKind) (next : A → Binds B) → GoodCount Q functions r
      → ((a : A) → Q a → Keeps P (next a)) → GoodCount P functions (continued r next)
  count_continued Q P functions (Err kind) next first second = tt
  count_continued Q P functions (Ok a) next first second =
      count_after Q P functions a (next a.value a.after) first (λ q. (second a.value q).good a.after)

  both : {A B : Type 0} {Q : A → Type 0} {P : B → Type 0} {m : Binds A} {next : A → Binds B} → Keeps Q m → ((a : A) → Q a → Keeps P (next a)) → Keeps P (m >>= next)
  both {Q = Q} {P = P} {m = m} {next = next} first second = record {
    good = λ here. count_continued Q P here.functions (m here) next (first.good here) second;
  }

  none : {A : Type 0} {Q : A → Type 0} {x : A} → Q x → Keeps Q (gives x)
  none q = record { good = λ here at. record { value = q; count = omega arith; inner = tt } }

  -- what is used outside of functions
  abbrev AreFine : List Use → Type 0
  AreFine ts = (names : List ℕ) × ((limit : ℕ) × AllByRecursion (IsFine world table NoLocal 0 names limit) ts)

  abbrev WithUses : {A : Type 0} → (A → List Use → Type 0) → A → Type 0
  WithUses R x = (ts : List Use) × R x ts × AreFine ts

  of_good : {A : Type 0} (R : A → List Use → Type 0) (here : Here) (r : Result (Bound A) SpecKind) → GoodAt world table NoLocal 0 R here r
      → GoodCount (WithUses R) here.functions r
  of_good R here (Err kind) h = tt
  of_good R here (Ok b) h = λ at.
      let n = h at in
      record { value = (n.uses, n.is, (b.names, (b.after.locals, n.fine))); count = n.count; inner = n.inner }

  declaration_keeps : {A : Type 0} (R : A → List Use → Type 0) (m : Binds A) → ((here : Here) → Scopes world table NoLocal 0 R m here) → Keeps (WithUses R) (declaration m)
  declaration_keeps R m h = record {
    good = λ here.
        let start = record here { blocks = []; locals = 0 } in
        of_good R start (m start) ((h start).good (record { low = omega arith; seen = tt; own = tt }));
  }

  -- ## Kinds

  -- the kind uses only what is there
  abbrev IsFineKind : KindData → Type 0
  IsFineKind (declares.Const t e) = AllByRecursion (IsThereIn world table no_locals) (uses_of e)
  IsFineKind (declares.Function ts t f) = IsSomeAnd (slice_get table f) (λ (g : FunctionData). g.captured ≡ [])
  IsFineKind (declares.Interface ts es ms) = Unit {0}
  IsFineKind (declares.TypeAlias ts t) = Unit {0}

  none_captured : (names : List ℕ) (limit : ℕ) (ns : List ℕ) → AllByRecursion (λ m. Has names m × NoLocal m × (m < limit)) ns → ns ≡ []
  none_captured names limit [] h = refl
  none_captured names limit (n ∷ ns) h = absurd h.0.1

  captures_none : (names : List ℕ) (limit : ℕ) (o : Option FunctionData)
      → IsSomeAnd o (λ (g : FunctionData). AllByRecursion (λ m. Has names m × NoLocal m × (m < limit)) g.captured) → IsSomeAnd o (λ (g : FunctionData). g.captured ≡ [])
  captures_none names limit None h = absurd h
  captures_none names limit (Some g) h = none_captured names limit g.captured h

  none_needed : (s : Scope) (o : Option FunctionData) → IsSomeAnd o (λ (g : FunctionData). g.captured ≡ [])
      → IsSomeAnd o (λ (g : FunctionData). AllByRecursion (HasLocal s) g.captured)
  none_needed s None h = absurd h
  none_needed s (Some g) h = subst (λ ns. AllByRecursion (HasLocal s) ns) (sym h) tt

  constant_there : (names : List ℕ) (limit : ℕ) (u : Use) → IsFine world table NoLocal 0 names limit u → IsThereIn world table no_locals u
  constant_there names limit (Names (targets.Local n)) h = absurd h.1
  constant_there names limit (Names (targets.Declared file decl)) h = h
  constant_there names limit (Names (targets.Ambient call)) h = tt
  constant_there names limit (Sets n) h = absurd h.0
  constant_there names limit (Makes f) h = none_needed no_locals (slice_get table f) (captures_none names limit (slice_get table f) h)

  constant_fine : (t : Option TypeTree) (e : ExprData) → WithUses IsExpr e → IsFineKind (declares.Const t e)
  constant_fine t e q =
      subst (λ us. AllByRecursion (IsThereIn world table no_locals) us) (sym q.1)
      (all_weaker (IsFine world table NoLocal 0 q.2.0 q.2.1.0) (IsThereIn world table no_locals) (constant_there q.2.0 q.2.1.0) q.0 q.2.1.1)

  function_fine : (ts : List (List ℕ)) (t : Option TypeTree) (f : ℕ) → WithUses (IsMaking world table) f → IsFineKind (declares.Function ts t f)
  function_fine ts t f q =
      let all : AllByRecursion (IsFine world table NoLocal 0 q.2.0 q.2.1.0) (Makes f ∷ []) =
      subst (λ us. AllByRecursion (IsFine world table NoLocal 0 q.2.0 q.2.1.0) us) q.1 q.2.1.1 in
      captures_none q.2.0 q.2.1.0 (slice_get table f) all.0

  -- ## Declarations and items

  abbrev IsFineDecls : List Declared → List DeclData → Type 0
  IsFineDecls es ds = AreBound es ds × AllByRecursion (λ (d : DeclData). IsFineKind d.kind) ds

  fine_append : (es es' : List Declared) (ds ds' : List DeclData) → IsFineDecls es ds → IsFineDecls es' ds' → IsFineDecls (es ++ es') (ds ++ ds')
  fine_append es es' ds ds' h k = (bound_append es es' ds ds' h.0 k.0, all_append (λ (d : DeclData). IsFineKind d.kind) ds ds' h.1 k.1)

  no_fault_keeps : (kind : Option SpecKind) → Keeps (λ (x : Option SpecKind). ⊤) (no_fault kind)
  no_fault_keeps None = none tt
  no_fault_keeps (Some kind) = record { good = λ here. tt }

  module _ (number : ℕ) (names : FileNames) (is : slice_get world.files number ≡ Some names) where
    among : number < length world.files
    among = slice_get_within world.files number names is

    mutual
      unfolding bind_marked declared_by

      marked_keeps : (m : MarkedTree) (around : Dotted) → Keeps (IsFineDecls (declared_by around m)) (bind_marked world number names around m)
      marked_keeps (Marked mark decl) around = kind_keeps decl around mark

      kind_keeps : (d : DeclTree) (around : Dotted) (mark : Mark) → Keeps (IsFineDecls (declared_as around mark d)) (bind_decl world number names around mark d)
      kind_keeps (file.Const x t e) around mark =
          both (declaration_keeps IsExpr _ (λ here. (expr_scopes world table (site_in world number names around) is among NoLocal 0 e).at here))
          (λ b q. none ((refl, tt), (constant_fine t b q, tt)))
      kind_keeps (file.Function x ts ps t ss) around mark =
          both (declaration_keeps (IsMaking world table) _ (λ here. function_scopes world table NoLocal 0 number ps (block_locals (to_stmts ss)) _ here among
          (λ P. block_undeclared P (to_stmts ss))
          (λ inside. body_scopes world table (Within world table NoLocal here.locals) here.locals _
          (stmts_scopes world table (site_in world number names around) is among (Within world table NoLocal here.locals) here.locals (λ n low. inr low) (to_stmts ss)) inside)))
          (λ n q. none ((refl, tt), (function_fine ts t n q, tt)))
      kind_keeps (file.Namespace xs ms) around mark = all_marked_keeps ms (around ++ xs)
      kind_keeps (file.Interface x ts es ms) around mark = none ((refl, tt), (tt, tt))
      kind_keeps (file.TypeAlias x ts t) around mark = none ((refl, tt), (tt, tt))

      all_marked_keeps : (ms : MarkedTrees) (around : Dotted) → Keeps (IsFineDecls (all_declared around ms)) (bind_all_marked world number names around ms)
      all_marked_keeps file.no_marked around = none (tt, tt)
      all_marked_keeps (file.more_marked m ms) around =
          both (marked_keeps m around) (λ ds q. both (all_marked_keeps ms around)
          (λ es k. none (fine_append (declared_by around m) (all_declared around ms) ds es q k)))

    import_keeps : (is' : List ImportTree) (module_name : List ℕ) → Keeps (IsFineDecls []) (check_import world number names is' module_name)
    import_keeps is' module_name = both (no_fault_keeps (imports_fault world is' module_name)) (λ x q. none (tt, tt))

    item_keeps : (i : ItemTree) → Keeps (IsFineDecls (item_declared i)) (bind_item world number names i)
    item_keeps (file.ImportAll x module_name) = import_keeps [] module_name
    item_keeps (file.ImportNames imported module_name) = import_keeps imported module_name
    item_keeps (file.Declared m) = marked_keeps m []
    item_keeps file.Empty = none (tt, tt)

    items_keep : (items : List ItemTree) → Keeps (IsFineDecls (flat_map item_declared items)) (bind_items world number names items)
    items_keep [] = none (tt, tt)
    items_keep (i ∷ items) =
        both (item_keeps i) (λ ds q. both (items_keep items)
        (λ es k. none (fine_append (item_declared i) (flat_map item_declared items) ds es q k)))

  -- ## Files

  abbrev FilesFit : List FileNames → List FileData → Type 0
  FilesFit [] [] = Unit {0}
  FilesFit [] (g ∷ gs) = ⊥
  FilesFit (f ∷ fs) [] = ⊥
  FilesFit (f ∷ fs) (g ∷ gs) = IsFineDecls f.decls g.decls × FilesFit fs gs

  record GoodParts (fs : List FileNames) (p : ProgramData) : Type 0 where
    functions : AllByRecursion (IsFineFunction world table) p.functions
    files : FilesFit fs p.files

  abbrev GoodProgram : List FileNames → ℕ → Result ProgramData FaultData → Type 0
  GoodProgram fs functions (Ok p) = At table functions p.functions → GoodParts fs p
  GoodProgram fs functions (Err fault) = ⊤

  before_keeps
      : (functions : ℕ) (path : Atoms) (names : FileNames) (fs : List FileNames) (b : Bound (List DeclData)) (r : Result ProgramData FaultData)
      → GoodCount (IsFineDecls names.decls) functions (Ok b) → GoodProgram fs b.after.functions r → GoodProgram (names ∷ fs) functions (before_others path names b r)
  before_keeps functions path names fs b (Err fault) first second = tt
  before_keeps functions path names fs b (Ok p) first second = λ at.
      let parts = at_split table functions b.functions p.functions at in
      let n = first parts.0 in
      let rest = second (subst (λ f. At table f p.functions) (sym n.count) parts.1) in
      record {
        functions = all_append (IsFineFunction world table) b.functions p.functions n.inner rest.functions;
        files = (n.value, rest.files);
      }

  file_keeps
      : (functions : ℕ) (path : Atoms) (names : FileNames) (fs : List FileNames) (r : Result (Bound (List DeclData)) SpecKind) (others : ℕ → Result ProgramData FaultData)
      → GoodCount (IsFineDecls names.decls) functions r → ((n : ℕ) → GoodProgram fs n (others n)) → GoodProgram (names ∷ fs) functions (file_first path names r others)
  file_keeps functions path names fs (Err kind) others first second = tt
  file_keeps functions path names fs (Ok b) others first second =
      before_keeps functions path names fs b (others b.after.functions) first (second b.after.functions)

  files_keep
      : (modules : List ModuleData) (before : List FileNames) (ps : List ParsedData) (n functions : ℕ) → world.files ≡ before ++ map (names_of modules) ps → length before ≡ n
      → GoodProgram (map (names_of modules) ps) functions (bind_files modules world n ps functions)
  files_keep modules before [] n functions is e = λ at. record { functions = tt; files = tt }
  files_keep modules before (p ∷ ps) n functions is e =
      let names = names_of modules p in
      file_keeps functions p.path names (map (names_of modules) ps) _ (bind_files modules world (n + 1) ps)
      ((items_keep n names (ap (λ fs. slice_get fs n) is ∙ get_at before names (map (names_of modules) ps) n e) (items_of p.file)).good
      (record { blocks = []; locals = 0; functions = functions }))
      (λ k. files_keep modules (before ++ names ∷ []) ps (n + 1) k (is ∙ sym (append_assoc before (names ∷ []) (map (names_of modules) ps))) (one_longer before names n e))

  unless_keeps : (fs : List FileNames) (duplicate : Option Atoms) (r : Result ProgramData FaultData) → GoodProgram fs 0 r → GoodProgram fs 0 (unless_duplicate duplicate r)
  unless_keeps fs None r h = h
  unless_keeps fs (Some path) r h = tt

  -- ## What is declared is there

  value_of_kind : (kind : KindData) → is_value kind ≡ true → IsFineKind kind → IsValue table kind
  value_of_kind (declares.Const t e) is h = tt
  value_of_kind (declares.Function ts t f) is h = h
  value_of_kind (declares.Interface ts es ms) is h = absurd cc
  value_of_kind (declares.TypeAlias ts t) is h = absurd cc

  decl_there
      : (es : List Declared) (ds : List DeclData) (n : ℕ) → IsFineDecls es ds → IsSomeAnd (slice_get es n) (λ (e : Declared). e.is_value ≡ true)
      → IsSomeAnd (option_map (λ (d : DeclData). d.kind) (slice_get ds n)) (IsValue table)
  decl_there [] ds n h k = absurd k
  decl_there (e ∷ es) [] n h k = absurd h.0
  decl_there (e ∷ es) (d ∷ ds) zero h k = value_of_kind d.kind (sym h.0.0 ∙ k) h.1.0
  decl_there (e ∷ es) (d ∷ ds) (suc n) h k = decl_there es ds n (h.0.1, h.1.1) k

  there_in
      : (fs : List FileNames) (gs : List FileData) (n decl : ℕ) → FilesFit fs gs
      → IsSomeAnd (slice_get fs n) (λ (f : FileNames). IsSomeAnd (slice_get f.decls decl) (λ (d : Declared). d.is_value ≡ true))
      → IsSomeAnd (option_and_then (λ (f : FileData). option_map (λ (d : DeclData). d.kind) (slice_get f.decls decl)) (slice_get gs n)) (IsValue table)
  there_in [] gs n decl h k = absurd k
  there_in (f ∷ fs) [] n decl h k = absurd h
  there_in (f ∷ fs) (g ∷ gs) zero decl h k = decl_there f.decls g.decls decl h.0 k
  there_in (f ∷ fs) (g ∷ gs) (suc n) decl h k = there_in fs gs n decl h.1 k

  as_many : (fs : List FileNames) (gs : List FileData) → FilesFit fs gs → length fs ≡ length gs
  as_many [] [] h = refl
  as_many [] (g ∷ gs) h = absurd h
  as_many (f ∷ fs) [] h = absurd h
  as_many (f ∷ fs) (g ∷ gs) h = ap suc (as_many fs gs h.1)

  -- ## The whole program

  module _ (p : ProgramData) (own : table ≡ p.functions) (parts : GoodParts world.files p) where
    use_there : (s : Scope) (u : Use) → IsThereIn world table s u → IsThere p s u
    use_there s (Names (targets.Local n)) h = h
    use_there s (Names (targets.Declared f decl)) h =
        subst (λ t. IsSomeAnd (kind_at p f decl) (IsValue t)) own (there_in world.files p.files f decl parts.files h)
    use_there s (Names (targets.Ambient call)) h = tt
    use_there s (Sets n) h = h
    use_there s (Makes f) h =
        subst (λ t. IsSomeAnd (slice_get t f) (λ (g : FunctionData). AllByRecursion (HasLocal s) g.captured)) own h

    function_whole : (g : FunctionData) → IsFineFunction world table g → IsWholeFunction p g
    function_whole g h = record {
      file = omega (arith, h.file, as_many world.files p.files parts.files);
      params = h.params;
      captured = h.captured;
      uses = all_weaker (IsThereIn world table (scope_of g)) (IsThere p (scope_of g)) (use_there (scope_of g)) _ h.uses;
    }

    kind_whole : (kind : KindData) → IsFineKind kind → IsWholeKind p kind
    kind_whole (declares.Const t e) h = all_weaker (IsThereIn world table no_locals) (IsThere p no_locals) (use_there no_locals) (uses_of e) h
    kind_whole (declares.Function ts t f) h = subst (λ t. IsSomeAnd (slice_get t f) (λ (g : FunctionData). g.captured ≡ [])) own h
    kind_whole (declares.Interface ts es ms) h = tt
    kind_whole (declares.TypeAlias ts t) h = tt

    files_whole : (fs : List FileNames) (gs : List FileData) → FilesFit fs gs
        → AllByRecursion (λ (f : FileData). AllByRecursion (λ (d : DeclData). IsWholeKind p d.kind) f.decls) gs
    files_whole [] [] h = tt
    files_whole [] (g ∷ gs) h = absurd h
    files_whole (f ∷ fs) [] h = absurd h
    files_whole (f ∷ fs) (g ∷ gs) h = (
      all_weaker (λ (d : DeclData). IsFineKind d.kind) (λ (d : DeclData). IsWholeKind p d.kind) (λ d k. kind_whole d.kind k) g.decls h.0.1,
      files_whole fs gs h.1,
    )

    program_whole : IsWhole p
    program_whole = record {
      functions = all_weaker (IsFineFunction world table) (IsWholeFunction p) function_whole p.functions parts.functions;
      files = files_whole world.files p.files parts.files;
    }

-- a table has its own functions at their numbers

get_middle : {X : Type 0} (before : List X) (x : X) (xs : List X) → slice_get (before ++ x ∷ xs) (length before) ≡ Some x
get_middle [] x xs = refl
get_middle (y ∷ before) x xs = get_middle before x xs

push_first : {X : Type 0} (before : List X) (x : X) (xs : List X) → (before ++ x ∷ []) ++ xs ≡ before ++ x ∷ xs
push_first [] x xs = refl
push_first (y ∷ before) x xs = ap (λ ys. y ∷ ys) (push_first before x xs)

at_own : (before fs : List FunctionData) → At (before ++ fs) (length before) fs
unfolding At
at_own before [] = tt
at_own before (f ∷ fs) =
    let rest = at_own (before ++ f ∷ []) fs in
    let table = subst (λ t. At t (length (before ++ f ∷ [])) fs) (push_first before f fs) rest in (
      get_middle before f fs,
      subst (λ n. At (before ++ f ∷ fs) n fs) (length-append before (f ∷ []) ∙ omega arith) table,
    )

named_keeps : (table : List FunctionData) (modules : List ModuleData) (files : List ParsedData)
    → GoodProgram (world_of modules files) table (map (names_of modules) files) 0 (named modules files)
unfolding named
named_keeps table modules files =
    let world = world_of modules files in
    unless_keeps world table (map (names_of modules) files) (first_duplicate modules [] files) _
    (files_keep world table modules [] files 0 0 refl refl)

pub whole : (modules : List ModuleData) (files : List ParsedData) (p : ProgramData) → named modules files ≡ Ok p → IsWhole p
whole modules files p is =
    let world = world_of modules files in
    let parts : GoodParts world p.functions world.files p =
    subst (GoodProgram world p.functions world.files 0) is (named_keeps p.functions modules files) (at_own [] p.functions) in
    program_whole world p.functions p refl parts
