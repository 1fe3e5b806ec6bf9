-- The locals of each function in a program are numbered in one run.
use Rattle.std.proofs.Common.{◌≡◌, ℕ, ◌+◌, List, [], ◌∷◌, ◌++◌, length, Option, Some, None, Result, Ok, Err, refl, sym, ◌∙◌, ap, subst, arith}
use Rattle.std.specs.Bool.{⊤}
use Rattle.std.specs.List.{slice_get, AllByRecursion}
use Rattle.std.proofs.lemmas.List.{length-append}
use Rattle.bx_tree.specs.Paths.{Atoms}
use Rattle.bx_tree.proofs.Lists.{all_append}
use Rattle.dscript_ast.specs.ExprTree.{ParamTree, StmtTree, to_stmts}
use Rattle.dscript_ast.specs.FileTree as file
use Rattle.dscript_ast.specs.FileTree.{MarkedTree, DeclTree, MarkedTrees, ImportTree, ItemTree, Marked}
use Rattle.dscript_ast.specs.TypeTree.{TypeTree}
use Rattle.dscript_ast.specs.declared.file.Mark.{Mark}
use Rattle.dscript_program.specs.Numbering.{Taker, Holds, FillRun, IsConsecutive, HasConsecutiveLocals}
use Rattle.dscript_program.specs.ProgramData as declares
use Rattle.dscript_program.specs.BoundTree.{ExprData}
use Rattle.dscript_program.specs.ProgramData.{Dotted, DeclData, FunctionData, ProgramData}
use Rattle.dscript_program.specs.Workspaces.{ModuleData}
use Rattle.dscript_program.specs.SpecFaults.{FaultData}
use Rattle.dscript_program.specs.declared.spec_fault.SpecKind.{SpecKind}
use Rattle.dscript_names_scopes.specs.Names.{World, FileNames}
use Rattle.dscript_names_scopes.specs.Declarations.{ParsedData, names_of, items_of, world_of}
use Rattle.dscript_names_scopes.specs.Duplicates.{first_duplicate}
use Rattle.dscript_names_scopes.specs.Lookup.{Site}
use Rattle.dscript_names_binding.specs.Walk.{Here, Bound, Binds, chained, continued, ◌>>=◌, gives, no_fault, declaration}
use Rattle.dscript_names_scopes.specs.Blocks.{block_locals}
use Rattle.dscript_names_binding.specs.Binding.{declared_function, site_in, bind_marked, bind_decl, bind_all_marked, check_import, imports_fault, bind_item, bind_items}
use Rattle.dscript_names.specs.Captures.{AllCaptureOuter, HasOuterCaptures}
use Rattle.dscript_names.specs.Counting.{CountsFromZero, HasLocalsFromZero}
use Rattle.dscript_names.specs.Named.{named, before_others, file_first, bind_files, unless_duplicate}
use Rattle.dscript_names.proofs.Numbered.{At, IsSound, at_split, Good, IsContained, Numbers, function_numbers}
use Rattle.dscript_names.proofs.NumberedTrees.{IsExpr, body_numbers, expr_numbers, stmts_numbers}

-- ## What is kept from one declaration to the next

-- the value is as the property says, the functions are counted, and each is sound
pub record Kept {A : Type 0} (table : List FunctionData) (Q : A → Type 0) (functions : ℕ) (b : Bound A)
    : Type 0 where
  pub value : Q b.value
  pub count : b.after.functions ≡ functions + length b.functions
  pub inner : AllByRecursion (IsSound table) b.functions

-- a result is a fault, or is kept in a table that has its functions at their numbers
abbrev GoodCount : {A : Type 0} → List FunctionData → (A → Type 0) → ℕ → Result (Bound A) SpecKind → Type 0
GoodCount table Q functions (Ok b) = At table functions b.functions → Kept table Q functions b
GoodCount table Q functions (Err kind) = ⊤

pub record Keeps {A : Type 0} (table : List FunctionData) (Q : A → Type 0) (m : Binds A) : Type 0 where
  pub good : (here : Here) → GoodCount table Q here.functions (m here)

count_after : {A B : Type 0} (table : List FunctionData) (Q : A → Type 0) (P : B → Type 0) (functions : ℕ)
    (a : Bound A) (r : Result (Bound B) SpecKind)
    → GoodCount table Q functions (Ok a) → (Q a.value → GoodCount table P a.after.functions r)
    → GoodCount table P functions (chained a r)
count_after table Q P functions a (Err kind) first second = tt
count_after table Q P functions a (Ok c) first second = λ at.
    let parts = at_split table functions a.functions c.functions at in
    let n = first parts.0 in
    let k = second n.value (subst (λ f. At table f c.functions) (sym n.count) parts.1) in
    record {
      value = k.value;
      count = k.count ∙ ap (λ f. f + length c.functions) n.count ∙ omega
          (arith, length-append a.functions c.functions);
      inner = all_append (IsSound table) a.functions c.functions n.inner k.inner;
    }

count_continued : {A B : Type 0} (table : List FunctionData) (Q : A → Type 0) (P : B → Type 0) (functions : ℕ)
    (r : Result (Bound A) SpecKind) (next : A → Binds B)
    → GoodCount table Q functions r → ((a : A) → Q a → Keeps table P (next a))
    → GoodCount table P functions (continued r next)
count_continued table Q P functions (Err kind) next first second = tt
count_continued table Q P functions (Ok a) next first second =
    count_after table Q P functions a (next a.value a.after) first (λ q. (second a.value q).good a.after)

both : {A B : Type 0} {table : List FunctionData} {Q : A → Type 0} {P : B → Type 0} {m : Binds A}
    {next : A → Binds B} → Keeps table Q m → ((a : A) → Q a → Keeps table P (next a)) → Keeps table P (m >>= next)
both {table} {Q} {P} {m} {next} first second = record {
  good = λ here. count_continued table Q P here.functions (m here) next (first.good here) second;
}

none : {A : Type 0} {table : List FunctionData} {Q : A → Type 0} {x : A} → Q x → Keeps table Q (gives x)
none q = record { good = λ here at. record { value = q; count = omega arith; inner = tt } }

-- takers that fill a run from 0
abbrev FromZero : {A : Type 0} → List FunctionData → (A → List Taker → Type 0) → A → Type 0
FromZero table R x = (ts : List Taker) × R x ts × ((end : ℕ) × FillRun table 0 ts end)

of_good : {A : Type 0} (table : List FunctionData) (R : A → List Taker → Type 0) (here : Here) (r : Result
    (Bound A) SpecKind) → here.locals ≡ 0
    → Good table R here r → GoodCount table (FromZero table R) here.functions r
of_good table R here (Err kind) at_zero h = tt
of_good table R here (Ok b) at_zero h = λ at.
    let n = h at in
    record {
      value = (n.takers, n.is, (b.after.locals, subst (λ l. FillRun table l n.takers b.after.locals) at_zero n.run));
      count = n.count;
      inner = n.inner;
    }

declaration_keeps : {A : Type 0} (table : List FunctionData) (R : A → List Taker → Type 0) (m : Binds A)
    → Numbers R m → Keeps table (FromZero table R) (declaration m)
declaration_keeps table R m h = record {
  good = λ here.
      let start = record here { blocks = []; locals = 0 } in
      of_good table R start (m start) refl (h.good table start);
}

-- ## Declarations and items

-- declarations that count their locals from 0
abbrev AllFromZero : List FunctionData → List DeclData → Type 0
AllFromZero table = AllByRecursion (λ d. CountsFromZero table d.kind)

constant_from_zero : (table : List FunctionData) (t : Option TypeTree) (e : ExprData) → FromZero table IsExpr e
    → CountsFromZero table (declares.Const t e)
constant_from_zero table t e q = (q.2.0, subst (λ us. FillRun table 0 us q.2.0) (sym q.1) q.2.1)

function_from_zero : (table : List FunctionData) (xs : List (List ℕ)) (t : Option TypeTree) (f : ℕ) → FromZero table IsContained f
    → CountsFromZero table (declares.Function xs t f)
unfolding FillRun
function_from_zero table xs t f q =
    let run : FillRun table 0 (Holds f ∷ []) q.2.0 = subst (λ us. FillRun table 0 us q.2.0) q.1 q.2.1 in
    (run.0, run.1, run.2)

declared_keeps : (table : List FunctionData) (world : World) (site : Site) (params : List ParamTree)
    (ss : List StmtTree)
    → Keeps table (FromZero table IsContained) (declaration (declared_function world site params ss))
declared_keeps table world site params ss =
    declaration_keeps table IsContained _
    (function_numbers site.number params (block_locals (to_stmts ss)) _ (body_numbers _
    (stmts_numbers world site (to_stmts ss))))

no_fault_keeps : (table : List FunctionData) (kind : Option SpecKind) → Keeps table (λ x. ⊤) (no_fault kind)
no_fault_keeps table None = none tt
no_fault_keeps table (Some kind) = record { good = λ here. tt }

module _ (table : List FunctionData) (world : World) (number : ℕ) (names : FileNames) where
  mutual
    unfolding bind_marked

    marked_keeps : (m : MarkedTree) (around : Dotted)
        → Keeps table (AllFromZero table) (bind_marked world number names around m)
    marked_keeps (Marked mark decl) around = kind_keeps decl around mark

    kind_keeps : (d : DeclTree) (around : Dotted) (mark : Mark)
        → Keeps table (AllFromZero table) (bind_decl world number names around mark d)
    kind_keeps (file.Const x t e) around mark =
        both (declaration_keeps table IsExpr _ (expr_numbers world (site_in world number names around) e))
        (λ b q. none (constant_from_zero table t b q, tt))
    kind_keeps (file.Function x ts ps t ss) around mark =
        both (declared_keeps table world (site_in world number names around) ps ss)
        (λ n q. none (function_from_zero table ts t n q, tt))
    kind_keeps (file.Namespace xs ms) around mark = all_marked_keeps ms (around ++ xs)
    kind_keeps (file.Interface x ts es ms) around mark = none (tt, tt)
    kind_keeps (file.TypeAlias x ts t) around mark = none (tt, tt)

    all_marked_keeps : (ms : MarkedTrees) (around : Dotted)
        → Keeps table (AllFromZero table) (bind_all_marked world number names around ms)
    all_marked_keeps file.no_marked around = none tt
    all_marked_keeps (file.more_marked m ms) around =
        both (marked_keeps m around) (λ ds q. both (all_marked_keeps ms around)
        (λ es k. none (all_append (λ d. CountsFromZero table d.kind) ds es q k)))

  import_keeps : (is : List ImportTree) (module_name : List ℕ)
      → Keeps table (AllFromZero table) (check_import world number names is module_name)
  import_keeps is module_name = both (no_fault_keeps table (imports_fault world is module_name)) (λ x q. none tt)

  item_keeps : (i : ItemTree) → Keeps table (AllFromZero table) (bind_item world number names i)
  item_keeps (file.ImportAll x module_name) = import_keeps [] module_name
  item_keeps (file.ImportNames imported module_name) = import_keeps imported module_name
  item_keeps (file.Declared m) = marked_keeps m []
  item_keeps file.Empty = none tt

  items_keep : (is : List ItemTree) → Keeps table (AllFromZero table) (bind_items world number names is)
  items_keep [] = none tt
  items_keep (i ∷ is) =
      both (item_keeps i) (λ ds q. both (items_keep is)
      (λ es k. none (all_append (λ d. CountsFromZero table d.kind) ds es q k)))

-- ## Files and programs

pub record GoodParts (table : List FunctionData) (p : ProgramData) : Type 0 where
  pub functions : AllByRecursion (IsSound table) p.functions
  pub files : AllByRecursion (λ f. AllFromZero table f.decls) p.files

abbrev GoodProgram : List FunctionData → ℕ → Result ProgramData FaultData → Type 0
GoodProgram table functions (Ok p) = At table functions p.functions → GoodParts table p
GoodProgram table functions (Err fault) = ⊤

before_keeps : (table : List FunctionData) (functions : ℕ) (path : Atoms) (names : FileNames) (b : Bound
    (List DeclData)) (r : Result ProgramData FaultData)
    → GoodCount table (AllFromZero table) functions (Ok b) → GoodProgram table b.after.functions r
    → GoodProgram table functions (before_others path names b r)
before_keeps table functions path names b (Err fault) first second = tt
before_keeps table functions path names b (Ok p) first second = λ at.
    let parts = at_split table functions b.functions p.functions at in
    let n = first parts.0 in
    let rest = second (subst (λ f. At table f p.functions) (sym n.count) parts.1) in
    record {
      functions = all_append (IsSound table) b.functions p.functions n.inner rest.functions;
      files = (n.value, rest.files);
    }

file_keeps : (table : List FunctionData) (functions : ℕ) (path : Atoms) (names : FileNames) (r : Result
    (Bound (List DeclData)) SpecKind)
    (others : ℕ → Result ProgramData FaultData)
    → GoodCount table (AllFromZero table) functions r → ((n : ℕ) → GoodProgram table n (others n))
    → GoodProgram table functions (file_first path names r others)
file_keeps table functions path names (Err kind) others first second = tt
file_keeps table functions path names (Ok b) others first second =
    before_keeps table functions path names b (others b.after.functions) first (second b.after.functions)

files_keep : (table : List FunctionData) (modules : List ModuleData) (world : World)
    (ps : List ParsedData) (n functions : ℕ)
    → GoodProgram table functions (bind_files modules world n ps functions)
files_keep table modules world [] n functions = λ at. record { functions = tt; files = tt }
files_keep table modules world (p ∷ ps) n functions =
    file_keeps table functions p.path (names_of modules p) _ (bind_files modules world (n + 1) ps)
    ((items_keep table world n (names_of modules p) (items_of p.file)).good
    (record { blocks = []; locals = 0; functions = functions }))
    (λ k. files_keep table modules world ps (n + 1) k)

unless_keeps : (table : List FunctionData) (duplicate : Option Atoms) (r : Result ProgramData FaultData)
    → GoodProgram table 0 r → GoodProgram table 0 (unless_duplicate duplicate r)
unless_keeps table None r h = h
unless_keeps table (Some path) r h = tt

named_keeps : (table : List FunctionData) (modules : List ModuleData)
    (files : List ParsedData) → GoodProgram table 0 (named modules files)
unfolding named
named_keeps table modules files =
    unless_keeps table (first_duplicate modules [] files) _ (files_keep table modules
    (world_of modules files) files 0 0)

get_middle : {X : Type 0} (before : List X) (x : X) (xs : List X) → slice_get (before ++ x
    ∷ xs) (length before) ≡ Some x
get_middle [] x xs = refl
get_middle (y ∷ before) x xs = get_middle before x xs

push_first : {X : Type 0} (before : List X) (x : X) (xs : List X) → (before ++ x ∷ []) ++ xs
    ≡ before ++ x ∷ xs
push_first [] x xs = refl
push_first (y ∷ before) x xs = ap (λ ys. y ∷ ys) (push_first before x xs)

-- a table has its own functions at their numbers
at_own : (before fs : List FunctionData) → At (before ++ fs) (length before) fs
unfolding At
at_own before [] = tt
at_own before (f ∷ fs) =
    let rest = at_own (before ++ f ∷ []) fs in
    let table = subst (λ t. At t (length (before ++ f ∷ [])) fs) (push_first before f fs) rest in (
      get_middle before f fs,
      subst (λ n. At (before ++ f ∷ fs) n fs) (length-append before (f ∷ []) ∙ omega arith) table,
    )

all_left : {X : Type 0} (P Q : X → Type 0) (xs : List X) → AllByRecursion (λ x. P x × Q x) xs → AllByRecursion P xs
all_left P Q [] h = tt
all_left P Q (x ∷ xs) h = (h.0.0, all_left P Q xs h.1)

all_right : {X : Type 0} (P Q : X → Type 0) (xs : List X) → AllByRecursion (λ x. P x × Q x) xs → AllByRecursion Q xs
all_right P Q [] h = tt
all_right P Q (x ∷ xs) h = (h.0.1, all_right P Q xs h.1)

numbered : (modules : List ModuleData) (files : List ParsedData) (p : ProgramData)
    → named modules files ≡ Ok p → GoodParts p.functions p
numbered modules files p is =
    subst (GoodProgram p.functions 0) is (named_keeps p.functions modules files) (at_own [] p.functions)

pub consecutive : (modules : List ModuleData) (files : List ParsedData) (p : ProgramData)
    → named modules files ≡ Ok p → HasConsecutiveLocals p
consecutive modules files p is =
    all_left (IsConsecutive p.functions) HasOuterCaptures p.functions (numbered modules files p is).functions

pub outer : (modules : List ModuleData) (files : List ParsedData) (p : ProgramData)
    → named modules files ≡ Ok p → AllCaptureOuter p
outer modules files p is =
    all_right (IsConsecutive p.functions) HasOuterCaptures p.functions (numbered modules files p is).functions

pub from_zero : (modules : List ModuleData) (files : List ParsedData) (p : ProgramData)
    → named modules files ≡ Ok p → HasLocalsFromZero p
from_zero modules files p is = (numbered modules files p is).files
