-- Names that are declared twice.
use Rattle.std.specs.Prelude.{ℕ, Bool, false, ◌&&◌, ◌||◌, ◌==◌, List, [], ◌∷◌, ◌++◌, map, Option, Some, None}
use Rattle.std.specs.Prelude.{if◌then◌else◌}
use Rattle.std.specs.List.{list_any, filter}
use Rattle.std.specs.Str.{bytes_eq}
use Rattle.bx_tree.specs.Paths.{Atoms, same_path}
use Rattle.dscript_ast.specs.ExprTree as tree
use Rattle.dscript_ast.specs.ExprTree.{ParamTree, HeadTree, ExprTree, OperandTree, PartTree, ElementTree}
use Rattle.dscript_ast.specs.ExprTree.{PropTree, HoleTree, StmtTree, MaybeExpr, MaybeStmt, ExprTrees}
use Rattle.dscript_ast.specs.ExprTree.{OperandTrees, PartTrees, ElementTrees, PropTrees, HoleTrees, StmtTrees}
use Rattle.dscript_ast.specs.ExprTree.{to_stmts}
use Rattle.dscript_ast.specs.FileTree as file
use Rattle.dscript_ast.specs.FileTree.{MarkedTree, DeclTree, MarkedTrees, ItemTree, Marked}
use Rattle.dscript_program.specs.ProgramData.{Dotted}
use Rattle.dscript_names_scopes.specs.declared.local.Local.{Local}
use Rattle.dscript_names_scopes.specs.Blocks.{block_locals, stmt_locals}
use Rattle.dscript_names_scopes.specs.Names.{FileNames}
use Rattle.dscript_names_scopes.specs.Declarations.{ParsedData, items_of, is_exported, names_of}
use Rattle.dscript_program.specs.Workspaces.{ModuleData}

-- some element is equal to a later one
abbrev pub has_repeat : {X : Type 0} → (X → X → Bool) → List X → Bool
has_repeat same [] = false
has_repeat same (x ∷ xs) = list_any (same x) xs || has_repeat same xs

-- ## Blocks

abbrev pub param_names : List ParamTree → List (List ℕ)
param_names ps = map (λ p. p.name) ps

abbrev pub head_names : HeadTree → List (List ℕ)
head_names (tree.Single x) = x ∷ []
head_names (tree.Params ps) = param_names ps

-- the name that a statement declares in its block
abbrev pub stmt_names : StmtTree → List (List ℕ)
stmt_names s = map (λ (l : Local). l.name) (stmt_locals s)

-- the names that a block declares
abbrev pub block_names : StmtTrees → List (List ℕ)
block_names ss = map (λ (l : Local). l.name) (block_locals ss)

abbrev pub repeats : List (List ℕ) → Bool
repeats = has_repeat bytes_eq

-- Some block in the tree declares a name twice. Parameters and the statements directly in the body are one
-- block. The variable of a loop has a block of its own, and so has a declaration that is itself the statement
-- of an `if`, an `else` or a `for`: in neither of these a name can repeat.
unfoldable mutual
  pub expr_repeats : ExprTree → Bool
  expr_repeats (tree.Arrow x e) = repeats (head_names x) || expr_repeats e
  expr_repeats (tree.BlockArrow x ss) = repeats (head_names x ++ block_names ss) || stmts_repeat ss
  expr_repeats (tree.Cond c a b) = expr_repeats c || expr_repeats a || expr_repeats b
  expr_repeats (tree.Chain level e more) = expr_repeats e || operands_repeat more
  expr_repeats (tree.Unary ops e) = expr_repeats e
  expr_repeats (tree.Postfix e parts) = expr_repeats e || parts_repeat parts
  expr_repeats (tree.Number n) = false
  expr_repeats (tree.Str s) = false
  expr_repeats tree.True = false
  expr_repeats tree.False = false
  expr_repeats tree.Undefined = false
  expr_repeats (tree.Template text holes) = holes_repeat holes
  expr_repeats (tree.Path kind text holes) = holes_repeat holes
  expr_repeats (tree.Name x) = false
  expr_repeats (tree.Elements es) = elements_repeat es
  expr_repeats (tree.Object ps) = props_repeat ps

  pub operands_repeat : OperandTrees → Bool
  operands_repeat tree.no_operands = false
  operands_repeat (tree.more_operands (tree.Operand op e) more) = expr_repeats e || operands_repeat more

  pub part_repeats : PartTree → Bool
  part_repeats (tree.Member x) = false
  part_repeats (tree.Index e) = expr_repeats e
  part_repeats (tree.Call es) = exprs_repeat es

  pub parts_repeat : PartTrees → Bool
  parts_repeat tree.no_parts = false
  parts_repeat (tree.more_parts part more) = part_repeats part || parts_repeat more

  pub exprs_repeat : ExprTrees → Bool
  exprs_repeat tree.no_exprs = false
  exprs_repeat (tree.more_exprs e more) = expr_repeats e || exprs_repeat more

  pub elements_repeat : ElementTrees → Bool
  elements_repeat tree.no_elements = false
  elements_repeat (tree.more_elements (tree.Element spread e) more) = expr_repeats e || elements_repeat more

  pub prop_repeats : PropTree → Bool
  prop_repeats (tree.Named x e) = expr_repeats e
  prop_repeats (tree.Quoted s e) = expr_repeats e
  prop_repeats (tree.Short x) = false
  prop_repeats (tree.Spread e) = expr_repeats e

  pub props_repeat : PropTrees → Bool
  props_repeat tree.no_props = false
  props_repeat (tree.more_props prop more) = prop_repeats prop || props_repeat more

  pub holes_repeat : HoleTrees → Bool
  holes_repeat tree.no_holes = false
  holes_repeat (tree.more_holes (tree.Hole e text) more) = expr_repeats e || holes_repeat more

  pub stmt_repeats : StmtTree → Bool
  stmt_repeats (tree.Const x t e) = expr_repeats e
  stmt_repeats (tree.Let x t e) = maybe_repeats e
  stmt_repeats (tree.Assign x e) = expr_repeats e
  stmt_repeats (tree.If c s other) = expr_repeats c || stmt_repeats s || else_repeats other
  stmt_repeats (tree.For kind x list s) = expr_repeats list || stmt_repeats s
  stmt_repeats (tree.Return e) = maybe_repeats e
  stmt_repeats (tree.Value e) = expr_repeats e
  stmt_repeats (tree.Block ss) = repeats (block_names ss) || stmts_repeat ss
  stmt_repeats tree.Empty = false

  pub maybe_repeats : MaybeExpr → Bool
  maybe_repeats tree.no_expr = false
  maybe_repeats (tree.an_expr e) = expr_repeats e

  pub else_repeats : MaybeStmt → Bool
  else_repeats tree.no_stmt = false
  else_repeats (tree.a_stmt s) = stmt_repeats s

  pub stmts_repeat : StmtTrees → Bool
  stmts_repeat tree.no_stmts = false
  stmts_repeat (tree.more_stmts s ss) = stmt_repeats s || stmts_repeat ss

-- the parameters and the body of a declared function are one block too
unfoldable mutual
  pub marked_repeats : MarkedTree → Bool
  marked_repeats (Marked mark decl) = decl_repeats decl

  pub decl_repeats : DeclTree → Bool
  decl_repeats (file.Const x t e) = expr_repeats e
  decl_repeats (file.Function x ts ps t ss) =
      repeats (param_names ps ++ block_names (to_stmts ss)) || stmts_repeat (to_stmts ss)
  decl_repeats (file.Namespace names ms) = all_marked_repeat ms
  decl_repeats (file.Interface x ts es ms) = false
  decl_repeats (file.TypeAlias x ts t) = false

  pub all_marked_repeat : MarkedTrees → Bool
  all_marked_repeat file.no_marked = false
  all_marked_repeat (file.more_marked m ms) = marked_repeats m || all_marked_repeat ms

abbrev pub item_repeats : ItemTree → Bool
item_repeats (file.Declared m) = marked_repeats m
item_repeats _ = false

-- ## Files

-- the dotted names that the file exports
abbrev pub exported_names : FileNames → List Dotted
exported_names f = map (λ d. d.name) (filter (λ d. is_exported d.mark) f.decls)

-- a file of this module exports one of these names
abbrev pub exports_one_of : List Dotted → ℕ → FileNames → Bool
exports_one_of names m f =
    f.module_number == m && list_any (λ x. list_any (same_path x) names) (exported_names f)

-- The file has a name twice: among its declarations, among the names that its module exports, where it comes
-- after the other file, among its imports, or in a block. A value and a namespace may have one name, and so
-- may an import and a declaration.
abbrev pub has_duplicate : List FileNames → FileNames → List ItemTree → Bool
has_duplicate earlier f items =
    has_repeat same_path (map (λ d. d.name) f.decls)
    || list_any (exports_one_of (exported_names f) f.module_number) earlier
    || repeats (map (λ i. i.name) f.imports)
    || list_any item_repeats items

-- the path of the first file with a duplicate, after these
abbrev pub first_duplicate : List ModuleData → List FileNames → List ParsedData → Option Atoms
first_duplicate modules earlier [] = None
first_duplicate modules earlier (p ∷ ps) =
    if has_duplicate earlier (names_of modules p) (items_of p.file) then Some p.path
    else first_duplicate modules (earlier ++ names_of modules p ∷ []) ps
