-- The names that a walk through a file looks up, in the order in which it meets them, and where words are among
-- tokens.
use Rattle.std.specs.Prelude.{◌≡◌, ℕ, List, [], ◌∷◌, ◌++◌}
use Rattle.std.specs.List.{flat_map}
use Rattle.dscript_lex.specs.declared.token.TokenKind.{TokenKind}
use Rattle.dscript_lex.specs.declared.token.TokenKind.TheVariants as kinds
use Rattle.dscript_ast.specs.ExprTree as tree
use Rattle.dscript_ast.specs.ExprTree.{ExprTree, OperandTree, PartTree, ElementTree, PropTree, HoleTree}
use Rattle.dscript_ast.specs.ExprTree.{StmtTree, MaybeExpr, MaybeStmt, ExprTrees, OperandTrees, PartTrees}
use Rattle.dscript_ast.specs.ExprTree.{ElementTrees, PropTrees, HoleTrees, StmtTrees, to_stmts}
use Rattle.dscript_ast.specs.FileTree as file
use Rattle.dscript_ast.specs.FileTree.{MarkedTree, DeclTree, MarkedTrees, ImportTree, ItemTree, Marked}

abbrev pub Words : Type 0
Words = List (List ℕ)

-- The names in an expression or a statement that are looked up or assigned. Of a dotted name it is the first
-- word; the names of parameters, of locals where they are declared, of members and of fields are none.
unfoldable mutual
  pub names_met : ExprTree → Words
  names_met (tree.Arrow x e) = names_met e
  names_met (tree.BlockArrow x ss) = stmts_met ss
  names_met (tree.Cond c a b) = names_met c ++ names_met a ++ names_met b
  names_met (tree.Chain level e more) = names_met e ++ operands_met more
  names_met (tree.Unary ops e) = names_met e
  names_met (tree.Postfix e parts) = names_met e ++ parts_met parts
  names_met (tree.Number n) = []
  names_met (tree.Str s) = []
  names_met tree.True = []
  names_met tree.False = []
  names_met tree.Undefined = []
  names_met (tree.Template text holes) = holes_met holes
  names_met (tree.Path kind text holes) = holes_met holes
  names_met (tree.Name x) = x ∷ []
  names_met (tree.Elements es) = elements_met es
  names_met (tree.Object ps) = props_met ps

  pub operand_met : OperandTree → Words
  operand_met (tree.Operand op e) = names_met e

  pub operands_met : OperandTrees → Words
  operands_met tree.no_operands = []
  operands_met (tree.more_operands o more) = operand_met o ++ operands_met more

  pub part_met : PartTree → Words
  part_met (tree.Member x) = []
  part_met (tree.Index e) = names_met e
  part_met (tree.Call es) = exprs_met es

  pub parts_met : PartTrees → Words
  parts_met tree.no_parts = []
  parts_met (tree.more_parts part more) = part_met part ++ parts_met more

  pub exprs_met : ExprTrees → Words
  exprs_met tree.no_exprs = []
  exprs_met (tree.more_exprs e more) = names_met e ++ exprs_met more

  pub element_met : ElementTree → Words
  element_met (tree.Element spread e) = names_met e

  pub elements_met : ElementTrees → Words
  elements_met tree.no_elements = []
  elements_met (tree.more_elements e more) = element_met e ++ elements_met more

  pub prop_met : PropTree → Words
  prop_met (tree.Named x e) = names_met e
  prop_met (tree.Quoted s e) = names_met e
  prop_met (tree.Short x) = x ∷ []
  prop_met (tree.Spread e) = names_met e

  pub props_met : PropTrees → Words
  props_met tree.no_props = []
  props_met (tree.more_props prop more) = prop_met prop ++ props_met more

  pub hole_met : HoleTree → Words
  hole_met (tree.Hole e text) = names_met e

  pub holes_met : HoleTrees → Words
  holes_met tree.no_holes = []
  holes_met (tree.more_holes hole more) = hole_met hole ++ holes_met more

  pub stmt_met : StmtTree → Words
  stmt_met (tree.Const x t e) = names_met e
  stmt_met (tree.Let x t e) = maybe_met e
  stmt_met (tree.Assign x e) = x ∷ names_met e
  stmt_met (tree.If c s other) = names_met c ++ stmt_met s ++ else_met other
  stmt_met (tree.For kind x list s) = names_met list ++ stmt_met s
  stmt_met (tree.Return e) = maybe_met e
  stmt_met (tree.Value e) = names_met e
  stmt_met (tree.Block ss) = stmts_met ss
  stmt_met tree.Empty = []

  pub maybe_met : MaybeExpr → Words
  maybe_met tree.no_expr = []
  maybe_met (tree.an_expr e) = names_met e

  pub else_met : MaybeStmt → Words
  else_met tree.no_stmt = []
  else_met (tree.a_stmt s) = stmt_met s

  pub stmts_met : StmtTrees → Words
  stmts_met tree.no_stmts = []
  stmts_met (tree.more_stmts s ss) = stmt_met s ++ stmts_met ss

-- types are not resolved
unfoldable mutual
  pub marked_met : MarkedTree → Words
  marked_met (Marked mark decl) = decl_met decl

  pub decl_met : DeclTree → Words
  decl_met (file.Const x t e) = names_met e
  decl_met (file.Function x ts ps t ss) = stmts_met (to_stmts ss)
  decl_met (file.Namespace names ms) = all_marked_met ms
  decl_met (file.Interface x ts es ms) = []
  decl_met (file.TypeAlias x ts t) = []

  pub all_marked_met : MarkedTrees → Words
  all_marked_met file.no_marked = []
  all_marked_met (file.more_marked m ms) = marked_met m ++ all_marked_met ms

-- an import in braces looks up each of its names in its module
abbrev pub item_met : ItemTree → Words
item_met (file.ImportAll x module_name) = []
item_met (file.ImportNames imported module_name) = flat_map (λ (i : ImportTree). i.name ∷ []) imported
item_met (file.Declared m) = marked_met m
item_met file.Empty = []

abbrev pub items_met : List ItemTree → Words
items_met items = flat_map item_met items

-- the words stand among the tokens before the rest, each at a token of its own, in this order
abbrev pub Occur : Words → List TokenKind → List TokenKind → Type 0
Occur [] tokens rest = (skipped : List TokenKind) × (tokens ≡ skipped ++ rest)
Occur (w ∷ ws) tokens rest =
    (skipped : List TokenKind) × (after : List TokenKind) × (tokens ≡ skipped ++ (kinds.Word w ∷ after))
    × Occur ws after rest
