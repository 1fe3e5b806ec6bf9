-- The tokens that a writer has, and the tokens of parts as they are in memory.
use Rattle.std.specs.Prelude.{◌≡◌, ℕ, Bool, true, false, Option, option_map, map, Result, IfOk, List, [], ◌∷◌}
use Rattle.std.specs.Prelude.{◌++◌}
use Rattle.dscript_lex.specs.declared.token.TokenKind.{TokenKind}
use Rattle.dscript_ast.specs.declared.type_node.TypeNode.{TypeNode}
use Rattle.dscript_ast.specs.Views.{note_tree, type_tree, member_tree, field_tree, hole_tree, head_tree}
use Rattle.dscript_ast.specs.Views.{expr_tree, operand_tree, part_tree, stmt_tree}
use Rattle.dscript_lex.specs.declared.token.TokenKind.TheVariants as kinds
use Rattle.dscript_print_tokens.specs.Spellable as spellable
use Rattle.dscript_ast.specs.declared.expr.Hole as holes
use Rattle.std.specs.declared.alloc.Global.{Global}
use Rattle.std.specs.declared.boxed.Box.{Box}
use Rattle.dscript_ast.specs.declared.expr.ArrowHead.{ArrowHead}
use Rattle.dscript_ast.specs.declared.expr.Expr.{Expr}
use Rattle.dscript_ast.specs.declared.expr.LoopKind.{LoopKind}
use Rattle.dscript_ast.specs.declared.expr.Operand as operands
use Rattle.dscript_ast.specs.declared.expr.PostfixPart.{PostfixPart}
use Rattle.dscript_ast.specs.declared.expr.Stmt.{Stmt}
use Rattle.dscript_ast.specs.declared.operator.UnaryOp.{UnaryOp}
use Rattle.dscript_ast.specs.ExprTree.{to_operands, to_parts, to_holes, to_stmts, to_expr, to_stmt}
use Rattle.dscript_grammar.specs.ExprGrammar.{any_expr, or_expr, postfix_expr, primary_expr}
use Rattle.dscript_print.specs.ExprKinds.{hole_kinds, head_kinds, expr_kinds, stmts_kinds, operands_kinds}
use Rattle.dscript_print.specs.ExprKinds.{prefix_kind, parts_kinds, first_text, holes_kinds, value_kinds}
use Rattle.dscript_print.specs.ExprKinds.{else_kinds, stmt_kinds, loop_kind, maybe_kinds}
use Rattle.dscript_grammar.specs.TypeGrammar.{any_type, earlier_type}
use Rattle.dscript_ast.specs.declared.type_node.Field as fields
use Rattle.dscript_ast.specs.declared.type_node.Member as members
use Rattle.dscript_print.specs.declared.writer.Writer.{Writer}
use Rattle.dscript_print.specs.Runs.{punct, keyword, concat_tokens}
use Rattle.dscript_print.specs.TypeKinds.{type_kinds, field_kinds, member_kinds, note_kinds}

-- the tokens that were written, in order
abbrev pub written : Writer → List TokenKind
written w = spellable.kinds w.laid.items

-- unless memory runs out, these tokens are written, after those that were written before
abbrev pub Writes : {T E : Type 0} → Writer → Writer → Result T E → List TokenKind → Type 0
Writes before after result tokens = IfOk result (λ _. written after ≡ written before ++ tokens)

abbrev pub type_run : TypeNode → List TokenKind
type_run t = type_kinds any_type (type_tree t)

-- a type of a union before another
abbrev pub earlier_run : TypeNode → List TokenKind
earlier_run t = type_kinds earlier_type (type_tree t) ++ (punct "|" ∷ [])

abbrev pub field_run : fields.Field → List TokenKind
field_run x = field_kinds (field_tree x)

abbrev pub member_run : members.Member → List TokenKind
member_run x = member_kinds (member_tree x)

-- a hole and the text after it, where another hole follows, and where none does
abbrev pub middle_run : holes.Hole → List TokenKind
middle_run x = hole_kinds (hole_tree x) kinds.Middle []

abbrev pub tail_run : holes.Hole → List TokenKind
tail_run x = hole_kinds (hole_tree x) kinds.Tail []

-- expressions, by their parts
abbrev pub arrow_kinds : ArrowHead → Expr → List TokenKind
arrow_kinds head body =
    head_kinds (head_tree head) ++ (punct "=>" ∷ expr_kinds true any_expr (expr_tree body))

abbrev pub block_run : List Stmt → List TokenKind
block_run body = punct "{" ∷ (concat_tokens (stmts_kinds (to_stmts (map stmt_tree body))) ++ (punct "}" ∷ []))

abbrev pub block_arrow_kinds : ArrowHead → List Stmt → List TokenKind
block_arrow_kinds head body = head_kinds (head_tree head) ++ (punct "=>" ∷ block_run body)

abbrev pub branch_kinds : List ℕ → Expr → List TokenKind
branch_kinds punctuator value = kinds.Punct punctuator ∷ expr_kinds false any_expr (expr_tree value)

abbrev pub unary_kinds : List UnaryOp → Expr → List TokenKind
unary_kinds ops value = map prefix_kind ops ++ expr_kinds false postfix_expr (expr_tree value)

abbrev pub template_kinds : List ℕ → List holes.Hole → List TokenKind
template_kinds text hs =
    first_text (to_holes (map hole_tree hs)) text ∷ holes_kinds (to_holes (map hole_tree hs))

-- statements, by their parts
abbrev pub terminated_kinds : Expr → List TokenKind
terminated_kinds value = expr_kinds false any_expr (expr_tree value) ++ (punct ";" ∷ [])

abbrev pub constant_kinds : List ℕ → Option (Box TypeNode Global) → Expr → List TokenKind
constant_kinds name node value =
    keyword "const" ∷ kinds.Word name ∷ (note_kinds (note_tree node) ++ (punct "=" ∷ terminated_kinds value))

abbrev pub variable_kinds : List ℕ → Option (Box TypeNode Global) → Option Expr → List TokenKind
variable_kinds name node value =
    keyword "let" ∷ kinds.Word name
    ∷ (note_kinds (note_tree node) ++ (value_kinds (to_expr (option_map expr_tree value)) ++ (punct ";"
    ∷ [])))

abbrev pub return_kinds : Option Expr → List TokenKind
return_kinds value =
    keyword "return" ∷ (maybe_kinds (to_expr (option_map expr_tree value)) ++ (punct ";" ∷ []))
