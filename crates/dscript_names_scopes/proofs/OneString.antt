-- The one argument of a call.
use Rattle.std.proofs.Common.{◌≡◌, List, [], ◌∷◌, map, length, None, refl, ap, ◌∙◌, arith}
use Rattle.dscript_ast.specs.declared.expr.Expr.{Expr}
use Rattle.dscript_ast.specs.ExprTree.{PartTree, Call, to_exprs}
use Rattle.dscript_ast.specs.Views.{expr_tree}
use Rattle.dscript_names_scopes.specs.Lookup.{one_string}
use Rattle.dscript_ast.specs.Literals.{string_of}

pub string_alone : (part : PartTree) (es others : List Expr) (e : Expr)
    → part ≡ Call (to_exprs (map expr_tree es)) → es ≡ e ∷ others → length others ≡ 0
    → one_string part ≡ string_of (expr_tree e)
string_alone part es [] e is made empty =
    ap one_string is ∙ ap (λ xs. one_string (Call (to_exprs (map expr_tree xs)))) made
string_alone part es (y ∷ ys) e is made empty = absurd (omega arith)

pub string_beside : (part : PartTree) (es others : List Expr) (e : Expr)
    → part ≡ Call (to_exprs (map expr_tree es)) → es ≡ e ∷ others → (length others ≡ 0 → ⊥)
    → one_string part ≡ None
string_beside part es [] e is made some = absurd (some refl)
string_beside part es (y ∷ ys) e is made some =
    ap one_string is ∙ ap (λ xs. one_string (Call (to_exprs (map expr_tree xs)))) made
