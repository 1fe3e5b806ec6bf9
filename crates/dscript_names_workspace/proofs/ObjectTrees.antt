-- The tree of an object as its definition sees it.
use Rattle.std.proofs.Common.{◌≡◌, ℕ, Bool, List, Option, Some, None, map, ap, ◌∙◌}
use Rattle.std.specs.Prelude.{if◌then◌else◌}
use Rattle.std.specs.declared.alloc.Global.{Global}
use Rattle.std.specs.declared.vec.Vec.{Vec}
use Rattle.dscript_ast.specs.ExprTree.{PropTree}
use Rattle.dscript_ast.specs.Views.{expr_tree, prop_tree}
use Rattle.dscript_ast.specs.declared.expr.Expr.{Expr}
use Rattle.dscript_ast.specs.declared.expr.Expr.TheVariants as exprs
use Rattle.dscript_ast.specs.declared.expr.Prop.{Prop}
use Rattle.dscript_ast.proofs.NodeViews.{expr_tree-Object}
use Rattle.dscript_ast.proofs.TreeLists.{props_of-to}
use Rattle.dscript_names_workspace.specs.Objects.{are_fields, object_with}

abbrev fields_if : List (List ℕ) → List PropTree → Option (List PropTree)
fields_if names props = if are_fields names props then Some props else None

object_is : (names : List (List ℕ)) (e : Expr) (props : Vec Prop Global) → e ≡ exprs.Object props
    → object_with names (expr_tree e) ≡ fields_if names (map prop_tree props.items)
object_is names e props is =
    ap (λ x. object_with names (expr_tree x)) is ∙ ap (object_with names) (expr_tree-Object props)
    ∙ ap (fields_if names) (props_of-to (map prop_tree props.items))

if_is : (names : List (List ℕ)) (props : List PropTree) (b : Bool) (o : Option (List PropTree))
    → are_fields names props ≡ b → (if b then Some props else None) ≡ o → fields_if names props ≡ o
if_is names props b o e h = ap (λ c. if c then Some props else None) e ∙ h

-- an object whose fields pass or fail the test
pub object_by : (names : List (List ℕ)) (e : Expr) (props : Vec Prop Global) (b : Bool) (o : Option (List PropTree))
    → e ≡ exprs.Object props → are_fields names (map prop_tree props.items) ≡ b
    → (if b then Some (map prop_tree props.items) else None) ≡ o → object_with names (expr_tree e) ≡ o
object_by names e props b o is test h =
    object_is names e props is ∙ if_is names (map prop_tree props.items) b o test h
