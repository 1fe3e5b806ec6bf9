-- The one member that a module file may name.
use Rattle.std.proofs.Common.{◌≡◌, Bool, true, List, map, codes, ap, ◌∙◌}
use Rattle.std.specs.Prelude.{◌&&◌, option_and_then}
use Rattle.std.specs.declared.alloc.Global.{Global}
use Rattle.std.specs.declared.boxed.Box.{Box}
use Rattle.std.specs.declared.vec.Vec.{Vec}
use Rattle.dscript_ast.specs.ExprTree.{PartTree}
use Rattle.dscript_ast.specs.Views.{expr_tree, part_tree}
use Rattle.dscript_ast.specs.declared.expr.Expr.{Expr}
use Rattle.dscript_ast.specs.declared.expr.Expr.TheVariants as exprs
use Rattle.dscript_ast.specs.declared.expr.PostfixPart.{PostfixPart}
use Rattle.dscript_ast.proofs.NodeViews.{expr_tree-Postfix}
use Rattle.dscript_ast.proofs.TreeLists.{parts_of-to}
use Rattle.dscript_names_workspace.specs.Lists.{only_of}
use Rattle.dscript_names_workspace.specs.Modules.{is_semantics, is_text, member_of}
use Rattle.dscript_ast.specs.Literals.{name_of}

abbrev pub member_is : List PartTree → Bool
member_is parts = is_text (codes "implicitProjectReferences") (option_and_then member_of (only_of parts))

-- where the callee is the name, the member decides
pub semantics_by_member : (e : Expr) (callee : Box Expr Global) (parts : Vec PostfixPart Global)
    → e ≡ exprs.Postfix callee parts
    → is_text (codes "NameResolutionSemantics") (name_of (expr_tree callee.value)) ≡ true
    → is_semantics (expr_tree e) ≡ member_is (map part_tree parts.items)
semantics_by_member e callee parts is named =
    let name = is_text (codes "NameResolutionSemantics") (name_of (expr_tree callee.value)) in
    ap (λ x. is_semantics (expr_tree x)) is ∙ ap is_semantics (expr_tree-Postfix callee parts)
    ∙ ap (λ ps. name && member_is ps) (parts_of-to (map part_tree parts.items))
    ∙ ap (λ b. b && member_is (map part_tree parts.items)) named
