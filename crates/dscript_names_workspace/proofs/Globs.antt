-- Calls of globs, part by part.
use Rattle.std.proofs.Common.{◌≡◌, Bool, List, Option, Some, map, ap, ◌∙◌}
use Rattle.std.specs.Prelude.{option_and_then}
use Rattle.std.specs.declared.alloc.Global.{Global}
use Rattle.std.specs.declared.boxed.Box.{Box}
use Rattle.std.specs.declared.vec.Vec.{Vec}
use Rattle.dscript_ast.specs.ExprTree.{ExprTree, PartTree, parts_of, to_parts}
use Rattle.dscript_ast.specs.Views.{expr_tree, part_tree}
use Rattle.dscript_ast.specs.declared.expr.Expr.{Expr}
use Rattle.dscript_ast.specs.declared.expr.Expr.TheVariants as exprs
use Rattle.dscript_ast.specs.declared.expr.PostfixPart.{PostfixPart}
use Rattle.dscript_ast.specs.declared.expr.PostfixPart.TheVariants as part_variants
use Rattle.dscript_ast.proofs.NodeViews.{expr_tree-Postfix, part_tree-Call}
use Rattle.dscript_ast.proofs.TreeLists.{exprs_of-to, parts_of-to}
use Rattle.dscript_names_workspace.specs.Lists.{arguments_of, depth_of, glob_call, glob_with}
use Rattle.dscript_names_workspace.specs.Lists.{only_of, pair_of}

-- the arguments of the one call after a callee
abbrev pub call_pair : List PartTree → Option (ExprTree × ExprTree)
call_pair parts = option_and_then pair_of (option_and_then arguments_of (only_of parts))

pub arguments_are : (parts : List PostfixPart) (part : PostfixPart) (values : Vec Expr Global)
    → only_of (map part_tree parts) ≡ Some (part_tree part) → part ≡ part_variants.Call values
    → call_pair (map part_tree parts) ≡ pair_of (map expr_tree values.items)
arguments_are parts part values only is =
    ap (λ o. option_and_then pair_of (option_and_then arguments_of o))
    (only ∙ ap (λ p. Some (part_tree p)) is ∙ ap Some (part_tree-Call values))
    ∙ ap pair_of (exprs_of-to (map expr_tree values.items))

pub glob_is : (e : Expr) (callee : Box Expr Global) (parts : Vec PostfixPart Global) (deep : Bool)
    (both : ExprTree × ExprTree) → e ≡ exprs.Postfix callee parts
    → depth_of (expr_tree callee.value) ≡ Some deep → call_pair (map part_tree parts.items) ≡ Some both
    → glob_call (expr_tree e) ≡ glob_with deep both
glob_is e callee parts deep both is depth pair =
    ap (λ x. glob_call (expr_tree x)) is ∙ ap glob_call (expr_tree-Postfix callee parts)
    ∙ ap (λ o. option_and_then (λ d. option_and_then (glob_with d)
    (call_pair (parts_of (to_parts (map part_tree parts.items))))) o) depth
    ∙ ap (λ ps. option_and_then (glob_with deep) (call_pair ps)) (parts_of-to (map part_tree parts.items))
    ∙ ap (option_and_then (glob_with deep)) pair
