use Rattle.std.proofs.Common.{◌≡◌, Some, None, map, ap, sym, ◌∙◌, subst}
use Rattle.std.specs.Prelude.{MatchOption}
use Rattle.dscript_ast.specs.Views.{expr_tree, part_tree}
use Rattle.dscript_names_workspace.specs.Lists.{depth_of}
use Rattle.dscript_names_workspace.specs.ConfigViews.{glob_data}
use Rattle.dscript_names_workspace.proofs.Globs.{call_pair, glob_is}
use Rattle.dscript_names_workspace.proofs.glob_call.glob_call.Goals as goal

pub returns : goal.returns
returns c =
    let callee = c.in-Postfix.callee in
    let parts = c.in-Postfix.parts in
    subst (λ z. MatchOption c.glob_with.result (z ≡ None) (λ call. z ≡ Some (glob_data call)))
    (sym (glob_is c.args.value.now callee parts c.in_ok-deep.deep
    (expr_tree c.in_ok-directory.directory.now, expr_tree c.in_ok-directory.pattern.now) c.in-Postfix.is
    (ap (λ x. depth_of (expr_tree x)) (sym c.deref.ensures) ∙ sym c.depth_of.ensures ∙ c.in_ok-deep.was)
    (ap (λ ps. call_pair (map part_tree ps)) (sym c.as_slice.ensures.value) ∙ c.in_ok-directory.ensures)))
    c.glob_with.ensures
