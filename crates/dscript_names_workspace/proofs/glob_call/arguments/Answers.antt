use Rattle.std.proofs.Common.{◌≡◌, Some, None, map, ap, sym, ◌∙◌, subst}
use Rattle.std.specs.Prelude.{MatchOption}
use Rattle.dscript_ast.specs.Views.{expr_tree}
use Rattle.dscript_names_workspace.specs.Lists.{pair_of}
use Rattle.dscript_names_workspace.proofs.Globs.{arguments_are}
use Rattle.dscript_names_workspace.proofs.glob_call.arguments.Goals as goal

pub returns-in-Call : goal.returns-in-Call
returns-in-Call c =
    let values = c.in-Call.values in
    subst (λ z. MatchOption c.pair.result (z ≡ None) (λ both. z ≡ Some (expr_tree both.0.now, expr_tree both.1.now)))
    (ap (λ xs. pair_of (map expr_tree xs)) c.as_slice.ensures.value
    ∙ sym (arguments_are c.args.parts.now c.in_ok-values.field-0.now values c.in_ok-values.ensures c.in-Call.is))
    c.pair.ensures
