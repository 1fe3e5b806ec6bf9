use Rattle.std.proofs.Common.{◌≡◌, ap, arith, length, sym, ◌∙◌}
use Rattle.dscript_ast.specs.Views.{part_tree}
use Rattle.dscript_ast.proofs.NodeViews.{part_tree-Call}
use Rattle.dscript_names_scopes.proofs.OneString.{string_alone, string_beside}
use Rattle.dscript_names_scopes.proofs.lookup.one_string.Goals as goal

pub returns-then-not-is_empty : goal.returns-then-not-is_empty
returns-then-not-is_empty c =
    let others = c.in_ok-argument.others.now in
    let some : length others ≡ 0 → ⊥ = λ e. grind (arith, c.is_empty.ensures, c.if-not-is_empty.true, e) in
    sym (string_beside (part_tree c.args.part.now) c.in-Call.arguments.items others c.in_ok-argument.argument.now
    (ap part_tree c.in-Call.is ∙ part_tree-Call c.in-Call.arguments)
    (sym c.as_slice.ensures.value ∙ c.in_ok-argument.ensures.cases.0) some)

pub returns : goal.returns
returns c =
    let others = c.in_ok-argument.others.now in
    let none : length others ≡ 0 = grind (arith, c.is_empty.ensures, c.if-not-is_empty.false) in
    c.string_of.ensures ∙ sym (string_alone (part_tree c.args.part.now) c.in-Call.arguments.items others c.in_ok-argument.argument.now
    (ap part_tree c.in-Call.is ∙ part_tree-Call c.in-Call.arguments)
    (sym c.as_slice.ensures.value ∙ c.in_ok-argument.ensures.cases.0) none)
