use Rattle.std.proofs.Common.{suc, length, sym, subst, ◌∙◌}
use Rattle.dscript_ast.specs.Views.{expr_tree}
use Rattle.dscript_parse_tokens.specs.Gives.{kinds, Gives}
use Rattle.dscript_parse_exprs.proofs.PostfixNodes.{postfix_made, some_parts}
use Rattle.dscript_parse_exprs.proofs.parts.as_postfix.Goals as goal

pub returns : goal.returns
returns c =
    subst (λ r. Gives expr_tree r (suc c.args.depth.levels) (suc (length (kinds c.args.parts.rest.now))) c.node.result)
    (postfix_made c.args.depth.levels _ _ c.args.first.value c.in_ok-new.field-0 _ _ _ c.args.parts.value _ c.in_ok-new.ensures.ok
    (some_parts c.args.parts.value (sym c.is_empty.ensures ∙ c.if-is_empty.false)) c.higher.ensures)
    c.node.ensures
