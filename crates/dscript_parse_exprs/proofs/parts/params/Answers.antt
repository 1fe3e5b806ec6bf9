use Rattle.std.proofs.Common.{refl}
use Rattle.dscript_grammar.specs.ExprReading.{read_expr, read_param, read_params, read_stmt}
use Rattle.dscript_parse_tokens.proofs.Steps.{then_gives}
use Rattle.dscript_parse_exprs.proofs.parts.params.Goals as goal

pub returns : goal.returns
unfolding read_params
returns c =
    let d = c.args.depth.levels in
    then_gives _ _ _ _ _ c.list.result c.in_ok-rest.ensures.0 c.in_ok-rest.ensures.1 (c.list.ensures (read_param d (read_expr d) (read_stmt d)) ")" (λ ts result post. post.2) refl)
