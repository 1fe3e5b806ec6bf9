use Rattle.std.proofs.Common.{length, subst, sym}
use Rattle.dscript_parse_tokens.specs.Gives.{kinds, Offers}
use Rattle.dscript_parse_exprs.proofs.OperatorSearch.{same_operator}
use Rattle.dscript_parse_exprs.proofs.lookahead.operator.Goals as goal

pub returns : goal.returns
returns c =
    subst (λ r. Offers (λ o. o) r (length (kinds c.args.tokens.now)) c.first_operator.result)
    (sym (same_operator (kinds c.args.tokens.now))) c.first_operator.ensures
