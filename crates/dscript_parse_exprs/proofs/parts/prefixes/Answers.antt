use Rattle.dscript_grammar.specs.ExprReading.{at_prefix, read_prefix}
use Rattle.dscript_parse_tokens.proofs.NameLists.{as_they_are}
use Rattle.dscript_parse_exprs.proofs.parts.prefixes.Goals as goal

pub returns : goal.returns
returns c = as_they_are _ _ _ _ (c.many.ensures read_prefix at_prefix (λ ts result post. post.2) (λ ts result post. post))
