use Rattle.std.proofs.Common.{refl}
use Rattle.dscript_grammar.specs.Reading.{read_identifier}
use Rattle.dscript_parse_tokens.proofs.NameLists.{as_they_are}
use Rattle.dscript_parse_tokens.proofs.lists.names.Goals as goal

pub returns : goal.returns
returns c = as_they_are _ _ _ _ (c.separated.ensures read_identifier "," (λ ts result post. post.2) refl)
