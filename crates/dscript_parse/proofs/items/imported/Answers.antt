use Rattle.std.proofs.Common.{refl}
use Rattle.dscript_grammar.specs.FileReading.{read_import_name}
use Rattle.dscript_parse.proofs.items.imported.Goals as goal

pub returns : goal.returns
returns c = c.list.ensures read_import_name "}" (λ ts result post. post.2) refl
