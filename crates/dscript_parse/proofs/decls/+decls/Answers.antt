use Rattle.std.proofs.Common.{refl}
use Rattle.dscript_grammar.specs.FileReading.{read_marked}
use Rattle.dscript_parse.proofs.decls.+decls.Goals as goal

pub declarations-returns : goal.declarations-returns
declarations-returns t c = c.until.ensures (read_marked c.args.depth.levels) "}" (λ ts result post. post.2) refl
