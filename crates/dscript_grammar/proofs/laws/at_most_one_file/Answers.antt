use Rattle.dscript_grammar.proofs.FileLaws.{one_file}
use Rattle.dscript_grammar.proofs.laws.at_most_one_file.Goals as goal

pub returns : goal.returns
returns c = one_file
