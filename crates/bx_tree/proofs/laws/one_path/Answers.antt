use Rattle.bx_tree.proofs.PathTexts as cutting
use Rattle.bx_tree.proofs.laws.one_path.Goals as goal

pub returns-clause-same : goal.returns-clause-same
returns-clause-same c = cutting.same_from_text

pub returns-clause-named : goal.returns-clause-named
returns-clause-named c = cutting.one_path
