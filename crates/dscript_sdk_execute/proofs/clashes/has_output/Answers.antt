use Rattle.bx_tree.proofs.FoundByTest.{path_found}
use Rattle.dscript_sdk_execute.proofs.clashes.has_output.Goals as goal

pub returns : goal.returns
returns c = path_found c.args.path.now c.args.outs.now c.has.result c.has.ensures.member
