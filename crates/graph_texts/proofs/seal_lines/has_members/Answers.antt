use Rattle.graph_texts.proofs.InputsInOrder.{inputs_fit, inputs_rise}
use Rattle.graph_texts.proofs.seal_lines.has_members.Goals as goal

pub returns-clause-files : goal.returns-clause-files
returns-clause-files c = inputs_fit c.args.files.now c.files-list.result.now c.files-list.ensures.files c.have_lines.ensures

pub returns-clause-order : goal.returns-clause-order
returns-clause-order c = inputs_rise c.args.files.now c.files-list.ensures.rising
