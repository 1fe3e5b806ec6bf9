use Rattle.graph_texts.proofs.ProcessLines.{lists_fit}
use Rattle.graph_texts.proofs.process_lines.has_lists.Goals as goal

pub returns : goal.returns
returns c =
    lists_fit c.args.process.now c.texts.result.now c.pairs.result.now c.files.result.now c.dirs.result.now c.paths.result.now c.dirs-2.result.now
    c.texts.ensures c.pairs.ensures.pairs c.files.ensures.files c.dirs.ensures.dirs c.paths.ensures.paths c.dirs-2.ensures.dirs
    c.have_lines.ensures c.have_lines-2.ensures c.pairs.ensures.sorted c.have_lines-3.ensures c.files.ensures.rising c.have_lines-4.ensures
    c.have_lines-5.ensures c.paths.ensures.rising c.have_lines-6.ensures c.dirs-2.ensures.rising
