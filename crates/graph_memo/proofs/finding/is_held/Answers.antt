use Rattle.graph_memo.proofs.Usable.{held_decides}
use Rattle.graph_memo.proofs.finding.is_held.Goals as goal

pub returns-clause-held : goal.returns-clause-held
returns-clause-held g c =
    held_decides (g.R.KeepReader.held c.content.new.reader) c.args.digest.now c.in_ok-found.found c.is_some.result c.is_some.ensures
    c.in_ok-found.ensures.found
