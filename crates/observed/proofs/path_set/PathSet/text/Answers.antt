use Rattle.observed.proofs.ReadTexts.{text_reads}
use Rattle.observed.proofs.path_set.PathSet.text.Goals as goal

pub returns-clause-read : goal.returns-clause-read
returns-clause-read c =
    text_reads c.text_of.result c.asks.result.now c.args.self.now c.asks.ensures.asks c.text_of.ensures.text c.text_of.ensures.asks c.asks.ensures.order
