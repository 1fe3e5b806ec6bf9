use Rattle.std.proofs.lemmas.Bool.Decides.{Decides-eqb}
use Rattle.std.proofs.lemmas.Slice.Eq.{strip_prefix_is}
use Rattle.observed.proofs.ReadTexts.{prefix_is}
use Rattle.observed.proofs.texts.after.Goals as goal

pub returns : goal.returns
returns c =
    prefix_is c.args.prefix.now c.args.line.now c.strip_prefix.result
    (strip_prefix_is Decides-eqb c.args.line.now c.args.prefix.now c.strip_prefix.result c.strip_prefix.ensures.cases)
