use Rattle.observed.proofs.ReadTexts.{parts_by_cut}
use Rattle.observed.proofs.texts.blank_parts.Goals as goal

pub returns : goal.returns
returns c = parts_by_cut c.args.text.now c.split_once.result c.split_once.ensures
