use Rattle.prints.proofs.PartReading.{part_by_cut}
use Rattle.prints.proofs.cursor.cut_at.Goals as goal

pub returns : goal.returns
returns c = part_by_cut c.args.byte c.args.text.now c.split_once.result c.split_once.ensures
