use Rattle.dscript_sdk_pips.proofs.Listed.{listed_from_answer}
use Rattle.dscript_sdk_pips.proofs.sealing.is_listed.Goals as goal

pub returns : goal.returns
returns c = listed_from_answer c.args.files.now c.args.path.now c.has_path.result c.has_path.ensures
