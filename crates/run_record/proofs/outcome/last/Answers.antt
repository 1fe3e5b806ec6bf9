use Rattle.std.proofs.Common.{◌∙◌, sym}
use Rattle.run_record.proofs.LastAccess.{last_is}
use Rattle.run_record.proofs.outcome.last.Goals as goal

pub returns : goal.returns
returns c = c.last.ensures.value ∙ sym (last_is c.args.accesses.now)
