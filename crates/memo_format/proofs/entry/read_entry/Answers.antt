use Rattle.memo_format.proofs.FormTexts.{entry_sound, no_entry}
use Rattle.memo_format.proofs.entry.read_entry.Goals as goal

pub returns-in-Ok-clause-found : goal.returns-in-Ok-clause-found
returns-in-Ok-clause-found c = entry_sound c.args.bytes.now c.in-Ok.entry c.in-Ok.ensures

pub returns-in-Err-BadPrint-clause-none : goal.returns-in-Err-BadPrint-clause-none
returns-in-Err-BadPrint-clause-none c = λ bad e h is. no_entry c.args.bytes.now (rw c.in-Err-BadPrint.field-0-is at c.in-Err-BadPrint.ensures) e h is
