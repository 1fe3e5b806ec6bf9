use Rattle.memo_format.proofs.FormTexts.{no_selectors, selectors_sound}
use Rattle.memo_format.proofs.selector.read_selectors.Goals as goal

pub returns-in-Ok-clause-found : goal.returns-in-Ok-clause-found
returns-in-Ok-clause-found c = selectors_sound c.args.bytes.now c.in-Ok.list.items c.in-Ok.ensures

pub returns-in-Err-BadPrint-clause-none : goal.returns-in-Err-BadPrint-clause-none
returns-in-Err-BadPrint-clause-none c = λ bad list h is. no_selectors c.args.bytes.now (rw c.in-Err-BadPrint.field-0-is at c.in-Err-BadPrint.ensures) list h is
