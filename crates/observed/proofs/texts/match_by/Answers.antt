use Rattle.observed.proofs.ReadTexts.{match_made, no_match}
use Rattle.observed.proofs.texts.match_by.Goals as goal

pub returns-in-Some : goal.returns-in-Some
returns-in-Some c =
    match_made c.ask_at.result c.args.pattern.now c.in-Some.pattern c.args.path.now (rw c.in-Some.is at c.in_ok-pattern.ensures) c.ask_at.ensures

pub returns-in-None : goal.returns-in-None
returns-in-None c = no_match c.args.pattern.now c.args.path.now (rw c.in-None.is at c.in_ok-pattern.ensures)
