use Rattle.dscript_value.specs.Plain.{plain_of}
use Rattle.dscript_eval_direct.specs.Now.{knowledge}
use Rattle.dscript_eval_direct.proofs.Makes.{member_gives}
use Rattle.dscript_eval_direct.proofs.values.member_now.Goals as goal

pub returns-in-Some : goal.returns-in-Some
returns-in-Some c =
    member_gives (knowledge c.args.known.now) c.args.name.now (plain_of c.args.value) (plain_of c.in-Some.found)
    c.args.left _ c.in_ok-after.ensures.0 c.in_ok-after.ensures.1 c.in-Some.ensures.other c.in-Some.ensures.value
