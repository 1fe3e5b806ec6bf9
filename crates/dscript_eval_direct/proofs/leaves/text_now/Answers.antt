use Rattle.dscript_program.specs.BoundTree as tree
use Rattle.dscript_value.specs.Plain.{plain_of}
use Rattle.dscript_eval_direct.specs.Now.{knowledge}
use Rattle.dscript_eval_direct.proofs.Steps.{at_later, text_gives}
use Rattle.dscript_eval_direct.proofs.leaves.text_now.Goals as goal

pub returns : goal.returns
returns c =
    at_later (knowledge c.args.known.now) (tree.Str c.args.text.now) c.args.left
    (plain_of c.in_ok-value.value) _ _ c.in_ok-after.ensures.1
    (text_gives (knowledge c.args.known.now) c.args.text.now (plain_of c.in_ok-value.value) c.args.left
    c.in_ok-value.ensures c.in_ok-after.ensures.0)
