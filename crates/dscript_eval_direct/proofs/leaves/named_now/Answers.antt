use Rattle.dscript_program.specs.BoundTree as tree
use Rattle.dscript_value.specs.Plain.{plain_of}
use Rattle.dscript_eval_direct.specs.Now.{knowledge}
use Rattle.dscript_eval_direct.proofs.Steps.{at_later, call_value_gives, constant_gives, local_gives}
use Rattle.dscript_eval_direct.proofs.leaves.named_now.Goals as goal

pub returns-in_ok-value-in-Local : goal.returns-in_ok-value-in-Local
returns-in_ok-value-in-Local c =
    at_later (knowledge c.args.known.now) (tree.Name c.args.target) c.args.left
    (plain_of c.in_ok-value-in-Local.value) _ _ c.in_ok-after.ensures.1
    (local_gives (knowledge c.args.known.now) c.args.target c.in-Local.local
    (plain_of c.in_ok-value-in-Local.value) c.args.left c.in-Local.is c.in_ok-value-in-Local.ensures.own
    c.in_ok-value-in-Local.ensures.held c.in_ok-after.ensures.0)

pub returns-in_ok-value-in-Declared : goal.returns-in_ok-value-in-Declared
returns-in_ok-value-in-Declared c =
    at_later (knowledge c.args.known.now) (tree.Name c.args.target) c.args.left
    (plain_of c.in_ok-value-in-Declared.value) _ _ c.in_ok-after.ensures.1
    (constant_gives (knowledge c.args.known.now) c.args.target c.in-Declared.file c.in-Declared.decl
    (plain_of c.in_ok-value-in-Declared.value) c.args.left c.in-Declared.is c.in_ok-value-in-Declared.ensures.constant
    c.in_ok-value-in-Declared.ensures.value c.in_ok-after.ensures.0)

pub returns-in_ok-value-in-Ambient : goal.returns-in_ok-value-in-Ambient
returns-in_ok-value-in-Ambient c =
    at_later (knowledge c.args.known.now) (tree.Name c.args.target) c.args.left
    (plain_of c.in_ok-value-in-Ambient.value) _ _ c.in_ok-after.ensures.1
    (call_value_gives (knowledge c.args.known.now) c.args.target c.in-Ambient.call
    (plain_of c.in_ok-value-in-Ambient.value) c.args.left c.in-Ambient.is c.in_ok-value-in-Ambient.ensures
    c.in_ok-after.ensures.0)
