use Rattle.std.proofs.Common.{◌≡◌, rules, ap, ◌∙◌}
use mir.Syntax.{w32}
use mir.Val.{to_z, of_z}
use Rattle.dscript_program.specs.BoundTree as tree
use Rattle.dscript_value.specs.Plain as plain
use Rattle.dscript_value.specs.Plain.{plain_of}
use Rattle.dscript_eval_direct.specs.Now.{knowledge}
use Rattle.dscript_eval_direct.proofs.Steps.{at_later, number_gives}
use Rattle.dscript_eval_direct.proofs.leaves.number_now.Goals as goal

pub returns : goal.returns
returns c =
    let same : to_z w32 (of_z w32 c.args.number) ≡ c.args.number = search rules in
    at_later (knowledge c.args.known.now) (tree.Number c.args.number) c.args.left
    (plain_of c.number_value-value.result) _ _ c.in_ok-after.ensures.1
    (number_gives (knowledge c.args.known.now) c.args.number (plain_of c.number_value-value.result) c.args.left
    (c.number_value-value.ensures ∙ ap plain.Number same) c.in_ok-after.ensures.0)
