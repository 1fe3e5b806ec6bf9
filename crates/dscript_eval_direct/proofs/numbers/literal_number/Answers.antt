use Rattle.std.proofs.Common.{◌≡◌, rules, ap}
use mir.Syntax.{w32}
use mir.Val.{to_z, of_z}
use Rattle.dscript_program.specs.BoundTree as tree
use Rattle.dscript_value.specs.Plain as plain
use Rattle.dscript_eval_direct.specs.Now.{knowledge}
use Rattle.dscript_eval_direct.proofs.Steps.{at_later, number_gives}
use Rattle.dscript_eval_direct.proofs.numbers.literal_number.Goals as goal

pub returns-then-spend : goal.returns-then-spend
returns-then-spend c =
    let same : to_z w32 (of_z w32 c.args.number) ≡ c.args.number = search rules in
    at_later (knowledge c.args.known.now) (tree.Number c.args.number) c.args.left.now
    (plain.Number (to_z w32 (of_z w32 c.args.number))) _ _ (c.spend.ensures.spent c.if-spend.true)
    (number_gives (knowledge c.args.known.now) c.args.number (plain.Number (to_z w32 (of_z w32 c.args.number)))
    c.args.left.now (ap plain.Number same) (c.spend.ensures.enough c.if-spend.true))
