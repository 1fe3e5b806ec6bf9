use Rattle.tool_faults.proofs.LinesFrom.{number_added, number_not}
use Rattle.tool_faults.proofs.numbers.add_number.Goals as goal

pub returns-then-not-says : goal.returns-then-not-says
returns-then-not-says c = number_not c.args.number c.args.line.now c.args.numbers.now.items c.says.result c.says.ensures c.if-not-says.true

pub returns : goal.returns
returns c =
    number_added c.args.number c.args.line.now c.args.numbers.now.items c.push.new.self.items c.says.result c.says.ensures c.if-not-says.false c.in_ok-push.ensures.items
