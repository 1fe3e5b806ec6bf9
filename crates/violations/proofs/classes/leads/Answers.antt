use Rattle.std.proofs.lemmas.Bool.Decides.{same_from_decides}
use Rattle.violations.specs.Leading.{leads}
use Rattle.violations.proofs.Walking.{leads_decides}
use Rattle.violations.proofs.classes.leads.Goals as goal

pub returns : goal.returns
returns c =
    same_from_decides c.reaches.result (leads c.args.plan.now.pips c.args.from c.args.to) c.reaches.ensures
    (leads_decides c.args.plan.now.pips c.requires.list c.args.from c.args.to)
