use Rattle.dscript_program.specs.Views.{program_data}
use Rattle.dscript_types.specs.Visits.{looks_in}
use Rattle.dscript_types.proofs.Looking.{LooksDown}
use Rattle.dscript_types.proofs.finding.Finder.look_down.Given as goal

abbrev pub invariant-waiting : goal.invariant-waiting
invariant-waiting l =
    LooksDown (program_data l.self.program.now) l.initial.table l.table l.initial.visits l.visits l.fn.at l.waiting.items

abbrev pub decreases-waiting : goal.decreases-waiting
decreases-waiting l = looks_in l.waiting.items l.visits
