use Rattle.dscript_program.specs.Views.{program_data}
use Rattle.dscript_types_known.specs.Tables.{IsRight, open_count}
use Rattle.dscript_types.proofs.finding.Finder.find_all.Given as goal

abbrev pub invariant-passes : goal.invariant-passes
invariant-passes l = IsRight (program_data l.self.program.now) l.table

abbrev pub decreases-passes : goal.decreases-passes
decreases-passes l = open_count l.table
