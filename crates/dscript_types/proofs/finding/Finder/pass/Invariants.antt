use Rattle.dscript_program.specs.Views.{program_data}
use Rattle.dscript_types.proofs.Looking.{FilesGo}
use Rattle.dscript_types.proofs.finding.Finder.pass.Given as goal

abbrev pub invariant-looked : goal.invariant-looked
invariant-looked l = FilesGo (program_data l.self.program.now) l.initial.table l.initial.visits l.file l.table l.visits
