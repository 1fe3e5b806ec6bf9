use Rattle.dscript_program.specs.Views.{program_data}
use Rattle.dscript_types.proofs.Looking.{FileGoes}
use Rattle.dscript_types.proofs.finding.Finder.look_at_file.Given as goal

abbrev pub invariant-decls : goal.invariant-decls
invariant-decls l =
    FileGoes (program_data l.self.program.now) l.initial.table l.initial.visits l.file l.place l.table l.visits
