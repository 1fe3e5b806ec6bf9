use Rattle.std.proofs.Common.{◌≡◌, ℕ, length, map}
use Rattle.std.specs.Option.{option_or}
use Rattle.dscript_program.specs.ProgramData.{Dotted}
use Rattle.dscript_program.specs.Views.{file_data}
use Rattle.dscript_types_meaning.specs.Lookups.{in_module}
use Rattle.dscript_types_notes.specs.Names.{at_module}
use Rattle.dscript_types_notes.proofs.names.types_of_modules.Given as goal

abbrev pub invariant-last : goal.invariant-last
invariant-last l = (m : ℕ) (name : Dotted) →
    option_or (in_module m 0 (map file_data l.left) name) (at_module l.modules m name)
    ≡ in_module m 0 (map file_data l.fn.files) name

abbrev pub decreases-last : goal.decreases-last
decreases-last l = length l.left
