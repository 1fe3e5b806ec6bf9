-- What the faults of types say.
use Rattle.std.specs.Prelude.{⊤}
use Rattle.dscript_program.specs.ProgramData.{ProgramData}
use Rattle.dscript_types.specs.declared.fault.TypeFault.{TypeFault}
use Rattle.dscript_types.specs.declared.fault.TypeFault.TheVariants as type_faults
use Rattle.dscript_types_meaning.specs.Typed.{IsFirstUntyped}

-- the file is the first in which some expression has no type; running out of memory has no cause that is stated
abbrev pub Refuses : ProgramData → TypeFault → Type 0
Refuses p (type_faults.Untyped file) = IsFirstUntyped p file
Refuses p type_faults.Memory = ⊤
