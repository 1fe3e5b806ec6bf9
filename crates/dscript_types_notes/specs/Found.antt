-- What is found by a dotted name.
use Rattle.std.specs.Prelude.{List, [], ◌∷◌, Option, None}
use Rattle.std.specs.Option.{option_map, option_or}
use Rattle.dscript_program.specs.ProgramData.{Dotted}
use Rattle.dscript_types_meaning.specs.Lookups.{Place, shortest}
use Rattle.dscript_types_notes.specs.declared.names.TypeNames.{TypeNames}
use Rattle.dscript_types_notes.specs.declared.spaces.FoundType.{FoundType}
use Rattle.dscript_types_notes.specs.declared.spaces.Space.{Space}
use Rattle.dscript_types_notes.specs.declared.spaces.Space.TheVariants as spaces
use Rattle.dscript_types_notes.specs.Names.{at_file, at_module}

abbrev pub found_data : FoundType → Place × Dotted
found_data f = ((f.file, f.decl), f.rest.now)

-- the type of a whole dotted name in the tables
abbrev pub found_in : TypeNames → Space → Dotted → Option Place
found_in names (spaces.File file) name = option_map (λ decl. (file, decl)) (at_file names file name)
found_in names (spaces.Module m) name = at_module names.modules m name

-- in the namespaces outwards, the first that has a type of a prefix of the name
abbrev pub outwards_in : (Dotted → Option Place) → List Dotted → Dotted → Option (Place × Dotted)
outwards_in find [] written = None
outwards_in find (before ∷ more) written = option_or (shortest find before written) (outwards_in find more written)
