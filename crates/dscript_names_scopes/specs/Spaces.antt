-- Where the values are that a dotted name may stand for.
use Rattle.std.specs.Prelude.{ℕ, Bool, List, ◌∷◌, ◌++◌, Option, Some, None, if◌then◌else◌}
use Rattle.std.specs.Option.{option_map}
use Rattle.dscript_program.specs.ProgramData.{Dotted}
use Rattle.dscript_program.specs.declared.target.Target.{Target}
use Rattle.dscript_program.specs.declared.target.Target.TheVariants as targets
use Rattle.dscript_program.specs.declared.spec_fault.SpecKind.{SpecKind}
use Rattle.dscript_program.specs.declared.spec_fault.SpecKind.TheVariants as faults
use Rattle.dscript_names_scopes.specs.Declarations.{is_any}
use Rattle.dscript_names_scopes.specs.Lookup.{Site, sdk_call, value_in}
use Rattle.dscript_names_scopes.specs.Tables.{at_module}
use Rattle.dscript_names_scopes.specs.declared.found.Found.{Found}
use Rattle.dscript_names_scopes.specs.declared.spaces.Space.{Space}
use Rattle.dscript_names_scopes.specs.declared.spaces.Space.TheVariants as spaces
use Rattle.dscript_names_scopes.specs.declared.site.Site as sites

abbrev pub target_in : Space → Dotted → Option Target
target_in (spaces.File n file) name = option_map (targets.Declared n) (value_in is_any file.now name)
target_in (spaces.Values values m) name = at_module values.now.tables m name
target_in spaces.Sdk name = sdk_call name

abbrev pub site_data : sites.Site → Site
site_data s = record { number = s.number; file = s.file.now; around = s.around.now }

-- why names are refused that stand for nothing public: a value of the module is hidden, or there is none
abbrev pub kind_hidden : Option Found → SpecKind
kind_hidden (Some found) = faults.NotPublic
kind_hidden None = faults.UnknownName

-- the text of a dotted name with a part after it
abbrev pub with_part : Bool → List ℕ → List ℕ → List ℕ
with_part is_first text part = text ++ (if is_first then part else 46 ∷ part)
