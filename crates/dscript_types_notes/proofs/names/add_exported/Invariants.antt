use Rattle.std.proofs.Common.{◌≡◌, ℕ, length, map}
use Rattle.std.specs.Option.{option_map, option_or}
use Rattle.dscript_program.specs.ProgramData.{Dotted}
use Rattle.dscript_program.specs.Views.{decl_data}
use Rattle.dscript_names_scopes.specs.Declarations.{is_exported}
use Rattle.dscript_types_meaning.specs.Lookups.{type_in}
use Rattle.dscript_types_notes.specs.Names.{at_name}
use Rattle.dscript_types_notes.proofs.names.add_exported.Given as goal

abbrev pub invariant-last : goal.invariant-last
invariant-last l = (name : Dotted) →
    option_or (option_map (λ (decl : ℕ). (l.file, decl)) (type_in is_exported (map decl_data l.left) name)) (at_name l.types name)
    ≡ option_or (option_map (λ (decl : ℕ). (l.file, decl)) (type_in is_exported (map decl_data l.fn.decls) name))
    (at_name l.initial.types name)

abbrev pub decreases-last : goal.decreases-last
decreases-last l = length l.left
