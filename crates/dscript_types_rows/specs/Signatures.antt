-- What contracts see of signatures.
use Rattle.std.specs.Prelude.{List, [], ◌∷◌, codes}
use Rattle.dscript_types_meaning.specs.Access.{Signature}
use Rattle.dscript_types_meaning.specs.Ambients.{directory_type, file_type, optional_field, path_type, process_output, tool, variable}
use Rattle.dscript_types_meaning.specs.Annotations.{static_type}
use Rattle.dscript_types_meaning.specs.Objects.{holding}
use Rattle.dscript_types_meaning.specs.Types.{FieldData, kind_type, list_type}
use Rattle.dscript_types_meaning.specs.Unions.{join}
use Rattle.dscript_types_meaning.specs.declared.kind.Kind.TheVariants as kinds
use Rattle.dscript_types_rows.specs.declared.signatures.Signature.{Signature as AnySignature}

abbrev pub signature_data : AnySignature → Signature
signature_data s = record { takes = s.takes.items; answers = s.answers }

-- ## What `Transformer.execute` takes

-- the tool of a process, its arguments, and where it runs
abbrev pub process_fields : List FieldData
process_fields =
    holding (codes "tool") tool
    ∷ optional_field (codes "arguments") (list_type (kind_type kinds.Argument))
    ∷ optional_field (codes "workingDirectory") directory_type
    ∷ []

-- what it reads and writes
abbrev pub file_fields : List FieldData
file_fields =
    optional_field (codes "dependencies") (list_type (join file_type static_type))
    ∷ optional_field (codes "outputs") (list_type process_output)
    ∷ []

-- where what it prints goes, and its environment
abbrev pub further_fields : List FieldData
further_fields =
    optional_field (codes "consoleOutput") path_type
    ∷ optional_field (codes "environmentVariables") (list_type variable)
    ∷ []
