-- The types of ambient calls.
use Rattle.std.specs.Prelude.{ℕ, not, Bool, true, List, [], ◌∷◌, codes, filter, map, Option}
use Rattle.std.specs.List.{list_any}
use Rattle.std.specs.Str.{bytes_eq}
use Rattle.dscript_program.specs.declared.ambient.Ambient.{Ambient}
use Rattle.dscript_program.specs.declared.ambient.Ambient.TheVariants as calls
use Rattle.dscript_types_meaning.specs.declared.kind.Kind.TheVariants as kinds
use Rattle.dscript_types_meaning.specs.Types.{TypeData, MemberData, FieldData, Objects, field_list}
use Rattle.dscript_types_meaning.specs.Types.{kind_type, list_type, members_of, never, object_type, to_fields}
use Rattle.dscript_types_meaning.specs.Unions.{join, undefined_type, union_of, with_undefined}
use Rattle.dscript_types_meaning.specs.Objects.{holding, put_fields}
use Rattle.dscript_types_meaning.specs.Annotations.{static_type}
use Rattle.dscript_types_meaning.specs.Operators.{boolean_type, text_type, types_of_kinds}
use Rattle.dscript_types_meaning.specs.Access.{Signature, answer_of}

abbrev pub path_type : TypeData
path_type = kind_type kinds.Path

abbrev pub file_type : TypeData
file_type = kind_type kinds.File

abbrev pub directory_type : TypeData
directory_type = kind_type kinds.Directory

-- the objects with these fields
abbrev pub object_of : List FieldData → TypeData
object_of fields = object_type (put_fields [] fields)

-- a field that may be missing, and holds a value of this type where it is there
abbrev pub optional_field : List ℕ → TypeData → FieldData
optional_field name t = record { name = name; optional = true; type_data = t }

-- ## What calls take

abbrev pub written_text : TypeData
written_text = object_of (holding (codes "outputPath") path_type ∷ holding (codes "text") text_type ∷ [])

abbrev pub written_lines : TypeData
written_lines =
    object_of (holding (codes "outputPath") path_type ∷ holding (codes "lines") (list_type text_type) ∷ [])

-- what an argument of a process may be made of
abbrev pub argument_value : TypeData
argument_value =
    with_undefined (types_of_kinds (kinds.String ∷ kinds.Number ∷ kinds.Path ∷ kinds.File ∷ kinds.Directory
    ∷ kinds.PathAtom ∷ kinds.Artifact ∷ []))

abbrev pub tool : TypeData
tool = object_of (holding (codes "exe") file_type ∷ optional_field (codes "description") text_type ∷ [])

abbrev pub shared_directory : TypeData
shared_directory =
    object_of (holding (codes "kind") text_type ∷ holding (codes "directory") directory_type ∷ [])

abbrev pub process_output : TypeData
process_output = join path_type (join directory_type shared_directory)

abbrev pub variable : TypeData
variable = object_of (holding (codes "name") text_type ∷ holding (codes "value") text_type ∷ [])

-- what `Transformer.execute` takes, but for the fields that may hold anything
abbrev pub executed : TypeData
executed = object_of (
    holding (codes "tool") tool
    ∷ optional_field (codes "arguments") (list_type (kind_type kinds.Argument))
    ∷ optional_field (codes "workingDirectory") directory_type
    ∷ optional_field (codes "dependencies") (list_type (join file_type static_type))
    ∷ optional_field (codes "outputs") (list_type process_output)
    ∷ optional_field (codes "consoleOutput") path_type
    ∷ optional_field (codes "environmentVariables") (list_type variable)
    ∷ [])

-- ## Signatures

abbrev pub takes : List TypeData → TypeData → Signature
takes types answers = record { takes = types; answers = answers }

unfoldable pub ambient_signature : Ambient → Signature
ambient_signature calls.WriteAllText = takes (written_text ∷ []) file_type
ambient_signature calls.WriteAllLines = takes (written_lines ∷ []) file_type
ambient_signature calls.CopyFile = takes (file_type ∷ path_type ∷ []) file_type
ambient_signature calls.SealDirectory =
    takes (directory_type ∷ list_type file_type ∷ []) (kind_type kinds.Seal)
ambient_signature calls.SealPartialDirectory =
    takes (directory_type ∷ list_type file_type ∷ []) (kind_type kinds.Seal)
ambient_signature calls.SealSourceDirectory =
    takes (directory_type ∷ with_undefined text_type ∷ []) (kind_type kinds.Seal)
ambient_signature calls.Execute = takes (executed ∷ []) (kind_type kinds.Process)
ambient_signature calls.CmdArgument = takes (argument_value ∷ []) (kind_type kinds.Argument)
ambient_signature calls.CmdOption = takes (text_type ∷ argument_value ∷ []) (kind_type kinds.Argument)
ambient_signature calls.CmdFlag =
    takes (text_type ∷ with_undefined boolean_type ∷ []) (kind_type kinds.Argument)
ambient_signature calls.ArtifactInput = takes (join file_type static_type ∷ []) (kind_type kinds.Artifact)
ambient_signature calls.ArtifactOutput =
    takes (join path_type directory_type ∷ []) (kind_type kinds.Artifact)
ambient_signature calls.ArtifactNone =
    takes (join path_type (join file_type directory_type) ∷ []) (kind_type kinds.Artifact)
ambient_signature calls.NewOutputDirectory = takes (text_type ∷ []) directory_type
ambient_signature calls.Fail = takes (text_type ∷ []) never
ambient_signature calls.Assert = takes (boolean_type ∷ text_type ∷ []) undefined_type
ambient_signature calls.Requires = takes (boolean_type ∷ text_type ∷ []) undefined_type
ambient_signature calls.Glob = takes (directory_type ∷ text_type ∷ []) (list_type file_type)
ambient_signature calls.GlobRecursive = takes (directory_type ∷ text_type ∷ []) (list_type file_type)

-- ## Calls

-- the fields of `Transformer.execute` that may hold anything
abbrev pub is_free_field : FieldData → Bool
is_free_field f = list_any (bytes_eq f.name) (codes "description" ∷ codes "tags" ∷ [])

abbrev pub without_free : MemberData → MemberData
without_free (Objects fields) = Objects (to_fields (filter (λ f. not (is_free_field f)) (field_list fields)))
without_free m = m

-- the types of given arguments, without what the call does not look at
abbrev pub looked_at : Ambient → List TypeData → List TypeData
looked_at calls.Execute (t ∷ further) = union_of (map without_free (members_of t)) ∷ further
looked_at _ given = given

-- what an ambient call answers at arguments of these types
unfoldable pub ambient_type : Ambient → List TypeData → Option TypeData
ambient_type call given = answer_of (looked_at call given) (ambient_signature call)
