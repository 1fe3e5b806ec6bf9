-- Names of types that need no declaration, and what they mean.
use Rattle.std.specs.Prelude.{ℕ, List, codes}
use Rattle.dscript_types_meaning.specs.declared.kind.Kind.TheVariants as kinds
use Rattle.dscript_types_meaning.specs.Annotations.{static_type}
use Rattle.dscript_types_meaning.specs.Types.{TypeData, kind_type, never}
use Rattle.dscript_types_meaning.specs.Unions.{undefined_type}
use Rattle.dscript_types_notes.specs.declared.known_names.KnownName.{KnownName}
use Rattle.dscript_types_notes.specs.declared.known_names.KnownName.TheVariants as names

unfoldable pub written_name : KnownName → List ℕ
written_name names.Boolean = codes "boolean"
written_name names.Number = codes "number"
written_name names.String = codes "string"
written_name names.Path = codes "Path"
written_name names.File = codes "File"
written_name names.Directory = codes "Directory"
written_name names.RelativePath = codes "RelativePath"
written_name names.PathAtom = codes "PathAtom"
written_name names.Seal = codes "Seal"
written_name names.Opaque = codes "Opaque"
written_name names.StaticDirectory = codes "StaticDirectory"
written_name names.Process = codes "Process"
written_name names.TransformerExecuteResult = codes "TransformerExecuteResult"
written_name names.Artifact = codes "Artifact"
written_name names.Argument = codes "Argument"
written_name names.Void = codes "void"
written_name names.Never = codes "never"

abbrev pub type_named : KnownName → TypeData
type_named names.Boolean = kind_type kinds.Boolean
type_named names.Number = kind_type kinds.Number
type_named names.String = kind_type kinds.String
type_named names.Path = kind_type kinds.Path
type_named names.File = kind_type kinds.File
type_named names.Directory = kind_type kinds.Directory
type_named names.RelativePath = kind_type kinds.RelativePath
type_named names.PathAtom = kind_type kinds.PathAtom
type_named names.Seal = kind_type kinds.Seal
type_named names.Opaque = kind_type kinds.Opaque
type_named names.StaticDirectory = static_type
type_named names.Process = kind_type kinds.Process
type_named names.TransformerExecuteResult = kind_type kinds.Process
type_named names.Artifact = kind_type kinds.Artifact
type_named names.Argument = kind_type kinds.Argument
type_named names.Void = undefined_type
type_named names.Never = never
