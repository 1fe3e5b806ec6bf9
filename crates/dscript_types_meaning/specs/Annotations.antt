-- What types mean that are written in a program.
use Rattle.std.specs.Prelude.{ℕ, zero, suc, Bool, false, if◌then◌else◌, List, [], ◌∷◌, codes, find}
use Rattle.std.specs.Prelude.{Option, Some, None}
use Rattle.std.specs.Option.{option_and_then, option_map}
use Rattle.std.specs.List.{list_any}
use Rattle.std.specs.Str.{bytes_eq}
use Rattle.dscript_ast.specs.TypeTree as tree
use Rattle.dscript_ast.specs.TypeTree.{TypeTree, TypeTrees, MemberTree, MemberTrees, to_members, to_types}
use Rattle.dscript_program.specs.ProgramData as declared
use Rattle.dscript_program.specs.ProgramData.{Dotted, KindData, ProgramData}
use Rattle.dscript_types_meaning.specs.declared.kind.Kind.TheVariants as kinds
use Rattle.dscript_types_meaning.specs.Types.{TypeData, FieldData, Union, Objects}
use Rattle.dscript_types_meaning.specs.Types.{no_members, more_members, field_list, kind_type, list_type, never}
use Rattle.dscript_types_meaning.specs.Types.{object_type}
use Rattle.dscript_types_meaning.specs.Sizes.{within_limit}
use Rattle.dscript_types_meaning.specs.Unions.{join, join_all, undefined_type}
use Rattle.dscript_types_meaning.specs.Objects.{put_field, put_fields}
use Rattle.dscript_types_meaning.specs.Contexts.{Context, Known, Meaning}
use Rattle.dscript_types_meaning.specs.Lookups.{Place, found_type}

-- ## Names that need no declaration

abbrev pub static_type : TypeData
static_type = join (kind_type kinds.Seal) (kind_type kinds.Opaque)

abbrev pub names_of_types : List (List ℕ × TypeData)
names_of_types =
    (codes "boolean", kind_type kinds.Boolean) ∷ (codes "number", kind_type kinds.Number)
    ∷ (codes "string", kind_type kinds.String) ∷ (codes "Path", kind_type kinds.Path)
    ∷ (codes "File", kind_type kinds.File) ∷ (codes "Directory", kind_type kinds.Directory)
    ∷ (codes "RelativePath", kind_type kinds.RelativePath) ∷ (codes "PathAtom", kind_type kinds.PathAtom)
    ∷ (codes "Seal", kind_type kinds.Seal) ∷ (codes "Opaque", kind_type kinds.Opaque)
    ∷ (codes "StaticDirectory", static_type) ∷ (codes "Process", kind_type kinds.Process)
    ∷ (codes "TransformerExecuteResult", kind_type kinds.Process)
    ∷ (codes "Artifact", kind_type kinds.Artifact) ∷ (codes "Argument", kind_type kinds.Argument)
    ∷ (codes "void", undefined_type) ∷ (codes "never", never) ∷ []

-- a name without type arguments, or `Array` with one
abbrev pub known_name : List ℕ → List TypeData → Option TypeData
known_name x [] =
    option_map (λ (e : List ℕ × TypeData). e.1)
    (find (λ (e : List ℕ × TypeData). bytes_eq e.0 x) names_of_types)
known_name x (t ∷ []) = if bytes_eq x (codes "Array") then Some (list_type t) else None
known_name x (t ∷ u ∷ more) = None

-- a single name; no dotted name is known
abbrev pub undeclared : Dotted → List TypeData → Option TypeData
undeclared [] arguments = None
undeclared (x ∷ []) arguments = known_name x arguments
undeclared (x ∷ y ∷ names) arguments = None

-- ## Names of declarations

-- Nothing may be left over of the name, and no declared type takes arguments.
abbrev pub at_place : Known → Place → Dotted → List TypeData → Option TypeData
at_place known place [] [] = known (Meaning place.0 place.1)
at_place known place [] (t ∷ arguments) = None
at_place known place (x ∷ rest) arguments = None

abbrev pub declared_or_known : Known → Option (Place × Dotted) → Dotted → List TypeData → Option TypeData
declared_or_known known None names arguments = undeclared names arguments
declared_or_known known (Some found) names arguments = at_place known found.0 found.1 arguments

-- whether the name begins with a type parameter
abbrev pub is_parameter : List (List ℕ) → Dotted → Bool
is_parameter parameters [] = false
is_parameter parameters (x ∷ names) = list_any (bytes_eq x) parameters

-- the type of a dotted name with these type arguments; a type parameter hides what is outside, and means nothing
abbrev pub named_type : ProgramData → Known → Context → Dotted → List TypeData → Option TypeData
named_type p known c names arguments =
    if is_parameter c.parameters names then None
    else declared_or_known known (found_type p c.file c.around names) names arguments

-- ## Written types

-- lists of lists, one for each of this number
abbrev pub lists_of : ℕ → TypeData → TypeData
lists_of zero t = t
lists_of (suc n) t = list_type (lists_of n t)

-- the fields of a type that is one object type
abbrev pub one_object : TypeData → Option (List FieldData)
one_object (Union (more_members (Objects fields) no_members)) = Some (field_list fields)
one_object _ = None

module _ (p : ProgramData) (known : Known) (c : Context) where
  -- Types of functions, and members that are functions, mean nothing, and nor does what has such a part. Of fields
  -- of one name the last counts.
  unfoldable mutual
    pub meant : TypeTree → Option TypeData
    meant (tree.Union ts) = option_and_then (λ us. within_limit (join_all us)) (all_meant ts)
    meant (tree.Array t n) = option_and_then (λ u. within_limit (lists_of n u)) (meant t)
    meant (tree.Named names ts) =
        option_and_then (λ us. option_and_then within_limit (named_type p known c names us)) (all_meant ts)
    meant (tree.Str text) = Some (kind_type kinds.String)
    meant (tree.Number n) = Some (kind_type kinds.Number)
    meant tree.Undefined = Some undefined_type
    meant tree.True = Some (kind_type kinds.Boolean)
    meant tree.False = Some (kind_type kinds.Boolean)
    meant (tree.Body members) =
        option_and_then (λ fields. within_limit (object_type fields)) (fields_after members [])
    meant (tree.Function parameters t) = None

    pub all_meant : TypeTrees → Option (List TypeData)
    all_meant tree.no_types = Some []
    all_meant (tree.more_types t more) =
        option_and_then (λ u. option_map (λ us. u ∷ us) (all_meant more)) (meant t)

    -- the fields of members that come after others
    pub fields_after : MemberTrees → List FieldData → Option (List FieldData)
    fields_after tree.no_members done = Some done
    fields_after (tree.more_members (tree.Property name optional t) more) done =
        option_and_then
        (λ u. fields_after more (put_field done (record { name = name; optional = optional; type_data = u })))
        (meant t)
    fields_after (tree.more_members (tree.Method name optional parameters t) more) done = None

  -- ## Declarations

  -- the fields that an interface gets from what it extends, of which the later count
  abbrev pub extended : List TypeTree → List FieldData → Option (List FieldData)
  extended [] done = Some done
  extended (t ∷ ts) done =
      option_and_then (λ fields. extended ts (put_fields done fields)) (option_and_then one_object (meant t))

  -- The meaning of an interface or an alias, which has no type parameters. An interface's own fields count.
  abbrev pub declared_type : KindData → Option TypeData
  declared_type (declared.Interface [] es ms) =
      option_and_then
      (λ fields. option_and_then (λ all. within_limit (object_type all)) (fields_after (to_members ms) fields))
      (extended es [])
  declared_type (declared.TypeAlias [] t) = meant t
  declared_type _ = None
