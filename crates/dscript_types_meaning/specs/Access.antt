-- The types of members and indices.
use Rattle.std.specs.Prelude.{ℕ, not, Bool, true, false, if◌then◌else◌, List, [], ◌∷◌, ◌++◌, filter, map}
use Rattle.std.specs.Prelude.{Option, Some, None}
use Rattle.std.specs.Option.{option_and_then}
use Rattle.dscript_sdk_members.specs.Names.{member_named}
use Rattle.dscript_sdk_members.specs.declared.member.Member.{Member}
use Rattle.dscript_sdk_members.specs.declared.member.Member.TheVariants as members
use Rattle.dscript_types_meaning.specs.declared.kind.Kind.{Kind}
use Rattle.dscript_types_meaning.specs.declared.kind.Kind.TheVariants as kinds
use Rattle.dscript_types_meaning.specs.Types.{TypeData, MemberData, FieldData, FieldRow, Values, Lists, Objects}
use Rattle.dscript_types_meaning.specs.Types.{field_list, kind_type, list_type, members_of}
use Rattle.dscript_types_meaning.specs.Sizes.{within_limit}
use Rattle.dscript_types_meaning.specs.Unions.{can_be_list, if_optional, is_list, is_list_type, items_of}
use Rattle.dscript_types_meaning.specs.Unions.{join, join_all, undefined_type, with_undefined}
use Rattle.dscript_types_meaning.specs.Fits.{field_named, fits}
use Rattle.dscript_types_meaning.specs.Operators.{at_each, boolean_type, may_be_alike, number_type}
use Rattle.dscript_types_meaning.specs.Operators.{text_type}

-- The members of a type at which a member of values is taken. Its lists count as one list of all their items.
abbrev pub accessed : TypeData → List MemberData
accessed t =
    if can_be_list t then filter (λ m. not (is_list m)) (members_of t) ++ Lists (items_of t) ∷ []
    else members_of t

-- ## Members that are no functions

abbrev pub property_of_kind : Kind → Member → Option TypeData
property_of_kind kinds.String members.Length = Some number_type
property_of_kind kinds.Path members.Name = Some (kind_type kinds.PathAtom)
property_of_kind kinds.Path members.Parent = Some (kind_type kinds.Directory)
property_of_kind kinds.File members.Name = Some (kind_type kinds.PathAtom)
property_of_kind kinds.File members.Parent = Some (kind_type kinds.Directory)
property_of_kind kinds.File members.Path = Some (kind_type kinds.Path)
property_of_kind kinds.Directory members.Name = Some (kind_type kinds.PathAtom)
property_of_kind kinds.Directory members.Parent = Some (kind_type kinds.Directory)
property_of_kind kinds.Seal members.Root = Some (kind_type kinds.Directory)
property_of_kind kinds.Opaque members.Root = Some (kind_type kinds.Directory)
property_of_kind _ _ = None

abbrev pub property_of_list : Member → Option TypeData
property_of_list members.Length = Some number_type
property_of_list _ = None

-- what a field holds, with undefined where it may be missing; a name that is no field's gives undefined
abbrev pub held_by : Option FieldData → TypeData
held_by None = undefined_type
held_by (Some f) = if_optional f.optional f.type_data

abbrev pub property_of : List ℕ → MemberData → Option TypeData
property_of name (Values kind) = option_and_then (property_of_kind kind) (member_named name)
property_of name (Lists item) = option_and_then property_of_list (member_named name)
property_of name (Objects fields) = Some (held_by (field_named (field_list fields) name))

-- a name after a value, where it is not called: each member of the type must have it, and not as a function
unfoldable pub member_type : TypeData → List ℕ → Option TypeData
member_type t name = option_and_then within_limit (at_each (property_of name) (accessed t))

-- ## Indices

-- all that the fields hold, and undefined
abbrev pub any_field : FieldRow → TypeData
any_field fields =
    with_undefined (join_all (map (λ (f : FieldData). f.type_data) (field_list fields)))

-- a list at a number, an object at a text
abbrev pub at_index : TypeData → MemberData → Option TypeData
at_index index (Values kind) = None
at_index index (Lists item) = if fits index number_type then Some item else None
at_index index (Objects fields) = if fits index text_type then Some (any_field fields) else None

unfoldable pub indexed : TypeData → TypeData → Option TypeData
indexed t index = option_and_then within_limit (at_each (at_index index) (members_of t))

-- ## Member functions

-- the types of arguments, and what is answered
pub record Signature : Type 0 where
  pub takes : List TypeData
  pub answers : TypeData

abbrev pub signature : List TypeData → TypeData → Option Signature
signature takes answers = Some (record { takes = takes; answers = answers })

abbrev pub method_of_kind : Kind → Member → Option Signature
method_of_kind kinds.String members.Contains = signature (text_type ∷ []) boolean_type
method_of_kind kinds.String members.StartsWith = signature (text_type ∷ []) boolean_type
method_of_kind kinds.String members.EndsWith = signature (text_type ∷ []) boolean_type
method_of_kind kinds.String members.Split = signature (text_type ∷ []) (list_type text_type)
method_of_kind kinds.Path members.Combine = signature (text_type ∷ []) (kind_type kinds.Path)
method_of_kind kinds.Path members.ChangeExtension = signature (text_type ∷ []) (kind_type kinds.Path)
method_of_kind kinds.File members.Combine = signature (text_type ∷ []) (kind_type kinds.Path)
method_of_kind kinds.File members.ChangeExtension = signature (text_type ∷ []) (kind_type kinds.Path)
method_of_kind kinds.Directory members.Combine = signature (text_type ∷ []) (kind_type kinds.Path)
method_of_kind kinds.Seal members.GetFile = signature (kind_type kinds.Path ∷ []) (kind_type kinds.File)
method_of_kind kinds.Seal members.GetContent = signature [] (list_type (kind_type kinds.File))
method_of_kind kinds.Process members.GetOutputFile =
    signature (kind_type kinds.Path ∷ []) (kind_type kinds.File)
method_of_kind kinds.Process members.GetOutputDirectory =
    signature (kind_type kinds.Directory ∷ []) (kind_type kinds.Opaque)
method_of_kind _ _ = None

-- given arguments fit what is taken; missing ones pass, and further ones are free
abbrev pub arguments_fit : List TypeData → List TypeData → Bool
arguments_fit [] given = true
arguments_fit (t ∷ takes) [] = true
arguments_fit (t ∷ takes) (g ∷ given) = elim (fits g t) [
  | true ↦ arguments_fit takes given
  | false ↦ false
]

abbrev pub answer_of : List TypeData → Signature → Option TypeData
answer_of given s = if arguments_fit s.takes given then Some s.answers else None

-- a list and the items of another, which may be missing
abbrev pub concatenated : TypeData → List TypeData → Option TypeData
concatenated item [] = Some (list_type item)
concatenated item (t ∷ further) = if is_list_type t then Some (list_type (join item (items_of t))) else None

-- an item must not be a list where the argument can be one, and likewise of objects
abbrev pub contained : TypeData → List TypeData → Option TypeData
contained item [] = Some boolean_type
contained item (t ∷ further) = if may_be_alike item t then None else Some boolean_type

abbrev pub joined_texts : TypeData → List TypeData → Option TypeData
joined_texts item given =
    if fits item text_type then answer_of given (record { takes = text_type ∷ []; answers = text_type }) else None

-- the member functions of lists that call no functions
abbrev pub method_of_list : Member → TypeData → List TypeData → Option TypeData
method_of_list members.Concat item given = concatenated item given
method_of_list members.Contains item given = contained item given
method_of_list members.Join item given = joined_texts item given
method_of_list _ item given = None

abbrev pub method_of : Member → List TypeData → MemberData → Option TypeData
method_of member given (Values kind) = option_and_then (answer_of given) (method_of_kind kind member)
method_of member given (Lists item) = method_of_list member item given
method_of member given (Objects row) = None

abbrev pub method_named : Option Member → List TypeData → MemberData → Option TypeData
method_named None given m = None
method_named (Some member) given m = method_of member given m

-- the call of a member function that calls no functions: each member of the type must have it
unfoldable pub method_type : TypeData → List ℕ → List TypeData → Option TypeData
method_type t name given =
    option_and_then within_limit (at_each (method_named (member_named name) given) (accessed t))
