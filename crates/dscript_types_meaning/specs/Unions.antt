-- Unions in their normal form: each member once, in the order of members.
use Rattle.std.specs.Prelude.{not, Bool, true, false, List, [], ◌∷◌, ◌++◌, filter, filter_map}
use Rattle.std.specs.Prelude.{flat_map, Option, Some, None}
use Rattle.std.specs.List.{list_all, list_any}
use Rattle.std.specs.BTreeSet.{insert_key}
use Rattle.dscript_types_meaning.specs.declared.kind.Kind.TheVariants as kinds
use Rattle.dscript_types_meaning.specs.Types.{TypeData, MemberData, Union, Values, Lists, Objects, members_of}
use Rattle.dscript_types_meaning.specs.Types.{kind_type, to_members}
use Rattle.dscript_types_meaning.specs.Codes.{member_cmp}

-- members in their order, equal ones once
abbrev pub set_of : List MemberData → List MemberData
set_of [] = []
set_of (m ∷ ms) = insert_key member_cmp (set_of ms) m

-- the union of these members
unfoldable pub union_of : List MemberData → TypeData
union_of ms = Union (to_members (set_of ms))

-- the union of two types, and of any number of types
abbrev pub join : TypeData → TypeData → TypeData
join t u = union_of (members_of t ++ members_of u)

abbrev pub join_all : List TypeData → TypeData
join_all ts = union_of (flat_map members_of ts)

-- ## Undefined

abbrev pub undefined_type : TypeData
undefined_type = kind_type kinds.Undefined

abbrev pub is_undefined : MemberData → Bool
is_undefined (Values kinds.Undefined) = true
is_undefined _ = false

abbrev pub with_undefined : TypeData → TypeData
with_undefined t = join t undefined_type

abbrev pub without_undefined : TypeData → TypeData
without_undefined t = union_of (filter (λ m. not (is_undefined m)) (members_of t))

-- a type, with undefined where it is optional
abbrev pub if_optional : Bool → TypeData → TypeData
if_optional false t = t
if_optional true t = with_undefined t

-- ## Lists and objects

abbrev pub is_list : MemberData → Bool
is_list (Lists item) = true
is_list _ = false

abbrev pub is_object : MemberData → Bool
is_object (Objects row) = true
is_object _ = false

-- whether a value of the type can be a list, and whether it can be an object
abbrev pub can_be_list : TypeData → Bool
can_be_list t = list_any is_list (members_of t)

abbrev pub can_be_object : TypeData → Bool
can_be_object t = list_any is_object (members_of t)

-- whether each value of the type is a list
abbrev pub is_list_type : TypeData → Bool
is_list_type t = list_all is_list (members_of t)

abbrev pub item_of : MemberData → Option TypeData
item_of (Lists item) = Some item
item_of _ = None

-- the items of the lists of a type
abbrev pub items_of : TypeData → TypeData
items_of t = join_all (filter_map item_of (members_of t))

abbrev pub is_never : TypeData → Bool
is_never t = list_all (λ m. false) (members_of t)
