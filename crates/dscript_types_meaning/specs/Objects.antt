-- The fields of object types, one after another.
use Rattle.std.specs.Prelude.{ℕ, ◌||◌, not, Bool, false, if◌then◌else◌, List, [], ◌∷◌, fold, map}
use Rattle.std.specs.Prelude.{filter_map, flat_map, Option, Some, None}
use Rattle.std.specs.List.{list_all}
use Rattle.std.specs.Option.{option_and_then, option_map}
use Rattle.std.specs.BTreeSet.{replace_key}
use Rattle.dscript_types_meaning.specs.Types.{TypeData, MemberData, FieldData, Objects, field_list}
use Rattle.dscript_types_meaning.specs.Types.{members_of}
use Rattle.dscript_types_meaning.specs.Sizes.{within_limit}
use Rattle.dscript_types_meaning.specs.Codes.{field_cmp}
use Rattle.dscript_types_meaning.specs.Unions.{is_object, is_undefined, join, join_all}
use Rattle.dscript_types_meaning.specs.Fits.{field_named, requires}

-- a field among those before it, where it takes the place of one with its name; fields are kept by their names
abbrev pub put_field : List FieldData → FieldData → List FieldData
put_field fields f = replace_key field_cmp fields f

abbrev pub put_fields : List FieldData → List FieldData → List FieldData
put_fields done fields = fold put_field done fields

-- a field that holds a value
abbrev pub holding : List ℕ → TypeData → FieldData
holding name t = record { name = name; optional = false; type_data = t }

-- What two fields of one name come to, of which the second is written later and may be missing; none where the type
-- of both is too large.
abbrev pub joined : FieldData → FieldData → Option FieldData
joined earlier later =
    option_map (λ t. record { name = later.name; optional = earlier.optional; type_data = t })
    (within_limit (join earlier.type_data later.type_data))

abbrev pub after_earlier : Option FieldData → FieldData → Option FieldData
after_earlier None later = Some later
after_earlier (Some earlier) later = if later.optional then joined earlier later else Some later

-- A field that is written after others. A required one replaces an earlier one of its name, and the type of an
-- optional one joins that of the earlier one.
abbrev pub write_field : List FieldData → FieldData → Option (List FieldData)
write_field done f = option_map (put_field done) (after_earlier (field_named done f.name) f)

abbrev pub write_fields : List FieldData → List FieldData → Option (List FieldData)
write_fields done [] = Some done
write_fields done (f ∷ fs) = option_and_then (λ fields. write_fields fields fs) (write_field done f)

-- ## Spreads

abbrev pub fields_in : MemberData → List FieldData
fields_in (Objects fields) = field_list fields
fields_in _ = []

-- objects and undefined may be spread
abbrev pub may_be_spread : MemberData → Bool
may_be_spread m = is_object m || is_undefined m

abbrev pub type_of_field : List ℕ → MemberData → Option TypeData
type_of_field name m = option_map (λ (f : FieldData). f.type_data) (field_named (fields_in m) name)

-- The field of this name of a spread. It is required where each member of the type is an object that requires it.
abbrev pub spread_field : List MemberData → List ℕ → FieldData
spread_field members name = record {
  name = name;
  optional = not (list_all (λ m. requires (fields_in m) name) members);
  type_data = join_all (filter_map (type_of_field name) members);
}

abbrev pub names_in : List MemberData → List (List ℕ)
names_in members = map (λ (f : FieldData). f.name) (flat_map fields_in members)

-- the fields that a value of the type adds where it is spread
unfoldable pub spread_fields : TypeData → Option (List FieldData)
spread_fields t =
    if list_all may_be_spread (members_of t)
    then Some (map (spread_field (members_of t)) (names_in (members_of t))) else None
