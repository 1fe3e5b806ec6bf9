-- What fields hold.
use Rattle.std.proofs.Common.{◌≡◌, ℕ, List, Option, Some, None, filter, map, not, ap, sym, ◌∙◌}
use Rattle.std.specs.Borrow.{Bor}
use Rattle.std.specs.Option.{MatchOption, option_copied, option_map}
use Rattle.dscript_types_data.proofs.Rows.{fields_again}
use Rattle.dscript_types_data.specs.declared.types.Field.{Field}
use Rattle.dscript_types_data.specs.Views.{field_data}
use Rattle.dscript_types_meaning.specs.Access.{any_field, held_by, property_of}
use Rattle.dscript_types_meaning.specs.Ambients.{is_free_field, without_free}
use Rattle.dscript_types_meaning.specs.Fits.{field_named}
use Rattle.dscript_types_meaning.specs.Types.{FieldData, Objects, TypeData, to_fields}
use Rattle.dscript_types_meaning.specs.Unions.{join_all, with_undefined}
use Rattle.dscript_types_rows.specs.Rows.{row_of}

-- all that fields hold, and undefined
pub all_held
    : (fields : List Field) (types slice : List TypeData) (all : TypeData)
    → types ≡ map (λ (f : FieldData). f.type_data) (map field_data fields) → slice ≡ types → all ≡ join_all slice
    → with_undefined all ≡ any_field (row_of fields)
all_held fields types slice all are same is =
    ap with_undefined (is ∙ ap join_all (same ∙ are))
    ∙ ap (λ fs. with_undefined (join_all (map (λ (f : FieldData). f.type_data) fs))) (sym (fields_again (map field_data fields)))

-- the object without what is free
pub kept_object
    : (fs now kept row : List FieldData) → row ≡ kept → kept ≡ filter (λ f. not (is_free_field f)) now → now ≡ fs
    → Objects (to_fields row) ≡ without_free (Objects (to_fields fs))
kept_object fs now kept row made is same =
    ap (λ xs. Objects (to_fields xs))
    (made ∙ is ∙ ap (filter (λ f. not (is_free_field f))) (same ∙ sym (fields_again fs)))

-- what is found is the field with the name
found_copied
    : (fs : List FieldData) (name : List ℕ) (o : Option (Bor Field))
    → MatchOption o (field_named fs name ≡ None) (λ field. field_named fs name ≡ Some (field_data field.now))
    → option_map field_data (option_copied o) ≡ field_named fs name
found_copied fs name None h = sym h
found_copied fs name (Some f) h = sym h

-- what the field with a name holds
pub property_held
    : (fs now : List FieldData) (name : List ℕ) (o : Option (Bor Field)) (t : TypeData) → now ≡ fs
    → MatchOption o (field_named now name ≡ None) (λ field. field_named now name ≡ Some (field_data field.now))
    → t ≡ held_by (option_map field_data (option_copied o))
    → Some t ≡ property_of name (Objects (to_fields fs))
property_held fs now name o t same found is =
    ap Some (is ∙ ap held_by (found_copied now name o found))
    ∙ ap (λ xs. Some (held_by (field_named xs name))) (same ∙ sym (fields_again fs))
