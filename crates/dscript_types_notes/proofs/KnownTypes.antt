-- What the names of types mean that need no declaration.
use Rattle.std.proofs.Common.{◌≡◌, ℕ, Bool, true, false, List, [], ◌∷◌, Option, Some, cond, map, refl, ap, ◌∙◌}
use Rattle.std.specs.List.{find}
use Rattle.std.specs.Option.{option_map}
use Rattle.std.specs.Str.{bytes_eq}
use Rattle.dscript_types_meaning.specs.Annotations.{known_name, names_of_types, static_type}
use Rattle.dscript_types_meaning.specs.Codes.{fields_code, member_cmp, member_code, members_code, type_code}
use Rattle.dscript_types_meaning.specs.Types.{TypeData, Union, Values, to_members}
use Rattle.dscript_types_meaning.specs.Unions.{union_of}
use Rattle.dscript_types_meaning.specs.declared.kind.Kind.TheVariants as kinds
use Rattle.dscript_types_notes.specs.KnownNames.{type_named, written_name}
use Rattle.dscript_types_notes.specs.declared.known_names.KnownName.{KnownName}
use Rattle.dscript_types_notes.specs.declared.known_names.TheConstants.{KNOWN_NAMES}

abbrev row_of : KnownName → List ℕ × TypeData
row_of known = (written_name known, type_named known)

abbrev rows_of : List KnownName → List (List ℕ × TypeData)
rows_of [] = []
rows_of (known ∷ more) = row_of known ∷ rows_of more

either
    : (test : Bool) (t : TypeData) (o p : Option TypeData) → o ≡ p
    → cond test (Some t) o ≡ cond test (Some t) p
either true t o p e = refl
either false t o p e = e

-- what is found among the names is what is found among the rows
found_row
    : (names : List KnownName) (x : List ℕ)
    → option_map type_named (find (λ known. bytes_eq (written_name known) x) names)
    ≡ option_map (λ (e : List ℕ × TypeData). e.1) (find (λ (e : List ℕ × TypeData). bytes_eq e.0 x) (rows_of names))
found_row [] x = refl
found_row (known ∷ names) x =
    elim (bytes_eq (written_name known) x) as (λ (b : Bool).
    option_map type_named (cond b (Some known) (find (λ k. bytes_eq (written_name k) x) names))
    ≡ option_map (λ (e : List ℕ × TypeData). e.1)
    (cond b (Some (row_of known)) (find (λ (e : List ℕ × TypeData). bytes_eq e.0 x) (rows_of names)))) [
      | true ↦ refl
      | false ↦ found_row names x
    ]

all_rows : rows_of KNOWN_NAMES ≡ names_of_types
unfolding written_name
all_rows = refl

pub known_by_name
    : (x : List ℕ)
    → option_map type_named (find (λ known. bytes_eq (written_name known) x) KNOWN_NAMES) ≡ known_name x []
known_by_name x =
    found_row KNOWN_NAMES x
    ∙ ap (λ es. option_map (λ (e : List ℕ × TypeData). e.1) (find (λ (e : List ℕ × TypeData). bytes_eq e.0 x) es)) all_rows

-- the two kinds of directories that are sealed or opaque are in their order
pub static_made : Union (to_members (map Values (kinds.Seal ∷ kinds.Opaque ∷ []))) ≡ static_type
unfolding union_of member_cmp member_code type_code members_code fields_code
static_made = refl
