-- Objects whose fields are known.
use Rattle.std.specs.Prelude.{ℕ, Bool, ◌&&◌, ◌||◌, if◌then◌else◌, List, []}
use Rattle.std.specs.Prelude.{Option, Some, None, is_some, unwrap_or, Ok, Err}
use Rattle.std.specs.List.{list_all, list_any}
use Rattle.std.specs.Str.{bytes_eq}
use Rattle.dscript_value.specs.Depths.{field_at}
use Rattle.dscript_value.specs.Plain.{Plain, PlainField}
use Rattle.dscript_sdk_values.specs.declared.fault.SdkFault.TheVariants.{BadArgument}
use Rattle.dscript_sdk_values.specs.Kinds.{object_in}
use Rattle.dscript_sdk_values.specs.Outcomes.{Outcome, ◌>>=◌, unless_none}

-- whether a name is one of these
abbrev pub is_among : List (List ℕ) → List ℕ → Bool
is_among names name = list_any (bytes_eq name) names

-- whether each field has one of the required or the optional names
abbrev pub has_only : (required optional : List (List ℕ)) → List PlainField → Bool
has_only required optional fields =
    list_all (λ (f : PlainField). is_among required f.0 || is_among optional f.0) fields

-- whether each of these names is that of a field
abbrev pub has_all : List (List ℕ) → List PlainField → Bool
has_all required fields = list_all (λ name. is_some (field_at fields name)) required

-- The fields of an object that has all required fields, and besides these only optional ones.
abbrev pub fields_in : (required optional : List (List ℕ)) → Plain → Outcome (List PlainField)
fields_in required optional v =
    object_in v >>= λ fields.
    if has_only required optional fields && has_all required fields then Ok fields else Err BadArgument

-- what a field with this name holds
abbrev pub field_in : {X : Type 0} → List PlainField → List ℕ → (Plain → Outcome X) → Outcome X
field_in fields name read = unless_none BadArgument (field_at fields name) >>= read

-- What a field holds is read only where it is there. A field that holds undefined is there.
abbrev pub read_if_there : {X : Type 0} → (Plain → Outcome X) → Option Plain → Outcome (Option X)
read_if_there read None = Ok None
read_if_there read (Some v) = read v >>= λ x. Ok (Some x)

-- what a field with this name holds, if there is one
abbrev pub optional_in : {X : Type 0} → List PlainField → List ℕ → (Plain → Outcome X) → Outcome (Option X)
optional_in fields name read = read_if_there read (field_at fields name)

-- a list that may be missing, which then is empty
abbrev pub optional_list_in
    : {X : Type 0} → List PlainField → List ℕ → (Plain → Outcome (List X)) → Outcome (List X)
optional_list_in fields name read = optional_in fields name read >>= λ items. Ok (unwrap_or items [])
