-- Where a field belongs among others.
use Rattle.std.specs.Prelude.{◌≡◌, ℕ, ◌+◌, ◌<◌, ◌≤◌, Bool, false, true, Option, Some, None, List, ◌∷◌, ◌++◌, drop, length, take}
use Rattle.dscript_types_meaning.specs.Objects.{put_field}
use Rattle.dscript_types_meaning.specs.Types.{FieldData}

-- at this place it takes the place of one of its name
pub record ReplacesAt (fields : List FieldData) (f : FieldData) (place : ℕ) : Type 0 where
  pub within : place < length fields
  pub is : put_field fields f ≡ take place fields ++ f ∷ drop (place + 1) fields

-- it is new, and belongs before the field at this place, or behind all
pub record IsNewAt (fields : List FieldData) (f : FieldData) (place : ℕ) : Type 0 where
  pub within : place ≤ length fields
  pub is : put_field fields f ≡ take place fields ++ f ∷ drop place fields

-- what there is only under a condition
abbrev pub option_when : {X : Type 0} → Bool → X → Option X
option_when false x = None
option_when true x = Some x
