-- How deep values are, and what lists, objects and functions are made.
use Rattle.std.specs.Prelude.{◌≡◌, ℕ, ◌+◌, ◌<◌, nat_lt, List, [], ◌∷◌, map, max, Option, Some, None}
use Rattle.std.specs.Prelude.{if◌then◌else◌}
use Rattle.std.specs.Str.{bytes_eq}
use Rattle.dscript_value.specs.declared.makers.TheConstants.{MAX_DEPTH}
use Rattle.dscript_value.specs.declared.parts.Callee.{Callee}
use Rattle.dscript_value.specs.Data.{Plain, PlainField, Listed, Object, Function, PlainValues}
use Rattle.dscript_value.specs.Data.{item_list, to_items, to_members}

-- lists, objects and functions have a depth of their own, and all other values depth 0
abbrev pub depth_of : Plain → ℕ
depth_of (Listed depth items) = depth
depth_of (Object depth members) = depth
depth_of (Function callee depth held) = depth
depth_of _ = 0

-- the greatest depth of some values, and 0 of none
abbrev pub greatest_depth : List Plain → ℕ
greatest_depth [] = 0
greatest_depth (x ∷ xs) = max (depth_of x) (greatest_depth xs)

-- the depth is one more than that of the deepest item, and within the limit
pub record IsDeep (values : PlainValues) : Type 0 where
  pub one_more : values.depth ≡ greatest_depth (item_list values.items) + 1
  pub within : greatest_depth (item_list values.items) < MAX_DEPTH

-- a value that holds these, one deeper than the deepest of them; none where that is above the limit
abbrev pub one_deeper : List Plain → (ℕ → Plain) → Option Plain
one_deeper held make =
    if nat_lt (greatest_depth held) MAX_DEPTH then Some (make (greatest_depth held + 1)) else None

abbrev pub list_value : List Plain → Option Plain
list_value items = one_deeper items (λ depth. Listed depth (to_items items))

abbrev pub function_value : Callee → List Plain → Option Plain
function_value callee held = one_deeper held (λ depth. Function callee depth (to_items held))

-- A field takes the place of an earlier one with its name, and goes last where there is none.
abbrev pub put_field : List PlainField → PlainField → List PlainField
put_field [] f = f ∷ []
put_field (e ∷ es) f = if bytes_eq e.0 f.0 then f ∷ es else e ∷ put_field es f

-- the fields put one after another
abbrev pub put_fields : List PlainField → List PlainField → List PlainField
put_fields done [] = done
put_fields done (f ∷ fs) = put_fields (put_field done f) fs

abbrev pub values_of : List PlainField → List Plain
values_of fields = map (λ (f : PlainField). f.1) fields

-- the object of fields of which no two have one name
abbrev pub fields_value : List PlainField → Option Plain
fields_value fields = one_deeper (values_of fields) (λ depth. Object depth (to_members fields))

-- the object of these fields: each name once, a later value in the earlier place
abbrev pub object_value : List PlainField → Option Plain
object_value fields = fields_value (put_fields [] fields)

-- the value of the field with a name, if there is one
abbrev pub field_at : List PlainField → List ℕ → Option Plain
field_at [] name = None
field_at (f ∷ fs) name = if bytes_eq f.0 name then Some f.1 else field_at fs name
