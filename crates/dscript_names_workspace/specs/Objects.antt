-- Objects in configurations: fields with names that are allowed, each given once at most.
use Rattle.std.specs.Prelude.{ℕ, Bool, ◌&&◌, nat_le, count_by, if◌then◌else◌}
use Rattle.std.specs.Prelude.{List, [], ◌∷◌, Option, Some, None}
use Rattle.std.specs.List.{list_all, list_any}
use Rattle.std.specs.Option.{is_some}
use Rattle.std.specs.Str.{bytes_eq}
use Rattle.dscript_ast.specs.ExprTree as tree
use Rattle.dscript_ast.specs.ExprTree.{ExprTree, PropTree, props_of}

-- the value of a property that is written with this name and a value
abbrev pub value_named : List ℕ → PropTree → Option ExprTree
value_named name (tree.Named own value) = if bytes_eq own name then Some value else None
value_named name (tree.Quoted own value) = if bytes_eq own name then Some value else None
value_named name (tree.Short own) = None
value_named name (tree.Spread value) = None

-- the property is written with this name and a value
abbrev pub has_name : List ℕ → PropTree → Bool
has_name name prop = is_some (value_named name prop)

-- the value of the first of these properties with this name
abbrev pub field_named : List ℕ → List PropTree → Option ExprTree
field_named name [] = None
field_named name (prop ∷ props) =
    if has_name name prop then value_named name prop else field_named name props

-- each of these properties has one of these names
abbrev pub are_known : List (List ℕ) → List PropTree → Bool
are_known names props = list_all (λ prop. list_any (λ name. has_name name prop) names) props

-- none of these names is given twice
abbrev pub are_once : List (List ℕ) → List PropTree → Bool
are_once names props = list_all (λ name. nat_le (count_by (has_name name) props) 1) names

-- the properties are fields with these names
abbrev pub are_fields : List (List ℕ) → List PropTree → Bool
are_fields names props = are_known names props && are_once names props

-- the fields of an object that has no other fields than these
abbrev pub object_with : List (List ℕ) → ExprTree → Option (List PropTree)
object_with names (tree.Object props) =
    if are_fields names (props_of props) then Some (props_of props) else None
object_with names _ = None
