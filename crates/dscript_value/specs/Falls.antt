-- What a list or an object holds is smaller than it.
use Rattle.std.specs.Prelude.{◌+◌, ◌<◌, ◌≤◌, max, List, [], ◌∷◌, ◌++◌, length, map}
use Rattle.std.proofs.Common.{◌≡◌, arith, ap}
use Rattle.std.specs.Rc.{rc_value}
use denote.Param.Weighed.{most}
use Rattle.dscript_value.specs.declared.value.Value.{Value}
use Rattle.dscript_value.specs.declared.value.Value.TheVariants as values
use Rattle.dscript_value.specs.declared.value.Field.{Field}
use Rattle.dscript_value.specs.declared.value.Parts.{Parts}
use Rattle.dscript_value.specs.declared.value.Parts.TheVariants.{Flat, Joined}
use Rattle.dscript_value.specs.declared.value.Fields.TheDeep.{deep-Parts, deep-Value, deep-Field}
use Rattle.dscript_value.specs.Data.{Plain, item_list, to_items, to_items-item_list, to_members}
use Rattle.dscript_value.specs.Inner.{IsWhole, values_of_parts}
use Rattle.dscript_value.specs.Plain.{plain_of, plain_field}
use Rattle.dscript_value.specs.Weight.{held_weight, items_weight, members_weight, values_size}

pub items_weight-append : (xs ys : List Plain)
    → items_weight (to_items (xs ++ ys)) ≡ items_weight (to_items xs) + items_weight (to_items ys)
items_weight-append [] ys = omega arith
items_weight-append (x ∷ xs) ys = omega (arith, items_weight-append xs ys)

pub weight_of_some : (xs : List Plain) → 0 < length xs → 0 < items_weight (to_items xs)
weight_of_some [] h = omega (arith, h)
weight_of_some (x ∷ xs) h = omega arith

pub value_falls : (x : Value) → deep-Value x ≤ 2 + held_weight (plain_of x) + held_weight (plain_of x)
value_falls values.Undefined = omega arith
value_falls (values.Flag flag) = omega arith
value_falls (values.Number number) = omega arith
value_falls (values.Text text) = omega arith
value_falls (values.Path path) = omega arith
value_falls (values.File file) = omega arith
value_falls (values.Directory path) = omega arith
value_falls (values.Relative atoms) = omega arith
value_falls (values.Atom text) = omega arith
value_falls (values.List held) = omega arith
value_falls (values.Object fields) = omega arith
value_falls (values.Function function) = omega arith
value_falls (values.Static dir) = omega arith
value_falls (values.Process pip) = omega arith
value_falls (values.Artifact artifact) = omega arith
value_falls (values.Argument argument) = omega arith

pub items_fall : (xs : List Value)
    → most deep-Value xs
    ≤ items_weight (to_items (map plain_of xs)) + items_weight (to_items (map plain_of xs))
items_fall [] = omega arith
items_fall (x ∷ xs) = omega (arith, value_falls x, items_fall xs)

pub fields_fall : (fs : List Field)
    → most deep-Field fs
    ≤ members_weight (to_members (map plain_field fs)) + members_weight (to_members (map plain_field fs))
fields_fall [] = omega arith
fields_fall (f ∷ fs) = omega (arith, value_falls f.value, fields_fall fs)

pub parts_fall : (p : Parts) → IsWhole p → max (deep-Parts p) 0 ≤ values_size (values_of_parts p)
parts_fall (Flat values) w = omega arith
parts_fall (Joined j) w =
    let join = rc_value j in
    let all = items_weight-append (item_list join.left.items) (item_list join.right.items) in
    let left = weight_of_some (item_list join.left.items) w.left_some in
    let right = weight_of_some (item_list join.right.items) w.right_some in
    let l = ap items_weight (to_items-item_list join.left.items) in
    let r = ap items_weight (to_items-item_list join.right.items) in
    omega (arith, all, left, right, l, r)
