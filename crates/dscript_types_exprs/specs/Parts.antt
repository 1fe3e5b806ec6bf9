-- The parts of chains, literals, lists and objects.
use Rattle.std.specs.Prelude.{ℕ, Bool, List, false, true}
use Rattle.std.specs.declared.alloc.Global.{Global}
use Rattle.std.specs.declared.vec.Vec.{Vec}
use Rattle.dscript_ast.specs.declared.operator.BinaryOp.{BinaryOp}
use Rattle.dscript_program.specs.BoundTree.{ExprData}
use Rattle.dscript_program.specs.ProgramData.{ProgramData}
use Rattle.dscript_types_data.specs.Views.{fields_now}
use Rattle.dscript_types_data.specs.declared.types.Field.{Field}
use Rattle.dscript_types_meaning.specs.Contexts.{◌>>=◌, ◌>>◌, Context, Known, Types, gives, needs, only}
use Rattle.dscript_types_meaning.specs.Expressions.{expr_type}
use Rattle.dscript_types_meaning.specs.Fits.{fits}
use Rattle.dscript_types_meaning.specs.Objects.{holding, put_field}
use Rattle.dscript_types_meaning.specs.Operators.{operated}
use Rattle.dscript_types_meaning.specs.Types.{FieldData, TypeData}
use Rattle.dscript_types_meaning.specs.Unions.{is_list_type, items_of}
use Rattle.dscript_types_scenes.specs.Holes.{hole_type}
use Rattle.dscript_types_scenes.specs.declared.found.Typing.{Typing}
use Rattle.dscript_types_scenes.specs.declared.found.Typing.TheVariants as typings
use Rattle.dscript_types_scenes.specs.declared.holes.Allowed.{Allowed}

-- an operand after one of this type, and the type of both
abbrev pub operand_typed : ProgramData → Known → Context → BinaryOp → TypeData → ExprData → Types TypeData
operand_typed p known c op t e = expr_type p known c e >>= λ u. only (operated op t u)

-- a hole that may hold this
abbrev pub hole_fit : ProgramData → Known → Context → Allowed → ExprData → Types (Unit {0})
hole_fit p known c allowed value = expr_type p known c value >>= λ t. needs (fits t (hole_type allowed))

abbrev pub nothing : Unit {0} → Unit {0}
nothing u = u

abbrev pub items_now : Vec TypeData Global → List TypeData
items_now types = types.items

-- an item, or the items of a list that is spread
abbrev pub item_type : ProgramData → Known → Context → Bool → ExprData → Types TypeData
item_type p known c false e = expr_type p known c e
item_type p known c true e = expr_type p known c e >>= λ t. needs (is_list_type t) >> gives (items_of t)

abbrev pub property_fields : Typing (Vec Field Global) → Typing (List FieldData)
property_fields (typings.Found fields seen) = typings.Found (fields_now fields) seen
property_fields typings.Nothing = typings.Nothing
property_fields (typings.Open pending) = typings.Open pending

-- the fields and one that holds a value
abbrev pub with_property : List FieldData → List ℕ → Typing TypeData → Typing (List FieldData)
with_property done name (typings.Found t seen) = typings.Found (put_field done (holding name t)) seen
with_property done name typings.Nothing = typings.Nothing
with_property done name (typings.Open pending) = typings.Open pending
