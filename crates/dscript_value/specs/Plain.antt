-- The plain data of values.
pub use Rattle.dscript_value.specs.Data.{Plain, Undefined, Flag, Number, Text, Path, File}
pub use Rattle.dscript_value.specs.Data.{Directory, Relative, Atom}
pub use Rattle.dscript_value.specs.Data.{Listed, Object, Function, Static, Process, Artifact, Argument}
pub use Rattle.dscript_value.specs.Data.{Items, End, More, Members, Last, Next, PlainField}
pub use Rattle.dscript_value.specs.Data.{PlainValues, PlainFields, PlainFunction}
pub use Rattle.dscript_value.specs.Data.{to_items, item_list, to_members, member_list}
pub use Rattle.dscript_value.specs.Data.{item_list-to_items, to_items-item_list, member_list-to_members}
use Rattle.dscript_value.specs.declared.value.Value.{Value}
use Rattle.dscript_value.specs.declared.value.Value.TheVariants as values
use Rattle.dscript_value.specs.declared.value.Field.{Field}
use Rattle.dscript_value.specs.declared.value.FunctionRef.{FunctionRef}

abbrev pub plain_of : Value → Plain
plain_of values.Undefined = Undefined
plain_of (values.Flag flag) = Flag flag
plain_of (values.Number number) = Number number
plain_of (values.Text text) = Text text
plain_of (values.Path path) = Path path
plain_of (values.File file) = File file
plain_of (values.Directory path) = Directory path
plain_of (values.Relative atoms) = Relative atoms
plain_of (values.Atom text) = Atom text
plain_of (values.List held) = Listed held.depth held.items
plain_of (values.Object fields) = Object fields.depth fields.members
plain_of (values.Function function) = Function function.callee function.held.depth function.held.items
plain_of (values.Static dir) = Static dir
plain_of (values.Process pip) = Process pip
plain_of (values.Artifact artifact) = Artifact artifact
plain_of (values.Argument argument) = Argument argument

-- lists and fields are seen as plain data already
abbrev pub plain_values : PlainValues → PlainValues
plain_values values = values

abbrev pub plain_fields : PlainFields → PlainFields
plain_fields fields = fields

abbrev pub plain_field : Field → PlainField
plain_field field = (field.name, plain_of field.value)

abbrev pub plain_function : FunctionRef → PlainFunction
plain_function function = record { callee = function.callee; held = function.held }
