-- Values of a stated kind, and lists of such values: what they hold. A value of another kind is refused.
use Rattle.std.specs.Prelude.{ℕ, Bool, List, [], ◌∷◌, Ok, Err}
use Rattle.bx_tree.specs.Paths.{Atoms}
use Rattle.bx_tree.specs.declared.file_input.FileInput.{FileInput}
use Rattle.dscript_value.specs.declared.parts.ArgumentParts.{ArgumentParts as AnyArgument}
use Rattle.dscript_value.specs.Plain as plain
use Rattle.dscript_value.specs.Plain.{Plain, PlainField, item_list, member_list}
use Rattle.dscript_sdk_values.specs.declared.fault.SdkFault.TheVariants.{Kind}
use Rattle.dscript_sdk_values.specs.Outcomes.{Outcome, ◌>>=◌}

abbrev pub flag_in : Plain → Outcome Bool
flag_in (plain.Flag flag) = Ok flag
flag_in _ = Err Kind

abbrev pub text_in : Plain → Outcome (List ℕ)
text_in (plain.Text text) = Ok text
text_in _ = Err Kind

abbrev pub path_in : Plain → Outcome Atoms
path_in (plain.Path path) = Ok path
path_in _ = Err Kind

abbrev pub file_in : Plain → Outcome FileInput
file_in (plain.File file) = Ok file
file_in _ = Err Kind

abbrev pub directory_in : Plain → Outcome Atoms
directory_in (plain.Directory path) = Ok path
directory_in _ = Err Kind

abbrev pub argument_in : Plain → Outcome AnyArgument
argument_in (plain.Argument argument) = Ok argument
argument_in _ = Err Kind

abbrev pub items_in : Plain → Outcome (List Plain)
items_in (plain.Listed depth items) = Ok (item_list items)
items_in _ = Err Kind

abbrev pub object_in : Plain → Outcome (List PlainField)
object_in (plain.Object depth members) = Ok (member_list members)
object_in _ = Err Kind

-- each of some values, from the first to the last
abbrev pub each_in : {X : Type 0} → (Plain → Outcome X) → List Plain → Outcome (List X)
each_in read [] = Ok []
each_in read (v ∷ vs) = read v >>= λ x. each_in read vs >>= λ xs. Ok (x ∷ xs)

-- a list, and then each of its items
abbrev pub list_in : {X : Type 0} → (Plain → Outcome X) → Plain → Outcome (List X)
list_in read v = items_in v >>= each_in read
