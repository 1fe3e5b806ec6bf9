-- The files of the inputs of a pip, each with the number of the pip that made them.
use Rattle.std.specs.Prelude.{ℕ, List}
use Rattle.std.specs.List.{slice_index_or}
use Rattle.bx_tree.specs.Trees.{Files}
use Rattle.pip_model_types.specs.declared.made.Slot.{Slot}
use Rattle.pip_model_types.specs.declared.made.Slot.TheVariants as slots
use Rattle.violations.specs.Slots.{slot_files}
use Rattle.pip_view_inputs.specs.declared.inputs.MadeBy.{MadeBy}

abbrev pub made_pair : MadeBy → ℕ × Files
made_pair m = (m.pip, m.files)

-- what the pip with a number made
abbrev pub input_by : List Slot → ℕ → MadeBy
input_by made j = record { pip = j; files = slot_files (slice_index_or made j slots.Empty) }
