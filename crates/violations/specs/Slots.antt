-- The files of a pip of which a slot is kept.
use Rattle.std.specs.Prelude.{[]}
use Rattle.bx_tree.specs.Trees.{Files}
use Rattle.pip_model_types.specs.declared.made.Slot.{Slot}
use Rattle.pip_model_types.specs.declared.made.Slot.TheVariants as slots

-- the files that a pip made which succeeded; any other made none
abbrev pub slot_files : Slot → Files
slot_files slots.Empty = []
slot_files (slots.Good files) = files
slot_files slots.Bad = []
