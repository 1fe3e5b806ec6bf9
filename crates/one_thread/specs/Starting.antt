-- How a pip starts, where these are the slots of the pips before it.
use Rattle.std.specs.Prelude.{◌≡◌, ℕ, Bool, true, false, ◌&&◌, List, map, Option, is_some}
use Rattle.bx_tree.specs.Trees.{Files}
use Rattle.pip_model_types.specs.declared.made.Slot.{Slot}
use Rattle.pip_model_types.specs.declared.pip.Pip.{Pip}
use Rattle.pip_view_inputs.specs.Plain.{process_in}
use Rattle.pip_view_inputs.specs.Results.{kind_inputs}
use Rattle.violations.specs.Slots.{slot_files}
use Rattle.one_thread.specs.Views.{Agrees, ended_in, ended_result, good_at}
use Rattle.one_thread.specs.declared.ended.Started.{Started}
use Rattle.one_thread.specs.declared.ended.Started.TheVariants as started

-- whether the pip is a process, and each pip for which it waits succeeded
abbrev pub needs_run : List Pip → Option Pip → List Slot → Bool
needs_run pips pip ss = good_at pips pip ss && is_some (process_in pip)

-- A pip that needs no run has its result, and one that does has what the pips made for which it waits.
abbrev pub StartsAs : List Pip → Files → ℕ → List Slot → ℕ → Option Pip → Started → Type 0
StartsAs pips tree budget ss i pip (started.Done ended) =
    (needs_run pips pip ss ≡ false)
    × (ended_result ended ≡ ended_in pips tree budget ss i pip) × Agrees ended
StartsAs pips tree budget ss i pip (started.Process inputs) =
    (needs_run pips pip ss ≡ true) × (inputs ≡ kind_inputs pips pip (map slot_files ss))
