-- What contracts see of a frame.
use Rattle.std.specs.Prelude.{ℕ, List, [], Option, Some, None}
use Rattle.std.specs.Borrow.{Bor}
use Rattle.dscript_value.specs.Plain.{Plain, item_list, plain_function}
use Rattle.dscript_value.specs.declared.value.FunctionRef.{FunctionRef}
use Rattle.dscript_eval_meaning.specs.States as meaning
use Rattle.dscript_eval_frames.specs.Own.{own_values}
use Rattle.dscript_eval_frames.specs.declared.code.Code.{Code}
use Rattle.dscript_eval_frames.specs.declared.frame.Frame.{Frame}

abbrev pub held_by : Option FunctionRef → List Plain
held_by None = []
held_by (Some f) = item_list (plain_function f).held.items

abbrev pub captured_by : Option (Bor Code) → List ℕ
captured_by None = []
captured_by (Some code) = code.now.function.now.captured.items

abbrev pub frame_of : Frame → meaning.Frame
frame_of f = record {
  file = f.file;
  captured = captured_by f.code;
  held = held_by f.function;
  first = f.first;
  own = own_values f.own.items f.far f.count;
}
