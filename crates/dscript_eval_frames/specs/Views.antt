-- What contracts see of the machine.
use Rattle.std.specs.Prelude.{ℕ, List, map, reverse}
use Rattle.dscript_program.specs.ProgramData.{ProgramData}
use Rattle.dscript_program.specs.Views.{program_data}
use Rattle.dscript_value.specs.Plain.{Plain, plain_of}
use Rattle.dscript_sdk_pips.specs.States.{over_tree}
use Rattle.dscript_eval_meaning.specs.States.{State}
use Rattle.dscript_eval_frames.specs.Codes.{code_data}
use Rattle.dscript_eval_frames.specs.Frames.{frame_of}
use Rattle.dscript_eval_frames.specs.Statuses.{statuses}
use Rattle.dscript_eval_frames.specs.declared.machine.Machine.{Machine}
use Rattle.dscript_eval_frames.specs.declared.work.Work.{Work}

-- The program, what is to be done, the next first, the last value, how many calls may be opened, and the
-- state.
pub record View : Type 0 where
  pub program : ProgramData
  pub work : List Work
  pub given : Plain
  pub openable : ℕ
  pub state : State

abbrev pub seen : Machine → View
seen m = record {
  program = record { files = (program_data m.program.now).files; functions = map code_data m.codes.now };
  work = reverse m.work.items;
  given = plain_of m.given;
  openable = m.openable;
  state = record {
    left = m.left;
    frame = frame_of m.frame;
    constants = statuses m.constants.items;
    calls = over_tree m.calls;
  };
}
