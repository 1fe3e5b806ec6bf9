-- Where the machine begins, and how it tells why it stopped.
use Rattle.std.specs.Prelude.{◌≡◌, ℕ, [], ◌∷◌}
use Rattle.dscript_sdk_calls.specs.Sources.{Answers}
use Rattle.dscript_program.specs.ProgramData.{ProgramData}
use Rattle.dscript_value.specs.Plain as plain
use Rattle.dscript_eval_meaning.specs.Lookups.{path_at}
use Rattle.dscript_eval_meaning.specs.Meaning.{start}
use Rattle.dscript_eval_meaning.specs.declared.fault.EvalFault.{EvalFault}
use Rattle.dscript_eval_meaning.specs.declared.fault.EvalFault.TheVariants as eval_faults
use Rattle.dscript_eval_meaning.specs.declared.limits.TheConstants.{MAX_OPEN_CALLS}
use Rattle.dscript_eval_frames.specs.Views.{View}
use Rattle.dscript_eval_frames.specs.declared.stop.Stop.{Stop}
use Rattle.dscript_eval_frames.specs.declared.stop.Stop.TheVariants as stops
use Rattle.dscript_eval_frames.specs.declared.work.StmtWork.TheVariants as stmt
use Rattle.dscript_eval_frames.specs.declared.work.Work.TheVariants as works

-- the machine before the first step
abbrev pub first_view : ProgramData → Answers → ℕ → View
first_view p answers budget = record {
  program = p;
  work = works.Stmt (stmt.Demands 0 0) ∷ [];
  given = plain.Undefined;
  openable = MAX_OPEN_CALLS;
  state = start p answers budget;
}

-- a fault is answered with the path of its file; of want of memory nothing is said
abbrev pub IsAnsweredAs : ProgramData → Stop → EvalFault → Type 0
IsAnsweredAs p stop eval_faults.Memory = Unit {0}
IsAnsweredAs p (stops.Fault kind file message) (eval_faults.Fault k path m) =
    (k ≡ kind) × (path ≡ path_at p file) × (m ≡ message)
IsAnsweredAs p stops.Memory (eval_faults.Fault k path m) = ⊥
