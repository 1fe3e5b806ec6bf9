-- How a build may end, and what is written of it.
use Rattle.std.specs.Prelude.{ℕ, List, [], ◌∷◌, ◌++◌, codes, if◌then◌else◌, Bool}
use Rattle.std.specs.List.{list_all}
use Rattle.bx_tree.specs.Paths.{Atoms}
use Rattle.bx_tree.specs.Trees.{Files}
use Rattle.bx_tree.specs.Bundle.{bundle}
use Rattle.build_report.specs.Refusals.{refused_text}
use Rattle.build_report.specs.Reports.{report_text}
use Rattle.build_report.specs.declared.refusal.Refusal.{Refusal}
use Rattle.build_report.specs.declared.refusal.Refusal.TheVariants.{Input}
use Rattle.one_thread.specs.OneThread.{Result, outputs_of, verdicts_of}
use Rattle.pip_model_types.specs.declared.pip.Pip.{Pip}
use Rattle.violations.specs.Verdicts.{is_success}
use Rattle.bx_engine.specs.declared.status.Status.{Status}
use Rattle.bx_engine.specs.declared.status.Status.TheVariants as statuses
use Rattle.bx_engine.specs.declared.fault.InputFault.{InputFault}
use Rattle.bx_engine.specs.declared.fault.InputFault.TheVariants as input_faults

-- how a build may end, with all that its report says
pub data Ending : Type 0 where
  -- the input is refused
  InputRefused : InputFault → Ending
  -- the specification is refused
  SpecificationRefused : Refusal → Ending
  -- these pips were gone through, with these results
  Built : List Pip → List Result → Ending

abbrev pub input_fault_name : InputFault → List ℕ
input_fault_name input_faults.BadBundle = codes "BadBundle"
input_fault_name input_faults.BadPath = codes "BadPath"
input_fault_name input_faults.Unordered = codes "Unordered"
input_fault_name input_faults.Nested = codes "Nested"
input_fault_name input_faults.TooManyFiles = codes "TooManyFiles"
input_fault_name input_faults.TooLarge = codes "TooLarge"
input_fault_name input_faults.Reserved = codes "Reserved"

-- whether all pips succeeded
abbrev pub all_succeeded : List Result → Bool
all_succeeded results = list_all is_success (verdicts_of results)

-- ## The status

abbrev pub status_of : Ending → Status
status_of (InputRefused fault) = statuses.InputRefused
status_of (SpecificationRefused refusal) = statuses.SpecificationRefused
status_of (Built pips results) = if all_succeeded results then statuses.Done else statuses.FailuresFound

-- ## The report

abbrev pub report_of : Ending → List ℕ
report_of (InputRefused fault) = refused_text (Input (input_fault_name fault))
report_of (SpecificationRefused refusal) = refused_text refusal
report_of (Built pips results) = report_text pips (verdicts_of results)

-- ## The output

-- the path of the report, which is after all paths below `out`
abbrev pub report_path : Atoms
report_path = codes "report.txt" ∷ []

-- the files that a build gives: those that its pips made, if all of them succeeded
abbrev pub ending_files : Ending → Files
ending_files (InputRefused fault) = []
ending_files (SpecificationRefused refusal) = []
ending_files (Built pips results) = if all_succeeded results then outputs_of results else []

-- the bundle of the report of a refusal
abbrev pub refusal_output : Refusal → List ℕ
refusal_output refusal = bundle ((report_path, refused_text refusal) ∷ [])

-- the bundle of the files that were made and of the report
abbrev pub output_of : Ending → List ℕ
output_of ending = bundle (ending_files ending ++ (report_path, report_of ending) ∷ [])

-- ## The notes

-- the notes where the words are no command
abbrev pub usage_text : List ℕ
usage_text = codes "usage: bxl build|check|repair|trim|gen\n"
