-- The build of all pips on one thread, without a cache.
use Rattle.std.specs.Prelude.{ℕ, ◌+◌, Bool, false, not, List, [], ◌∷◌, ◌++◌, map, if◌then◌else◌}
use Rattle.std.specs.Prelude.{Option, Some, None, slice_get}
use Rattle.std.specs.List.{list_all, flat_map}
use Rattle.bx_tree.specs.Trees.{Files}
use Rattle.pip_model_types.specs.declared.pip.Pip.{Pip}
use Rattle.pip_model_types.specs.declared.pip.PipKind.{PipKind}
use Rattle.pip_model_types.specs.declared.pip.PipKind.TheVariants.{Process, Copy, Write, Seal}
use Rattle.pip_model_types.specs.declared.pip.ProcessDesc.{ProcessDesc}
use Rattle.pip_model_types.specs.declared.desc.Desc.{Desc}
use Rattle.pip_model.specs.Edges.{targets}
use Rattle.observed.specs.declared.ask.Ask.{Ask}
use Rattle.observed.specs.declared.access.Answer.{Answer}
use Rattle.observed.specs.declared.access.End.TheVariants as ends
use Rattle.tool_run.specs.Described.{described}
use Rattle.tool_run_writes.specs.Writes.{with_file}
use Rattle.run_record.specs.Facts.{run_for}
use Rattle.run_record.specs.Outcomes.{outcome_of}
use Rattle.run_record.specs.declared.outcome.Outcome.{Outcome}
use Rattle.run_record.specs.declared.outcome.Outcome.TheVariants.{Good, Failed}
use Rattle.run_record.specs.declared.outcome.Cause.{Cause}
use Rattle.run_record.specs.declared.outcome.Cause.TheVariants as causes
use Rattle.pip_view_inputs.specs.Plain.{desc_of, plain_of}
use Rattle.pip_view_inputs.specs.Results.{ByPip, inputs_of}
use Rattle.pip_view.specs.Sees.{sees}
use Rattle.violations.specs.Verdicts.{is_skip, is_success}
use Rattle.violations.specs.Classes.{class_of}
use Rattle.violations.specs.DoubleWrites.{clash_at}
use Rattle.violations.specs.declared.verdict.Verdict.{Verdict}
use Rattle.violations.specs.declared.verdict.Verdict.TheVariants as verdicts
use Rattle.violations.specs.declared.verdict.Violation.{Violation}

-- ## Results

-- how a pip ended, and the files that it made
pub record Result : Type 0 where
  pub verdict : Verdict
  pub files : Files

abbrev pub succeeded : Files → Result
succeeded files = record { verdict = verdicts.Succeeded; files = files }

abbrev pub failed : Verdict → Result
failed verdict = record { verdict = verdict; files = [] }

-- the files that each of the first pips made
abbrev pub made_by : List Result → List Files
made_by results = map (λ (r : Result). r.files) results

abbrev pub is_good : Option Result → Bool
is_good None = false
is_good (Some result) = is_success result.verdict

-- whether each pip for which the pip waits succeeded
abbrev pub inputs_are_good : List Pip → PipKind → List Result → Bool
inputs_are_good pips kind results = list_all (λ j. is_good (slice_get results j)) (targets pips kind)

-- ## Processes

-- a process that is otherwise successful fails where it wrote what an earlier one wrote
abbrev pub unless_clash : Files → Option Violation → Result
unless_clash files None = succeeded files
unless_clash files (Some violation) = failed (verdicts.Violated violation)

-- a denied access is a violation
abbrev pub violated : Option Violation → Result
violated (Some violation) = failed (verdicts.Violated violation)
violated None = failed (verdicts.Tool ends.Denied)

-- what process i comes to whose run failed by this cause
abbrev pub by_cause : List Pip → Files → ℕ → Cause → Result
by_cause pips tree i (causes.Exit code) = failed (verdicts.Exit code)
by_cause pips tree i (causes.Tool end) = failed (verdicts.Tool end)
by_cause pips tree i (causes.MissingOutput path) = failed (verdicts.MissingOutput path)
by_cause pips tree i (causes.Denied access) = violated (class_of pips tree i access)

-- what process i comes to by the outcome of its run, where the first pips made these files
abbrev pub by_outcome : List Pip → Files → List Files → ℕ → Outcome → Result
by_outcome pips tree made i (Good files) = unless_clash files (clash_at pips made i files)
by_outcome pips tree made i (Failed cause) = by_cause pips tree i cause

-- the outcome of the run of a process on what it sees
abbrev pub ran : Desc → (Ask → Answer) → Outcome
ran d see = outcome_of (described d) (run_for d see)

-- the outcome of process i, where its inputs made these files
abbrev pub process_outcome : List Pip → Files → ℕ → ByPip → ℕ → ProcessDesc → Outcome
process_outcome pips tree budget inputs i d = ran (desc_of tree inputs budget d) (sees pips tree inputs i)

-- ## The build

-- what pip i comes to whose inputs succeeded and made these files, where the first pips made those
abbrev pub worked : List Pip → Files → ℕ → List Files → ByPip → ℕ → PipKind → Result
worked pips tree budget made inputs i (Process d) =
    by_outcome pips tree made i (process_outcome pips tree budget inputs i d)
worked pips tree budget made inputs i (Copy d) = succeeded (plain_of tree inputs (Copy d))
worked pips tree budget made inputs i (Write d) = succeeded (plain_of tree inputs (Write d))
worked pips tree budget made inputs i (Seal d) = succeeded (plain_of tree inputs (Seal d))

-- a pip with an input that did not succeed is skipped
abbrev pub result_of : List Pip → Files → ℕ → List Result → ℕ → PipKind → Result
result_of pips tree budget results i kind =
    if inputs_are_good pips kind results
    then worked pips tree budget (made_by results) (inputs_of pips kind (made_by results)) i kind
    else failed verdicts.Skipped

-- the results of all pips, where these are those of the first ones, and the pips from number i on are left
abbrev pub on_from : List Pip → Files → ℕ → List Result → ℕ → List Pip → List Result
on_from pips tree budget results i [] = results
on_from pips tree budget results i (pip ∷ left) =
    on_from pips tree budget (results ++ result_of pips tree budget results i pip.kind ∷ []) (i + 1) left

-- The results of all pips, by number, over this tree, where each tool may take this many steps.
abbrev pub one_thread : List Pip → Files → ℕ → List Result
one_thread pips tree budget = on_from pips tree budget [] 0 pips

-- ## What a whole build gives

abbrev pub verdicts_of : List Result → List Verdict
verdicts_of results = map (λ (r : Result). r.verdict) results

-- the files that all pips made, one pip after the other
abbrev pub all_made : List Files → Files
all_made made = flat_map (λ files. files) made

-- files with more files, each put at its place in the order of paths; it takes the place of one at its path
abbrev pub put_all : Files → Files → Files
put_all files [] = files
put_all files (f ∷ fs) = put_all (with_file files f.0 f.1) fs

-- the files of all pips that succeeded, by path
abbrev pub outputs_of : List Result → Files
outputs_of results = put_all [] (all_made (made_by results))

-- ## What is counted

-- whether the pip is a process that is not skipped, whatever it came to
abbrev pub runs : PipKind → Verdict → Bool
runs (Process d) verdict = not (is_skip verdict)
runs (Copy d) verdict = false
runs (Write d) verdict = false
runs (Seal d) verdict = false

-- how many processes are not skipped
abbrev pub run_count : List Pip → List Verdict → ℕ
run_count [] vs = 0
run_count (pip ∷ pips) [] = 0
run_count (pip ∷ pips) (v ∷ vs) = if runs pip.kind v then 1 + run_count pips vs else run_count pips vs
