-- The files of a process that succeeds are what it declares and may make, and none is below another.
use Rattle.std.proofs.Common.{◌≡◌, ℕ, ◌<◌, cond, List, length, take, drop, Option, Some, None, refl, sym, ap, ◌∙◌, subst, arith, length-take}
use Rattle.std.specs.Prelude.{slice_get}
use Rattle.std.specs.Option.{option_map}
use Rattle.std.proofs.lemmas.List.{take-append-drop}
use Rattle.std.proofs.lemmas.Option.{same_Some, slice_get-map, slice_get_within}
use Rattle.pip_view.proofs.TakenDirs.{process_is}
use Rattle.bx_tree.specs.Trees.{Files, NoneNested, paths_of}
use Rattle.bx_tree.proofs.Sets.{has_contained}
use Rattle.pip_model_types.specs.Makers.{IsPipList}
use Rattle.pip_model_types.specs.declared.desc.Desc.{Desc}
use Rattle.pip_model_types.specs.declared.pip.Pip.{Pip}
use Rattle.pip_model_types.specs.declared.pip.PipKind.TheVariants.{Process}
use Rattle.observed.specs.declared.ask.Ask.{Ask}
use Rattle.observed.specs.declared.access.Answer.{Answer}
use Rattle.graph_check.specs.Rules.{KeepsRules}
use Rattle.tool_run.proofs.Accesses.{holds}
use Rattle.run_record.specs.Facts.{Facts, Sound}
use Rattle.run_record.specs.declared.outcome.Outcome.TheVariants.{Good}
use Rattle.pip_view_inputs.specs.Results.{inputs_of}
use Rattle.violations.specs.declared.verdict.Verdict.TheVariants as verdicts
use Rattle.violations.specs.declared.verdict.Violation.{Violation}
use Rattle.violations.specs.DoubleWrites.{clash_at}
use Rattle.one_thread.specs.OneThread.{Result, by_outcome, failed, made_by, one_thread, process_outcome, ran, result_of, unless_clash, worked}
use Rattle.one_thread.proofs.EachResult.{number_of_results, result_of_all, result_same}
use Rattle.one_thread.proofs.Meeting.{kept_apart}
use Rattle.one_thread.specs.Keeping.{AreOwnOutputs}
use Rattle.one_thread.proofs.OneResult.{kept_result}
use Rattle.two_phase_meaning.specs.Saving.{FilesFit, outcome_files}
use Rattle.two_phase_meaning.proofs.FilesFit.{files_fit, paths_lines}
use Rattle.retire_compared.specs.Compared.{view_after}
use Rattle.retire.specs.Runs.{IsOfSuccess, results_before}

-- a success that clashes with nothing has the files of its run
unclashed : (files : Files) (c : Option Violation) → (unless_clash files c).verdict ≡ verdicts.Succeeded → (unless_clash files c).files ≡ files
unclashed files None e = refl
unclashed files (Some v) e = absurd cc

module _ (pips : List Pip) (tree : Files) (budget : ℕ) (list : IsPipList pips) (f : Facts) (s : IsOfSuccess pips tree budget f) where
  abbrev all : List Result
  all = one_thread pips tree budget

  abbrev before : List Result
  before = results_before pips tree budget s.pip

  abbrev files : Files
  files = outcome_files f.outcome

  there : (pip : Pip) × (slice_get pips s.pip ≡ Some pip) × (pip.kind ≡ Process s.runs.process)
  there = process_is (slice_get pips s.pip) s.runs.process s.runs.is_process

  outcome_is : process_outcome pips tree budget (inputs_of pips (Process s.runs.process) (made_by before)) s.pip s.runs.process ≡ Good files
  outcome_is =
      ap (λ (e : Desc). ran e (view_after pips tree before s.pip s.runs.process)) s.runs.desc_is
      ∙ ap (λ (v : Ask → Answer). ran f.desc v) s.runs.view_is ∙ s.run.run.outcome ∙ s.good

  result_is : (pip : Pip) → pip.kind ≡ Process s.runs.process
      → result_of pips tree budget before s.pip pip.kind ≡ unless_clash files (clash_at pips (made_by before) s.pip files)
  result_is pip is =
      ap (result_of pips tree budget before s.pip) is
      ∙ ap (λ b. cond b (worked pips tree budget (made_by before) (inputs_of pips (Process s.runs.process) (made_by before)) s.pip (Process s.runs.process)) (failed verdicts.Skipped)) s.runs.is_run
      ∙ ap (by_outcome pips tree (made_by before) s.pip) outcome_is

  whole_is : (pip : Pip) → slice_get pips s.pip ≡ Some pip → result_of pips tree budget all s.pip pip.kind ≡ result_of pips tree budget before s.pip pip.kind
  whole_is pip at =
      let within : s.pip < length all = let l = slice_get_within pips s.pip pip at in omega (arith, l, number_of_results pips tree budget) in
      ap (λ rs. result_of pips tree budget rs s.pip pip.kind) (sym (take-append-drop s.pip all))
      ∙ result_same pips list tree budget s.pip pip at (take s.pip all) (drop s.pip all) (omega (arith, within, length-take s.pip all))

  verdict_is : (pip : Pip) → slice_get pips s.pip ≡ Some pip → (result_of pips tree budget all s.pip pip.kind).verdict ≡ verdicts.Succeeded
  verdict_is pip at =
      same_Some (result_of pips tree budget all s.pip pip.kind).verdict verdicts.Succeeded
      (sym (ap (λ (o : Option Result). option_map (λ (r : Result). r.verdict) o) (result_of_all pips tree budget s.pip pip list at))
      ∙ sym (slice_get-map (λ (r : Result). r.verdict) all s.pip) ∙ s.succeeds)

  made_is : (pip : Pip) → slice_get pips s.pip ≡ Some pip → pip.kind ≡ Process s.runs.process → (result_of pips tree budget all s.pip pip.kind).files ≡ files
  made_is pip at is =
      let here = whole_is pip at ∙ result_is pip is in
      ap (λ (r : Result). r.files) here
      ∙ unclashed files (clash_at pips (made_by before) s.pip files) (ap (λ (r : Result). r.verdict) (sym here) ∙ verdict_is pip at)

  none_nested : KeepsRules pips tree → NoneNested (paths_of files)
  none_nested keeps =
      let kept : AreOwnOutputs pips (made_by all) s.pip there.0.kind (result_of pips tree budget all s.pip there.0.kind).files =
      kept_result pips tree budget s.pip there.0 all (kept_apart pips tree keeps) (λ d a. holds d a) there.1 in
      let same = made_is there.0 there.1 there.2 in
      subst (λ (fs : Files). NoneNested (paths_of fs)) same
      (λ dir path h k below. kept.unnested path dir
      (has_contained (paths_of (result_of pips tree budget all s.pip there.0.kind).files) path k)
      (has_contained (paths_of (result_of pips tree budget all s.pip there.0.kind).files) dir h) below)

  pub success_fits : KeepsRules pips tree → Sound f → FilesFit f
  success_fits keeps sound = record {
    fit = files_fit f sound s.good;
    unnested = subst NoneNested (sym (paths_lines files)) (none_nested keeps);
  }
