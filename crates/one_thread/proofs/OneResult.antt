-- What holds of the files of one result.
use Rattle.std.proofs.Common.{◌≡◌, ◌⊎◌, ℕ, Bool, true, false, cond, List, [], ◌∷◌, take, Option, Some, None, refl, ap, sym, ◌∙◌, subst, inl, inr}
use Rattle.std.specs.Prelude.{slice_get}
use Rattle.std.specs.Option.{option_to_list}
use Rattle.tool_run_writes.proofs.Unnested.{not_itself}
use Rattle.bx_tree.specs.Paths.{Atoms, IsBelow}
use Rattle.bx_tree.specs.Trees.{Files, NoneNested, paths_of}
use Rattle.bx_tree.specs.Members.{Has}
use Rattle.bx_tree.proofs.Sets.{contains_has}
use Rattle.bx_tree.proofs.Members.{has_back}
use Rattle.graph_check_outputs.specs.Outputs.{declared_files}
use Rattle.observed.specs.declared.access.Answer.{Answer}
use Rattle.observed.specs.declared.ask.Ask.{Ask}
use Rattle.one_thread.specs.OneThread.{Result, by_cause, by_outcome, failed, inputs_are_good, made_by, process_outcome, ran, result_of, unless_clash, violated, worked}
use Rattle.pip_view_inputs.specs.Contents.{input_bytes}
use Rattle.pip_view_inputs.specs.Plain.{desc_of}
use Rattle.pip_view_inputs.specs.Results.{ByPip, inputs_of}
use Rattle.pip_model_types.specs.declared.desc.Desc.{Desc}
use Rattle.pip_model_types.specs.declared.pip.Pip.{Pip}
use Rattle.pip_model_types.specs.declared.pip.PipKind.{PipKind}
use Rattle.pip_model_types.specs.declared.pip.PipKind.TheVariants.{Process, Copy, Write, Seal}
use Rattle.pip_model_types.specs.declared.pip.ProcessDesc.{ProcessDesc}
use Rattle.pip_view.specs.Sees.{sees}
use Rattle.run_record.specs.Facts.{run_for}
use Rattle.run_record.specs.declared.outcome.Outcome.{Outcome}
use Rattle.run_record.specs.declared.outcome.Outcome.TheVariants.{Good, Failed}
use Rattle.run_record.specs.declared.outcome.Cause.{Cause}
use Rattle.run_record.specs.declared.outcome.Cause.TheVariants as causes
use Rattle.tool_run.specs.Described.{described}
use Rattle.tool_run.specs.Description.{Description}
use Rattle.tool_run.specs.Laws.{RunInvariant}
use Rattle.tool_run.specs.Run.{run_of}
use Rattle.violations.specs.declared.verdict.Verdict.TheVariants as verdicts
use Rattle.violations.specs.declared.verdict.Violation.{Violation}
use Rattle.violations.specs.Classes.{class_of}
use Rattle.violations.specs.DoubleWrites.{clash_at, clash_of, outdirs_in}
use Rattle.one_thread.specs.Keeping.{AreOwnOutputs, Makes}
use Rattle.one_thread.proofs.Making.{good_files, with_console_has, written_makes}
use Rattle.one_thread.proofs.Meeting.{Apart, below_file, file_below}
use Rattle.pip_model_types.specs.Kinds.{outdirs_of}

-- each run keeps to its description
abbrev pub AllHold : Type 0
AllHold = (d : Description) (a : Ask → Answer) → RunInvariant d a (run_of d a)

-- no files
pub none_kept : (pips : List Pip) (made : List Files) (i : ℕ) (kind : PipKind) → AreOwnOutputs pips made i kind []
none_kept pips made i kind = record {
  makes = λ q h. absurd h;
  unnested = λ p q h k below. absurd h;
  unclashed = refl;
}

one_unnested : (to : Atoms) (bytes : List ℕ) (p q : Atoms) → Has (paths_of ((to, bytes) ∷ [])) p → Has (paths_of ((to, bytes) ∷ [])) q → IsBelow p q → ⊥
one_unnested to bytes p q (inl e) (inl f) below =
    not_itself to (subst (λ (x : Atoms). IsBelow to x) (sym f) (subst (λ (x : Atoms). IsBelow x q) (sym e) below))
one_unnested to bytes p q (inl e) (inr f) below = absurd f
one_unnested to bytes p q (inr e) k below = absurd e

one_makes : (kind : PipKind) (to : Atoms) (bytes : List ℕ) → Has (declared_files kind) to → (q : Atoms) → Has (paths_of ((to, bytes) ∷ [])) q → Makes kind q
one_makes kind to bytes there q (inl e) = inl (subst (λ (x : Atoms). Has (declared_files kind) x) e there)
one_makes kind to bytes there q (inr f) = absurd f

-- a file of a process is its console file, or was written
place_makes : (d : ProcessDesc) (writes : Files) → ((q : Atoms) → Has (paths_of writes) q → Makes (Process d) q) → (q : Atoms)
    → Has (option_to_list d.console) q ⊎ Has (paths_of writes) q → Makes (Process d) q
place_makes d writes makes q (inl c) = inl (has_back d.outs (option_to_list d.console) q c)
place_makes d writes makes q (inr w) = makes q w

module _ (pips : List Pip) (apart : Apart pips) (hold : AllHold) (tree : Files) (made : List Files) (i : ℕ) (pip : Pip)
    (at : slice_get pips i ≡ Some pip) where
  -- ## Processes

  -- two files of a process of which one was written and one is the console file, or both were written
  unnested_pair : (d : ProcessDesc) → pip.kind ≡ Process d → (writes : Files) → NoneNested (paths_of writes)
      → ((q : Atoms) → Has (paths_of writes) q → Makes (Process d) q) → (p q : Atoms) → Has (option_to_list d.console) p ⊎ Has (paths_of writes) p
      → Has (option_to_list d.console) q ⊎ Has (paths_of writes) q → IsBelow p q → ⊥
  unnested_pair d is writes none makes p q (inl c) m below =
      file_below pips apart i i pip pip at at p q below
      (subst (λ (k : PipKind). Has (declared_files k) p) (sym is) (has_back d.outs (option_to_list d.console) p c))
      (subst (λ (k : PipKind). Makes k q) (sym is) (place_makes d writes makes q m))
  unnested_pair d is writes none makes p q (inr w) (inl c) below =
      below_file pips apart i i pip pip at at p q below (subst (λ (k : PipKind). Makes k p) (sym is) (makes p w))
      (subst (λ (k : PipKind). Has (declared_files k) q) (sym is) (has_back d.outs (option_to_list d.console) q c))
  unnested_pair d is writes none makes p q (inr w) (inr v) below =
      none q p (contains_has (paths_of writes) q v) (contains_has (paths_of writes) p w) below

  of_good : (x : Desc) (see : Ask → Answer) (files : Files) → pip.kind ≡ Process x.process → ran x see ≡ Good files
      → clash_of (take i pips) made (outdirs_of (Process x.process)) files ≡ None → AreOwnOutputs pips made i (Process x.process) files
  of_good x see files is good none =
      let run = run_for x see in
      let h = hold (described x) see in
      let are = good_files (described x) run files good in
      let makes = λ (q : Atoms) (w : Has (paths_of run.writes) q). written_makes x run.writes q h.permitted w in
      let split = λ (q : Atoms) (w : Has (paths_of files) q).
      with_console_has x.process.console run.writes run.console q (subst (λ (fs : Files). Has (paths_of fs) q) are w) in
      record {
        makes = λ q w. place_makes x.process run.writes makes q (split q w);
        unnested = λ p q v w below. unnested_pair x.process is run.writes h.unnested makes p q (split p v) (split q w) below;
        unclashed = none;
      }

  -- the directories of the pip are those of its kind
  clash_is : (kind : PipKind) (files : Files) → pip.kind ≡ kind → clash_of (take i pips) made (outdirs_of kind) files ≡ clash_at pips made i files
  clash_is kind files is =
      ap (λ (k : PipKind). clash_of (take i pips) made (outdirs_of k) files) (sym is)
      ∙ ap (λ (o : Option Pip). clash_of (take i pips) made (outdirs_in o) files) (sym at)

  -- files that the process makes, none below another, unless they clash
  pub of_unclashed : (d : ProcessDesc) (files : Files) → pip.kind ≡ Process d → ((q : Atoms) → Has (paths_of files) q → Makes (Process d) q)
      → ((p q : Atoms) → Has (paths_of files) p → Has (paths_of files) q → IsBelow p q → ⊥) → (c : Option Violation)
      → clash_at pips made i files ≡ c → AreOwnOutputs pips made i (Process d) (unless_clash files c).files
  of_unclashed d files is makes unnested None e = record {
    makes = makes;
    unnested = unnested;
    unclashed = clash_is (Process d) files is ∙ e;
  }
  of_unclashed d files is makes unnested (Some v) e = none_kept pips made i (Process d)

  of_clash : (x : Desc) (see : Ask → Answer) (files : Files) → pip.kind ≡ Process x.process → ran x see ≡ Good files → (c : Option Violation)
      → clash_at pips made i files ≡ c → AreOwnOutputs pips made i (Process x.process) (unless_clash files c).files
  of_clash x see files is good None e = of_good x see files is good (clash_is (Process x.process) files is ∙ e)
  of_clash x see files is good (Some v) e = none_kept pips made i (Process x.process)

  of_violation : (d : ProcessDesc) (c : Option Violation) → AreOwnOutputs pips made i (Process d) (violated c).files
  of_violation d None = none_kept pips made i (Process d)
  of_violation d (Some v) = none_kept pips made i (Process d)

  of_cause : (d : ProcessDesc) (cause : Cause) → AreOwnOutputs pips made i (Process d) (by_cause pips tree i cause).files
  of_cause d (causes.Exit code) = none_kept pips made i (Process d)
  of_cause d (causes.Tool end) = none_kept pips made i (Process d)
  of_cause d (causes.MissingOutput path) = none_kept pips made i (Process d)
  of_cause d (causes.Denied access) = of_violation d (class_of pips tree i access)

  pub of_outcome : (x : Desc) (see : Ask → Answer) → pip.kind ≡ Process x.process → (o : Outcome) → ran x see ≡ o
      → AreOwnOutputs pips made i (Process x.process) (by_outcome pips tree made i o).files
  of_outcome x see is (Good files) e = of_clash x see files is e (clash_at pips made i files) refl
  of_outcome x see is (Failed cause) e = of_cause x.process cause

  -- ## Pips

  pub of_kind : (budget : ℕ) (inputs : ByPip) (kind : PipKind) → pip.kind ≡ kind → AreOwnOutputs pips made i kind (worked pips tree budget made inputs i kind).files
  of_kind budget inputs (Process d) is =
      of_outcome (desc_of tree inputs budget d) (sees pips tree inputs i) is (process_outcome pips tree budget inputs i d) refl
  of_kind budget inputs (Copy d) is = record {
    makes = one_makes (Copy d) d.to (input_bytes tree inputs d.from) (inl refl);
    unnested = one_unnested d.to (input_bytes tree inputs d.from);
    unclashed = refl;
  }
  of_kind budget inputs (Write d) is = record {
    makes = one_makes (Write d) d.to d.text (inl refl);
    unnested = one_unnested d.to d.text;
    unclashed = refl;
  }
  of_kind budget inputs (Seal d) is = none_kept pips made i (Seal d)

  pub kept_if : (budget : ℕ) (inputs : ByPip) (b : Bool)
      → AreOwnOutputs pips made i pip.kind (cond b (worked pips tree budget made inputs i pip.kind) (failed verdicts.Skipped)).files
  kept_if budget inputs true = of_kind budget inputs pip.kind refl
  kept_if budget inputs false = none_kept pips made i pip.kind

-- the files of the result that the results of all pips give
pub kept_result : (pips : List Pip) (tree : Files) (budget i : ℕ) (pip : Pip) (results : List Result) → Apart pips → AllHold → slice_get pips i ≡ Some pip
    → AreOwnOutputs pips (made_by results) i pip.kind (result_of pips tree budget results i pip.kind).files
kept_result pips tree budget i pip results apart hold at =
    kept_if pips apart hold tree (made_by results) i pip at budget (inputs_of pips pip.kind (made_by results)) (inputs_are_good pips pip.kind results)
