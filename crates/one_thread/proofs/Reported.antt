-- Each verdict of a build has its line.
use Rattle.std.proofs.Common.{◌≡◌, ◌≢◌, ◌⊎◌, ℕ, ◌+◌, Bool, true, false, cond, List, [], ◌∷◌, ◌++◌, map, take, Option, Some, None, refl, sym, ap, ◌∙◌, subst, ◌==◌, true≢false}
use Rattle.std.specs.Prelude.{IsSome, is_some, slice_get, ⊤}
use Rattle.std.specs.List.{AllByRecursion}
use Rattle.std.specs.Option.{option_map}
use Rattle.std.proofs.lemmas.Option.{same_Some, slice_get-map}
use Rattle.bx_tree.specs.Paths.{Atoms}
use Rattle.bx_tree.specs.Trees.{Files, file_at}
use Rattle.bx_tree.proofs.HeaderParts.{at_split}
use Rattle.pip_model_types.specs.Kinds.{taken_dirs}
use Rattle.pip_model_types.specs.Makers.{IsPipList}
use Rattle.pip_model_types.specs.declared.pip.Pip.{Pip}
use Rattle.pip_model_types.specs.declared.pip.PipKind.{PipKind}
use Rattle.pip_model_types.specs.declared.pip.PipKind.TheVariants.{Process, Copy, Write, Seal}
use Rattle.pip_model_types.specs.declared.pip.ProcessDesc.{ProcessDesc}
use Rattle.observed.specs.declared.access.Access.{Access}
use Rattle.observed.specs.declared.access.Access.TheVariants.{Asked, Wrote, WriteDenied}
use Rattle.observed.specs.declared.access.Answer.{Answer}
use Rattle.observed.specs.declared.access.Answer.TheVariants as answers
use Rattle.observed.specs.declared.access.End.{End}
use Rattle.observed.specs.declared.access.End.TheVariants as ends
use Rattle.observed.specs.declared.ask.Ask.{Ask}
use Rattle.observed.specs.Asks.{is_listing}
use Rattle.observed.specs.declared.ask.AskKind.{AskKind}
use Rattle.observed.specs.declared.ask.AskKind.TheVariants as kinds
use Rattle.tool_run.specs.Described.{described}
use Rattle.tool_run.specs.Description.{Description, answer_of, declared_at, file_answer, given, or_else}
use Rattle.tool_run.specs.Laws.{EndsDenied, IsAnswered, IsDenied, RunInvariant}
use Rattle.tool_run.specs.Run.{Run, run_of}
use Rattle.tool_run.proofs.Accesses.{holds}
use Rattle.run_record.specs.Outcomes.{complete, completed, exited, first_missing, last_access, outcome_by_end, outcome_of, refused, with_console}
use Rattle.run_record.specs.declared.outcome.Cause.{Cause}
use Rattle.run_record.specs.declared.outcome.Cause.TheVariants as causes
use Rattle.run_record.specs.declared.outcome.Outcome.{Outcome}
use Rattle.run_record.specs.declared.outcome.Outcome.TheVariants.{Good, Failed}
use Rattle.violations.specs.Classes.{ask_class, class_of, look_kind, other_class, producer, read_class}
use Rattle.violations.specs.DoubleWrites.{clash_at, first_clash, least_clash, or_next, outdirs_in, shared_paths}
use Rattle.violations.specs.Leading.{leads}
use Rattle.violations.specs.Producing.{dirs_at, least_unseen}
use Rattle.violations.specs.Verdicts.{alone, with_pip}
use Rattle.violations.specs.declared.verdict.DeedKind.{DeedKind}
use Rattle.violations.specs.declared.verdict.DeedKind.TheVariants as deeds
use Rattle.violations.specs.declared.verdict.Verdict.{Verdict}
use Rattle.violations.specs.declared.verdict.Verdict.TheVariants as verdicts
use Rattle.violations.specs.declared.verdict.Violation.{Violation}
use Rattle.violations.specs.declared.verdict.ViolationKind.{ViolationKind}
use Rattle.violations.specs.declared.verdict.ViolationKind.TheVariants as violations
use Rattle.pip_view_inputs.specs.Plain.{desc_of}
use Rattle.pip_view_inputs.specs.Results.{ByPip, inputs_of}
use Rattle.pip_view.specs.InputFiles.{input_files}
use Rattle.pip_view.specs.Sees.{answer_at, looked, pip_sees, sees}
use Rattle.one_thread.specs.Lines.{HasLine, IsToolFault, NamesPip}
use Rattle.one_thread.specs.OneThread.{Result, by_cause, by_outcome, failed, inputs_are_good, made_by, one_thread, ran, result_of, unless_clash, verdicts_of, violated, worked}
use Rattle.one_thread.proofs.EachResult.{result_of_all}

-- ## Clashes

or_next_named : (path : Atoms) (j : Option ℕ) (next : Option Violation) → ((v : Violation) → next ≡ Some v → NamesPip v.kind v.other) → (v : Violation)
    → or_next path j next ≡ Some v → NamesPip v.kind v.other
or_next_named path (Some j) next rest v e =
    subst (λ (w : Violation). NamesPip w.kind w.other) (same_Some (with_pip violations.DoubleWrite deeds.Write path j) v e) refl
or_next_named path None next rest v e = rest v e

clash_named : (paths : List Atoms) (before : List Pip) (made : List Files) (v : Violation) → first_clash paths before made ≡ Some v → NamesPip v.kind v.other
clash_named [] before made v e = absurd cc
clash_named (path ∷ paths) before made v e =
    or_next_named path (least_clash path 0 before made) (first_clash paths before made) (clash_named paths before made) v e

clash_line : (files : Files) (clash : Option Violation) → ((v : Violation) → clash ≡ Some v → NamesPip v.kind v.other) → HasLine (unless_clash files clash).verdict
clash_line files None named = tt
clash_line files (Some v) named = named v refl

-- ## Denied accesses

-- what a run that failed must say of its cause
abbrev IsCause : Description → (Ask → Answer) → Outcome → Type 0
IsCause d a (Good files) = ⊤
IsCause d a (Failed (causes.Exit code)) = ⊤
IsCause d a (Failed (causes.Tool end)) = IsToolFault end
IsCause d a (Failed (causes.MissingOutput path)) = ⊤
IsCause d a (Failed (causes.Denied access)) = IsDenied access × IsAnswered d a access

last_of : (before : List Access) (x : Access) → last_access (before ++ x ∷ []) ≡ Some x
last_of [] x = refl
last_of (y ∷ []) x = refl
last_of (y ∷ z ∷ rest) x = last_of (z ∷ rest) x

module _ (d : Description) (a : Ask → Answer) (r : Run) (holds : RunInvariant d a r) where
  denied_cause : EndsDenied r.accesses → IsCause d a (refused (last_access r.accesses))
  denied_cause e =
      let answered : IsAnswered d a e.last = at_split (IsAnswered d a) e.before e.last [] (subst (AllByRecursion (IsAnswered d a)) e.accesses_are holds.answered) in
      let last : last_access r.accesses ≡ Some e.last = ap last_access e.accesses_are ∙ last_of e.before e.last in
      subst (λ (o : Option Access). IsCause d a (refused o)) (sym last) (e.denied, answered)

  complete_cause : (missing : Option Atoms) (files : Files) → IsCause d a (complete missing files)
  complete_cause None files = tt
  complete_cause (Some path) files = tt

  exit_cause : (code : ℕ) (b : Bool) → IsCause d a (cond b (completed d r) (Failed (causes.Exit code)))
  exit_cause code true = complete_cause (first_missing d.outs r.writes) (with_console d.console r.writes r.console)
  exit_cause code false = tt

  end_cause : (end : End) → r.end ≡ end → IsCause d a (outcome_by_end d r end)
  end_cause (ends.Exit code) is = exit_cause code (code == 0)
  end_cause ends.Denied is = denied_cause (holds.denied is)
  end_cause ends.BadProgram is = tt
  end_cause ends.BadPath is = tt
  end_cause ends.Budget is = tt
  end_cause ends.TooLong is = tt
  end_cause ends.NotADirectory is = tt

-- ## Violations

look_named : (pips : List Pip) (i j : ℕ) → NamesPip (look_kind pips i j) (Some j)
look_named pips i j = by_walks (leads pips i j) (leads pips j i)
  where
    by_walks : (to from : Bool) → NamesPip (cond to violations.UndeclaredOrderedRead (cond from violations.UndeclaredReadCycle violations.ReadRace)) (Some j)
    by_walks true from = refl
    by_walks false true = refl
    by_walks false false = refl

abbrev IsNamed : Violation → Type 0
IsNamed v = NamesPip v.kind v.other

dir_or_none : (dir : Bool) → cond dir answers.Directory answers.Absent ≢ answers.Denied
dir_or_none true e = absurd cc
dir_or_none false e = absurd cc

read_named : (pips : List Pip) (i : ℕ) (path : Atoms) (file : Option (List ℕ)) (source : Bool) (other : Option ℕ) (dir : Bool)
    → looked kinds.Read file source (is_some other) dir ≡ answers.Denied
    → IsNamed (cond source (alone violations.MissingSourceDependency deeds.Read path) (other_class pips i deeds.Read path other))
read_named pips i path (Some bytes) source other dir e = absurd cc
read_named pips i path None true other dir e = refl
read_named pips i path None false (Some j) dir e = look_named pips i j
read_named pips i path None false None dir e = absurd (dir_or_none dir e)

probe_named : (pips : List Pip) (i : ℕ) (path : Atoms) (file : Option (List ℕ)) (source : Bool) (other : Option ℕ) (dir : Bool)
    → looked kinds.Probe file source (is_some other) dir ≡ answers.Denied → IsNamed (other_class pips i deeds.Probe path other)
probe_named pips i path (Some bytes) source other dir e = absurd cc
probe_named pips i path None true other dir e = absurd cc
probe_named pips i path None false (Some j) dir e = look_named pips i j
probe_named pips i path None false None dir e = absurd (dir_or_none dir e)

module _ (pips : List Pip) (tree : Files) (i : ℕ) (pip : Pip) (at : slice_get pips i ≡ Some pip) (p : ProcessDesc) (is : pip.kind ≡ Process p) (made : ByPip) where
  producer_is : (path : Atoms) → least_unseen (taken_dirs (Process p)) i path 0 pips ≡ producer pips i path
  producer_is path = ap (λ dirs. least_unseen dirs i path 0 pips) (sym (ap dirs_at at ∙ ap taken_dirs is))

  seen_now : (ask : Ask) → sees pips tree made i ask
      ≡ answer_at tree (input_files pips tree made (Process p)) (is_some (producer pips i ask.path)) ask.kind ask.path
  seen_now ask =
      ap (λ (o : Option Pip). pip_sees pips tree made i o ask) at
      ∙ ap (λ (k : PipKind). answer_at tree (input_files pips tree made k) (is_some (least_unseen (taken_dirs k) i ask.path 0 pips)) ask.kind ask.path) is
      ∙ ap (λ o. answer_at tree (input_files pips tree made (Process p)) (is_some o) ask.kind ask.path) (producer_is ask.path)

  kind_line : (kind : AskKind) (path : Atoms) → is_listing kind ≡ false
      → answer_at tree (input_files pips tree made (Process p)) (is_some (producer pips i path)) kind path ≡ answers.Denied
      → HasLine (violated (ask_class pips tree i kind path)).verdict
  kind_line kinds.Read path other e =
      read_named pips i path (file_at (input_files pips tree made (Process p)) path) (is_some (file_at tree path)) (producer pips i path) _ e
  kind_line kinds.Probe path other e =
      probe_named pips i path (file_at (input_files pips tree made (Process p)) path) (is_some (file_at tree path)) (producer pips i path) _ e
  kind_line kinds.List path other e = absurd (true≢false other)
  kind_line (kinds.Match pattern) path other e = absurd (true≢false other)

  file_given : (kind : AskKind) (file : Option (List ℕ)) (now : Answer) → or_else (file_answer kind file) now ≡ answers.Denied → now ≡ answers.Denied
  file_given kind None now e = e
  file_given kinds.Read (Some bytes) now e = absurd cc
  file_given kinds.Probe (Some bytes) now e = absurd cc
  file_given kinds.List (Some bytes) now e = e
  file_given (kinds.Match pattern) (Some bytes) now e = e

  access_line : (d : Description) (access : Access) → IsDenied access → IsAnswered d (sees pips tree made i) access
      → HasLine (violated (class_of pips tree i access)).verdict
  access_line d (Asked ask answer) denied answered =
      let now : sees pips tree made i ask ≡ answers.Denied = file_given ask.kind (declared_at d ask.path) _ (sym answered ∙ denied.1) in
      subst (λ (x : Answer). HasLine (violated (class_of pips tree i (Asked ask x))).verdict) (sym denied.1)
      (kind_line ask.kind ask.path denied.0 (sym (seen_now ask) ∙ now))
  access_line d (Wrote path) denied answered = absurd denied
  access_line d (WriteDenied path) denied answered = refl

  outcome_line : (d : Description) (files : List Files) (o : Outcome) → IsCause d (sees pips tree made i) o → HasLine (by_outcome pips tree files i o).verdict
  outcome_line d files (Good own) c = clash_line own (clash_at pips files i own)
      (clash_named (shared_paths (outdirs_in (slice_get pips i)) own) (take i pips) files)
  outcome_line d files (Failed (causes.Exit code)) c = tt
  outcome_line d files (Failed (causes.Tool end)) c = c
  outcome_line d files (Failed (causes.MissingOutput path)) c = tt
  outcome_line d files (Failed (causes.Denied access)) c = access_line d access c.0 c.1

  process_line : (budget : ℕ) (files : List Files) → HasLine (by_outcome pips tree files i (ran (desc_of tree made budget p) (sees pips tree made i))).verdict
  process_line budget files =
      let d = described (desc_of tree made budget p) in
      let see = sees pips tree made i in
      outcome_line d files (outcome_of d (run_of d see)) (end_cause d see (run_of d see) (holds d see) (run_of d see).end refl)

-- ## Results

module _ (pips : List Pip) (tree : Files) (budget : ℕ) (results : List Result) (i : ℕ) (pip : Pip) (at : slice_get pips i ≡ Some pip) where
  kind_result : (kind : PipKind) → pip.kind ≡ kind → (good : Bool)
      → HasLine (cond good (worked pips tree budget (made_by results) (inputs_of pips kind (made_by results)) i kind) (failed verdicts.Skipped)).verdict
  kind_result (Process p) is true = process_line pips tree i pip at p is (inputs_of pips (Process p) (made_by results)) budget (made_by results)
  kind_result (Process p) is false = tt
  kind_result (Copy d) is true = tt
  kind_result (Copy d) is false = tt
  kind_result (Write d) is true = tt
  kind_result (Write d) is false = tt
  kind_result (Seal d) is true = tt
  kind_result (Seal d) is false = tt

  result_line : HasLine (result_of pips tree budget results i pip.kind).verdict
  result_line = kind_result pip.kind refl (inputs_are_good pips pip.kind results)

pub line_of : (pips : List Pip) (tree : Files) (budget i : ℕ) (pip : Pip) (verdict : Verdict) → IsPipList pips → slice_get pips i ≡ Some pip
    → slice_get (verdicts_of (one_thread pips tree budget)) i ≡ Some verdict → HasLine verdict
line_of pips tree budget i pip verdict list at is =
    let all = one_thread pips tree budget in
    let next = result_of pips tree budget all i pip.kind in
    let here : slice_get (verdicts_of all) i ≡ Some next.verdict =
    slice_get-map (λ (r : Result). r.verdict) all i
    ∙ ap (λ (o : Option Result). option_map (λ (r : Result). r.verdict) o) (result_of_all pips tree budget i pip list at) in
    subst HasLine (same_Some next.verdict verdict (sym here ∙ is)) (result_line pips tree budget all i pip at)
