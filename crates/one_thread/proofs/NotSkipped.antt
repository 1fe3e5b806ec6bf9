-- A process that came to an outcome was not skipped.
use Rattle.std.proofs.Common.{◌≡◌, ℕ, false, List, Option, Some, None, refl}
use Rattle.bx_tree.specs.Trees.{Files}
use Rattle.pip_model_types.specs.declared.pip.Pip.{Pip}
use Rattle.run_record.specs.declared.outcome.Outcome.{Outcome}
use Rattle.run_record.specs.declared.outcome.Outcome.TheVariants.{Good, Failed}
use Rattle.run_record.specs.declared.outcome.Cause.{Cause}
use Rattle.run_record.specs.declared.outcome.Cause.TheVariants as causes
use Rattle.violations.specs.Classes.{class_of}
use Rattle.violations.specs.DoubleWrites.{clash_at}
use Rattle.violations.specs.Verdicts.{is_skip}
use Rattle.violations.specs.declared.verdict.Violation.{Violation}
use Rattle.one_thread.specs.OneThread.{by_cause, by_outcome, unless_clash, violated}

violated_ran : (o : Option Violation) → is_skip (violated o).verdict ≡ false
violated_ran None = refl
violated_ran (Some violation) = refl

cause_ran : (pips : List Pip) (tree : Files) (i : ℕ) (cause : Cause) → is_skip (by_cause pips tree i cause).verdict ≡ false
cause_ran pips tree i (causes.Exit code) = refl
cause_ran pips tree i (causes.Tool end) = refl
cause_ran pips tree i (causes.MissingOutput path) = refl
cause_ran pips tree i (causes.Denied access) = violated_ran (class_of pips tree i access)

clash_ran : (files : Files) (o : Option Violation) → is_skip (unless_clash files o).verdict ≡ false
clash_ran files None = refl
clash_ran files (Some violation) = refl

pub outcome_ran : (pips : List Pip) (tree : Files) (made : List Files) (i : ℕ) (o : Outcome) → is_skip (by_outcome pips tree made i o).verdict ≡ false
outcome_ran pips tree made i (Good files) = clash_ran files (clash_at pips made i files)
outcome_ran pips tree made i (Failed cause) = cause_ran pips tree i cause
