-- What one pip comes to, by its kind.
use Rattle.std.proofs.Common.{◌≡◌, ◌<◌, ℕ, zero, suc, true, false, cond, List, [], ◌∷◌, length, map, Option, Some, None, refl, ap, sym, ◌∙◌, arith}
use Rattle.std.specs.Prelude.{IsSome, IsSomeAnd, slice_get}
use Rattle.std.proofs.lemmas.Bool.{false≢true}
use Rattle.bx_tree.specs.Trees.{Files}
use Rattle.observed.specs.declared.access.Answer.{Answer}
use Rattle.observed.specs.declared.ask.Ask.{Ask}
use Rattle.pip_model_types.specs.declared.desc.Desc.{Desc}
use Rattle.pip_model_types.specs.declared.made.Slot.{Slot}
use Rattle.pip_model_types.specs.declared.pip.Pip.{Pip}
use Rattle.pip_model_types.specs.declared.pip.PipKind.{PipKind}
use Rattle.pip_model_types.specs.declared.pip.PipKind.TheVariants.{Process, Copy, Write, Seal}
use Rattle.pip_model_types.specs.declared.pip.ProcessDesc.{ProcessDesc}
use Rattle.pip_view_inputs.specs.Plain.{desc_of, kind_process, plain_in, plain_of, process_in}
use Rattle.pip_view_inputs.specs.Results.{ByPip, inputs_of, kind_inputs}
use Rattle.violations.specs.Slots.{slot_files}
use Rattle.pip_view.specs.Sees.{sees}
use Rattle.run_record.specs.declared.outcome.Outcome.{Outcome}
use Rattle.violations.specs.declared.verdict.Verdict.TheVariants as verdicts
use Rattle.one_thread.specs.OneThread.{Result, by_outcome, failed, ran, succeeded, worked}
use Rattle.one_thread.specs.Views.{ended_in, good_at, worked_in}

-- ## Pips that are no processes

pub plain_worked : (pips : List Pip) (tree : Files) (budget : ℕ) (made : List Files) (inputs : ByPip) (i : ℕ) (o : Option Pip) → IsSome o
    → process_in o ≡ None → succeeded (plain_in tree inputs o) ≡ worked_in pips tree budget made inputs i o
plain_worked pips tree budget made inputs i None there e = absurd (false≢true there)
plain_worked pips tree budget made inputs i (Some pip) there e = by_kind pip.kind e
  where
    by_kind : (kind : PipKind) → kind_process kind ≡ None → succeeded (plain_of tree inputs kind) ≡ worked pips tree budget made inputs i kind
    by_kind (Process d) f = cc
    by_kind (Copy d) f = refl
    by_kind (Write d) f = refl
    by_kind (Seal d) f = refl

-- ## Processes

pub process_worked : (pips : List Pip) (tree : Files) (budget : ℕ) (made : List Files) (inputs : ByPip) (i : ℕ) (o : Option Pip) (d : Desc)
    (see : Ask → Answer) (outcome : Outcome) (r : Result) → IsSomeAnd (process_in o) (λ (p : ProcessDesc). d ≡ desc_of tree inputs budget p)
    → see ≡ sees pips tree inputs i → outcome ≡ ran d see → r ≡ by_outcome pips tree made i outcome → r ≡ worked_in pips tree budget made inputs i o
process_worked pips tree budget made inputs i None d see outcome r there is_view is_run is = absurd there
process_worked pips tree budget made inputs i (Some pip) d see outcome r there is_view is_run is = by_kind pip.kind there
  where
    by_kind : (kind : PipKind) → IsSomeAnd (kind_process kind) (λ (p : ProcessDesc). d ≡ desc_of tree inputs budget p)
        → r ≡ worked pips tree budget made inputs i kind
    by_kind (Process p) same =
        is
        ∙ ap (λ (o : Outcome). by_outcome pips tree made i o)
        (is_run ∙ ap (λ (x : Desc). ran x see) same ∙ ap (λ (s : Ask → Answer). ran (desc_of tree inputs budget p) s) is_view)
    by_kind (Copy p) same = absurd same
    by_kind (Write p) same = absurd same
    by_kind (Seal p) same = absurd same

-- ## Skipping

pub not_skipped : (pips : List Pip) (tree : Files) (budget : ℕ) (ss : List Slot) (i : ℕ) (o : Option Pip) → good_at pips o ss ≡ true
    → worked_in pips tree budget (map slot_files ss) (kind_inputs pips o (map slot_files ss)) i o ≡ ended_in pips tree budget ss i o
not_skipped pips tree budget ss i None good = refl
not_skipped pips tree budget ss i (Some pip) good =
    ap (λ b. cond b (worked pips tree budget (map slot_files ss) (inputs_of pips pip.kind (map slot_files ss)) i pip.kind) (failed verdicts.Skipped)) (sym good)

pub skipped : (pips : List Pip) (tree : Files) (budget : ℕ) (ss : List Slot) (i : ℕ) (o : Option Pip) → good_at pips o ss ≡ false
    → failed verdicts.Skipped ≡ ended_in pips tree budget ss i o
skipped pips tree budget ss i None bad = refl
skipped pips tree budget ss i (Some pip) bad =
    ap (λ b. cond b (worked pips tree budget (map slot_files ss) (inputs_of pips pip.kind (map slot_files ss)) i pip.kind) (failed verdicts.Skipped)) (sym bad)

pub pip_there : (pips : List Pip) (i : ℕ) → i < length pips → IsSome (slice_get pips i)
pip_there [] i l = absurd (omega (arith, l))
pip_there (pip ∷ pips) zero l = refl
pip_there (pip ∷ pips) (suc i) l = pip_there pips i (omega (arith, l))
