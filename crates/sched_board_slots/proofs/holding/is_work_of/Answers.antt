use Rattle.std.proofs.Common.{◌≡◌, ap, false, map, sym, true, ◌∙◌}
use Rattle.pip_model_types.specs.Made.{made_files}
use Rattle.pip_view_inputs.specs.Contents.{input_file}
use Rattle.sched_board_slots.proofs.SameParts.{one_call, one_place, one_work}
use Rattle.sched_board_slots.proofs.Tests.{refuted}
use Rattle.sched_board_slots.proofs.holding.is_work_of.Goals as goal

pub returns-then-not-is_same_call : goal.returns-then-not-is_same_call
returns-then-not-is_same_call c =
    refuted _ _ c.is_same_call.result c.if-not-is_same_call.true c.is_same_call.ensures
    (λ work. one_call c.args.shown.now c.args.sources.now c.args.inputs.now c.args.budget c.args.process.now work)

pub returns-then-not-are_same_places : goal.returns-then-not-are_same_places
returns-then-not-are_same_places c =
    refuted _ _ c.are_same_places.result c.if-not-are_same_places.true c.are_same_places.ensures
    (λ work. one_place c.args.shown.now c.args.sources.now c.args.inputs.now c.args.budget c.args.process.now work)

pub returns-then-steps-budget : goal.returns-then-steps-budget
returns-then-steps-budget c = (λ (yes : false ≡ true). absurd cc, λ work. absurd (c.if-steps-budget.true work.budget))

pub returns-then-not-are_same_bytes : goal.returns-then-not-are_same_bytes
returns-then-not-are_same_bytes c =
    refuted _ _ c.are_same_bytes.result c.if-not-are_same_bytes.true c.are_same_bytes.ensures
    (λ work. c.source_bytes.ensures ∙ sym work.exe ∙ sym c.bytes.ensures)

pub returns : goal.returns
returns c = (
  λ e.
      one_work c.args.shown.now c.args.sources.now c.args.inputs.now c.args.budget c.args.process.now
      (c.is_same_call.ensures.0 c.if-not-is_same_call.false) (c.are_same_places.ensures.0 c.if-not-are_same_places.false) c.if-steps-budget.false
      (sym c.source_bytes.ensures ∙ c.are_same_bytes.ensures.0 c.if-not-are_same_bytes.false ∙ c.bytes.ensures)
      (sym c.files-2.ensures.files ∙ c.are_taken.ensures.0 e ∙ ap (map (input_file c.args.sources.now c.args.inputs.now)) c.files.ensures.files),
  λ work.
      c.are_taken.ensures.1 (c.files-2.ensures.files ∙ work.files ∙ sym (ap (map (input_file c.args.sources.now c.args.inputs.now)) c.files.ensures.files)),
)
