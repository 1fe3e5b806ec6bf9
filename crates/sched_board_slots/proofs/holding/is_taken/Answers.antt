use Rattle.std.proofs.Common.{List, ℕ, ap, sym, ◌∙◌}
use Rattle.bx_tree.specs.Paths.{Atoms}
use Rattle.pip_view_inputs.specs.Contents.{input_file}
use Rattle.sched_board_slots.proofs.Tests.{pair_is, refuted}
use Rattle.sched_board_slots.proofs.holding.is_taken.Goals as goal

pub returns-then-not-is_same_path : goal.returns-then-not-is_same_path
returns-then-not-is_same_path c =
    refuted _ _ c.is_same_path.result c.if-not-is_same_path.true c.is_same_path.ensures
    (λ same. c.path.ensures ∙ sym (ap (λ (x : Atoms × List ℕ). x.0) same))

pub returns : goal.returns
returns c = (
  λ e.
      pair_is (c.args.shown.now.path, c.args.shown.now.blob) (input_file c.args.sources.now c.args.inputs.now c.args.file.now)
      (sym (c.is_same_path.ensures.0 c.if-not-is_same_path.false) ∙ c.path.ensures)
      (sym c.bytes.ensures ∙ sym (c.are_same_bytes.ensures.0 e) ∙ c.taken_bytes.ensures),
  λ same.
      c.are_same_bytes.ensures.1 (c.taken_bytes.ensures ∙ sym (ap (λ (x : Atoms × List ℕ). x.1) same) ∙ sym c.bytes.ensures),
)
