use Rattle.std.proofs.Common.{◌≡◌, false, true, sym, ◌∙◌}
use Rattle.sched_board_slots.proofs.SameDirs.{one_dir, one_path, one_rank}
use Rattle.sched_board_slots.proofs.holding.is_same_dir.Goals as goal

pub returns-then-mine-other : goal.returns-then-mine-other
returns-then-mine-other c = (
  λ (yes : false ≡ true). absurd cc,
  λ same. absurd (c.if-mine-other.true (c.rank-mine.ensures ∙ one_rank c.args.a.now c.args.b.now same ∙ sym c.rank-other.ensures)),
)

pub returns : goal.returns
returns c = (
  λ e.
      one_dir c.args.a.now c.args.b.now (sym c.rank-mine.ensures ∙ c.if-mine-other.false ∙ c.rank-other.ensures)
      (sym c.path.ensures ∙ c.is_same_path.ensures.0 e ∙ c.path-2.ensures),
  λ same. c.is_same_path.ensures.1 (c.path.ensures ∙ one_path c.args.a.now c.args.b.now same ∙ sym c.path-2.ensures),
)
