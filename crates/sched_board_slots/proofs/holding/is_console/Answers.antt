use Rattle.std.proofs.Common.{◌≡◌, None, Some, ap, false, sym, true, ◌∙◌}
use Rattle.std.proofs.lemmas.Option.{same_Some}
use Rattle.sched_board_slots.proofs.holding.is_console.Goals as goal

pub returns-in-Some : goal.returns-in-Some
returns-in-Some c = (
  λ e. c.in-Some.is ∙ ap Some (c.is_same_path.ensures.0 e),
  λ same. c.is_same_path.ensures.1 (same_Some c.in-Some.own c.args.path.now (sym c.in-Some.is ∙ same)),
)

pub returns-in-None : goal.returns-in-None
returns-in-None c = (
  λ (yes : false ≡ true). absurd cc,
  λ same. absurd (let never : None ≡ Some c.args.path.now = sym c.in-None.is ∙ same in cc),
)
