use Rattle.std.proofs.Common.{◌≡◌, Bool, subst, sym, true}
use Rattle.std.specs.Prelude.{◌↔◌}
use Rattle.sched_board.specs.Board.{IsFree}
use Rattle.bx_engine.proofs.crew.is_free.Goals as goal

pub returns : goal.returns
returns g c = subst (λ (b : Bool). b ≡ true ↔ IsFree c.args.board.now c.args.share.now) (sym c.is_ok.ensures.value) c.fits.ensures.exact
