use Rattle.std.proofs.Common.{ℕ, subst}
use Rattle.sched_core.specs.declared.event.Event.TheVariants as event
use Rattle.sched_board_slots.specs.Slots.{slot_at}
use Rattle.sched_board.specs.Board.{BoardData, IsBoard}
use Rattle.sched_board.proofs.Moves.{at_pip, release_can}
use Rattle.sched_board.proofs.board.Board.release.Goals as goal

pub append-requires : goal.append-requires
append-requires g c =
    let b : BoardData = c.args.self.now in
    let board : IsBoard b = subst IsBoard c.self.view_is c.self.invariant.board in
    let can = at_pip b (λ (p w : ℕ). event.Release p w) c.args.job.pip c.pip.result c.args.share.now.worker c.worker.result c.pip.ensures c.worker.ensures
    (release_can b c.args.share.now c.args.job board c.requires.busy) in
    record { allowed = can.allowed; worker = can.worker; fits = can.fits }
