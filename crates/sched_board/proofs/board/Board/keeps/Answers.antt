use Rattle.std.proofs.Common.{subst}
use Rattle.sched_board.specs.Board.{IsBoard}
use Rattle.sched_board.proofs.Keeping.{sound_board}
use Rattle.sched_board.proofs.board.Board.keeps.Goals as goal

pub returns : goal.returns
returns g c =
    let board : IsBoard c.args.self.now = subst IsBoard c.self.view_is c.self.invariant.board in
    record { board = board; sound = sound_board c.args.self.now board }
