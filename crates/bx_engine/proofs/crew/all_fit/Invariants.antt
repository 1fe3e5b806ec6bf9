use Rattle.std.proofs.Common.{take}
use Rattle.std.specs.Prelude.{All}
use Rattle.sched_board.specs.Board.{IsFree}
use Rattle.bx_engine.proofs.crew.all_fit.Given as goal

abbrev pub invariant-shares : goal.invariant-shares
invariant-shares g l = All (IsFree l.board) (take l.share-index l.shares)
