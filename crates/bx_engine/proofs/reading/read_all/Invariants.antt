use Rattle.std.proofs.Common.{◌≡◌, ◌≤◌, ◌-◌, ◌++◌, length}
use Rattle.std.specs.Prelude.{vec_len}
use Rattle.bx_io.specs.Told.{Moves}
use Rattle.bx_engine.specs.declared.limits.TheConstants.{READ_LIMIT, READ_PIECE}
use Rattle.bx_engine.proofs.reading.read_all.Given as goal

abbrev pub invariant-pieces : goal.invariant-pieces
invariant-pieces g l = record {
  gave : g.S.Source.given l.source ≡ g.S.Source.given l.fn.source ++ l.held.items;
  moved : Moves (g.S.Source.left l.fn.source) (g.S.Source.left l.source) l.held.items;
  bound : vec_len l.held ≤ READ_LIMIT;
  buffer : length l.buffer.items ≡ READ_PIECE;
  same : g.S.Source.faults l.source ≡ g.S.Source.faults l.fn.source;
}

abbrev pub decreases-pieces : goal.decreases-pieces
decreases-pieces g l = READ_LIMIT - vec_len l.held
