use Rattle.std.proofs.Common.{◌∙◌, ◌++◌, List, ℕ, ap, append_assoc, subst, sym}
use Rattle.bx_io.specs.Told.{Moves}
use Rattle.bx_engine.proofs.ReadingKeepsEnding.{moves_both}
use Rattle.bx_engine.proofs.reading.read_all.Goals as goal

pub returns-then-count-eq0-clause-piece : goal.returns-then-count-eq0-clause-piece
returns-then-count-eq0-clause-piece g c =
    let last = c.in_ok-count.ensures.moved in (
      c.pieces.held.items ++ last.0,
      last.1 ∙ ap (λ (bytes : List ℕ). bytes ++ last.0) c.pieces.invariant.gave ∙ append_assoc (g.S.Source.given c.args.source.now) c.pieces.held.items last.0,
      moves_both (g.S.Source.left c.args.source.now) (g.S.Source.left c.pieces.source) (g.S.Source.left c.read_piece.new.source) c.pieces.held.items last.0
          c.pieces.invariant.moved last.2,
    )

pub returns-then-count-eq0-clause-moved : goal.returns-then-count-eq0-clause-moved
returns-then-count-eq0-clause-moved g c =
    let last = c.in_ok-count.ensures.moved in
    subst (λ (bytes : List ℕ). Moves (g.S.Source.left c.args.source.now) (g.S.Source.left c.read_piece.new.source) bytes) (sym last.3)
    (moves_both (g.S.Source.left c.args.source.now) (g.S.Source.left c.pieces.source) (g.S.Source.left c.read_piece.new.source) c.pieces.held.items last.0
    c.pieces.invariant.moved last.2)
