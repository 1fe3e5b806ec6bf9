use Rattle.std.proofs.Common.{◌∙◌, arith}
use Rattle.std.proofs.lemmas.Grind.{common_steps}
use Rattle.bx_engine.proofs.WrittenPieces.{none_of_none, one_more}
use Rattle.bx_engine.proofs.writing.write_all.Goals as goal

pub pieces-preserved : goal.pieces-preserved
pieces-preserved g c = record {
  prefix = one_more _ _ _ _ _ _ _ (grind (arith, common_steps)) c.pieces.invariant.prefix c.in_ok-count.ensures.appended;
  untouched = λ e. absurd (none_of_none _ _ _ _ c.pieces.invariant.prefix.1 e c.is_empty.ensures c.pieces-test.true);
  same = c.in_ok-count.ensures.no_fault ∙ c.pieces.invariant.same;
}
