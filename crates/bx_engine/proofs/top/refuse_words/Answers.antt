use Rattle.bx_engine.proofs.WrittenPieces.{appends_slice_or_fails}
use Rattle.bx_engine.proofs.top.refuse_words.Goals as goal

pub returns-clause-usage : goal.returns-clause-usage
returns-clause-usage g c =
    appends_slice_or_fails c.write_all.result _ _ _ _ _ _ c.as_bytes.ensures.value c.write_all.ensures.whole c.write_all.ensures.prefix c.write_all.ensures.cause
