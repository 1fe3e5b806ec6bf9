use Rattle.std.proofs.Common.{◌∙◌}
use Rattle.bx_engine.proofs.WrittenPieces.{appends_slice_or_fails}
use Rattle.bx_engine.proofs.care.tell_count.Goals as goal

pub returns-in-Ok-clause-noted : goal.returns-in-Ok-clause-noted
returns-in-Ok-clause-noted g c done =
    appends_slice_or_fails c.write_all.result _ _ _ _ _ _ (c.as_bytes.ensures.value ∙ c.in-Ok.ensures) c.write_all.ensures.whole c.write_all.ensures.prefix
    c.write_all.ensures.cause
