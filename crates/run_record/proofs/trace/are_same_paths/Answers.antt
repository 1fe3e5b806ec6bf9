use Rattle.std.proofs.Common.{◌∙◌, sym}
use Rattle.run_record.proofs.Found.{sets_decide}
use Rattle.run_record.proofs.trace.are_same_paths.Goals as goal

pub returns : goal.returns
returns c =
    let same = sets_decide c.asks.result.now c.asks-2.result.now c.eq.result c.eq.ensures in
    let mine = c.asks.ensures.asks in
    let yours = c.asks-2.ensures.asks in
    (λ e. sym mine ∙ same.0 e ∙ yours, λ e. same.1 (mine ∙ e ∙ sym yours))
