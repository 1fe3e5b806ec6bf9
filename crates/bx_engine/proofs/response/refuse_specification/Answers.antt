use Rattle.std.proofs.lemmas.Result.{IfOk-weaker}
use Rattle.bx_engine.proofs.ResponsesAreExpected.{specification_shown}
use Rattle.bx_engine.proofs.response.refuse_specification.Goals as goal

pub returns : goal.returns
returns c = IfOk-weaker c.refused.result _ _ (λ response h. specification_shown c.args.refusal.now response h) c.refused.ensures
