use Rattle.std.proofs.Common.{◌∙◌}
use Rattle.std.proofs.lemmas.Result.{IfOk-weaker}
use Rattle.bx_engine.proofs.ResponsesAreExpected.{input_shown}
use Rattle.bx_engine.proofs.response.refuse_input.Goals as goal

pub returns : goal.returns
returns c =
    IfOk-weaker c.refused.result _ _ (λ response h. input_shown c.args.fault c.in_ok-kind.kind response
    (c.in_ok-kind.ensures ∙ c.in_ok-name.ensures.items ∙ c.as_bytes.ensures.value ∙ c.input_name.ensures) h) c.refused.ensures
