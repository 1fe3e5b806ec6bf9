use Rattle.bx_engine_words.proofs.OneSetting.{not_a_value}
use Rattle.bx_engine_words.proofs.setting.read_value.Goals as goal

pub returns-then-not-has_value : goal.returns-then-not-has_value
returns-then-not-has_value c option n h =
    not_a_value c.args.name.now c.args.text.now c.in_ok-option.option option c.in_ok-number.number n c.has_value.result
    c.in_ok-option.ensures c.in_ok-number.ensures.1 c.in_ok-number.ensures.0 c.has_value.ensures c.if-not-has_value.true h
