use Rattle.std.proofs.Common.{ap, sym, ◌∙◌}
use Rattle.bx_engine_words.specs.Settings.{odd_start}
use Rattle.bx_engine_words.proofs.Numbers.{number_read, odd_number}
use Rattle.bx_engine_words.proofs.setting.read_number.Goals as goal

pub returns-then-has_odd_start : goal.returns-then-has_odd_start
returns-then-has_odd_start c n small is =
    odd_number c.args.text.now n
    (ap odd_start (sym c.as_bytes.ensures.value) ∙ sym c.has_odd_start.ensures ∙ c.if-has_odd_start.true) small is

pub returns : goal.returns
returns c =
    number_read c.args.text.now c.ok.result c.parse.result
    (ap odd_start (sym c.as_bytes.ensures.value) ∙ sym c.has_odd_start.ensures ∙ c.if-has_odd_start.false)
    c.parse.ensures.value.0 c.ok.ensures.value
