use Rattle.std.proofs.Common.{◌∙◌, sym, subst}
use Rattle.std.specs.Str.Parse.{ParsesUnsigned}
use Rattle.prints.proofs.PartReading.{no_utf8, not_parsed, number_parsed, odd_number}
use Rattle.prints.proofs.cursor.number_of.Goals as goal

pub returns-in_default : goal.returns-in_default
returns-in_default c = no_utf8 c.args.text.now c.in_default.ensures.cases.0

pub returns-then-has_odd_start : goal.returns-then-has_odd_start
returns-then-has_odd_start c = odd_number c.args.text.now (sym c.has_odd_start.ensures ∙ c.if-has_odd_start.true)

pub returns-in-Ok-parse : goal.returns-in-Ok-parse
returns-in-Ok-parse c =
    number_parsed c.args.text.now c.in-Ok-parse.number c.parse.result (sym c.has_odd_start.ensures ∙ c.if-has_odd_start.false)
    (subst (λ t. ParsesUnsigned 64 10 t c.parse.result) c.in-Ok.ensures.cases.0 c.parse.ensures.value.0) c.in-Ok-parse.is

pub returns-in-Err : goal.returns-in-Err
returns-in-Err c =
    not_parsed c.args.text.now c.in-Err.field-0 c.parse.result (sym c.has_odd_start.ensures ∙ c.if-has_odd_start.false)
    (subst (λ t. ParsesUnsigned 64 10 t c.parse.result) c.in-Ok.ensures.cases.0 c.parse.ensures.value.0) c.in-Err.is
