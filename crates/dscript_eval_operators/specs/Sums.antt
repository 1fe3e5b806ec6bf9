-- `+`: sums of numbers, and texts put together.
use Rattle.std.specs.Prelude.{◌+ℤ◌, ◌++◌, Err}
use Rattle.std.specs.Fmt.{signed_decimal}
use Rattle.dscript_value.specs.Plain as plain
use Rattle.dscript_value.specs.Plain.{Plain}
use Rattle.dscript_sdk_values.specs.declared.fault.SdkFault.TheVariants.{Kind}
use Rattle.dscript_sdk_values.specs.Answers.{text_answer}
use Rattle.dscript_sdk_values.specs.Outcomes.{Outcome}
use Rattle.dscript_eval_operators.specs.Numbers.{integer_answer}

-- two numbers, or two texts, or a text and a number as decimal digits
unfoldable pub sum_of : Plain → Plain → Outcome Plain
sum_of (plain.Number x) (plain.Number y) = integer_answer (x +ℤ y)
sum_of (plain.Number x) (plain.Text y) = text_answer (signed_decimal x ++ y)
sum_of (plain.Text x) (plain.Number y) = text_answer (x ++ signed_decimal y)
sum_of (plain.Text x) (plain.Text y) = text_answer (x ++ y)
sum_of _ _ = Err Kind
