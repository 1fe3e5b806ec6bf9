-- Numbers: 32 bits, one of them for the sign.
use Rattle.std.specs.Prelude.{◌^◌, nat_lt, Bool, if◌then◌else◌, ℤ, pos, negsuc, ◌-ℤ◌, ◌*ℤ◌, neg_ℤ, Ok, Err}
use Rattle.dscript_value.specs.Plain as plain
use Rattle.dscript_value.specs.Plain.{Plain}
use Rattle.dscript_sdk_values.specs.declared.fault.SdkFault.TheVariants.{Kind, Range}
use Rattle.dscript_sdk_values.specs.Outcomes.{Outcome, ◌>>=◌}

-- whether a number has 32 bits: from -2^31 to 2^31 - 1
abbrev pub fits : ℤ → Bool
fits (pos n) = nat_lt n (2 ^ 31)
fits (negsuc n) = nat_lt n (2 ^ 31)

abbrev pub integer_answer : ℤ → Outcome Plain
integer_answer n = if fits n then Ok (plain.Number n) else Err Range

abbrev pub number_in : Plain → Outcome ℤ
number_in (plain.Number n) = Ok n
number_in _ = Err Kind

-- what a function on numbers gives at two values, which must be numbers
abbrev pub at_numbers : {X : Type 0} → (ℤ → ℤ → X) → Plain → Plain → Outcome X
at_numbers f a b = number_in a >>= λ x. number_in b >>= λ y. Ok (f x y)

unfoldable pub difference_of : Plain → Plain → Outcome Plain
difference_of a b = at_numbers (λ x y. x -ℤ y) a b >>= integer_answer

unfoldable pub product_of : Plain → Plain → Outcome Plain
product_of a b = at_numbers (λ x y. x *ℤ y) a b >>= integer_answer

unfoldable pub negative_of : Plain → Outcome Plain
negative_of a = number_in a >>= λ x. integer_answer (neg_ℤ x)
