-- `<`, `<=`, `>` and `>=`: comparisons of numbers.
use Rattle.std.specs.Prelude.{ℤ, Bool, int_lt, int_le, Ok}
use Rattle.dscript_value.specs.Plain as plain
use Rattle.dscript_value.specs.Plain.{Plain}
use Rattle.dscript_sdk_values.specs.Outcomes.{Outcome, ◌>>=◌}
use Rattle.dscript_eval_operators.specs.Numbers.{at_numbers}

-- whether two numbers compare so
abbrev pub compare_by : (ℤ → ℤ → Bool) → Plain → Plain → Outcome Plain
compare_by holds a b = at_numbers holds a b >>= λ flag. Ok (plain.Flag flag)

unfoldable pub is_less : Plain → Plain → Outcome Plain
is_less a b = compare_by (λ x y. int_lt x y) a b

unfoldable pub is_at_most : Plain → Plain → Outcome Plain
is_at_most a b = compare_by (λ x y. int_le x y) a b

unfoldable pub is_greater : Plain → Plain → Outcome Plain
is_greater a b = compare_by (λ x y. int_lt y x) a b

unfoldable pub is_at_least : Plain → Plain → Outcome Plain
is_at_least a b = compare_by (λ x y. int_le y x) a b
