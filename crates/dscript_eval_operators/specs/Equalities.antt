-- `===` and `!==`.
use Rattle.std.specs.Prelude.{not, Ok}
use Rattle.dscript_value.specs.Equality.{equal_of}
use Rattle.dscript_value.specs.Plain as plain
use Rattle.dscript_value.specs.Plain.{Plain}
use Rattle.dscript_sdk_values.specs.declared.fault.SdkFault.TheVariants.{Kind}
use Rattle.dscript_sdk_values.specs.Outcomes.{Outcome, ◌>>=◌, unless_none}

-- whether two values are equal; two lists, two objects and two functions are refused
unfoldable pub is_equal : Plain → Plain → Outcome Plain
is_equal a b = unless_none Kind (equal_of a b) >>= λ same. Ok (plain.Flag same)

unfoldable pub is_unequal : Plain → Plain → Outcome Plain
is_unequal a b = unless_none Kind (equal_of a b) >>= λ same. Ok (plain.Flag (not same))
