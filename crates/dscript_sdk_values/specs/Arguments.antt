-- The arguments of a call: too few are refused, and further ones are dropped.
use Rattle.std.specs.Prelude.{List, [], ◌∷◌, Ok, Err}
use Rattle.dscript_value.specs.Plain.{Plain}
use Rattle.dscript_sdk_values.specs.declared.fault.SdkFault.TheVariants.{BadArgument}
use Rattle.dscript_sdk_values.specs.Outcomes.{Outcome}

-- the first argument
abbrev pub one_of : List Plain → Outcome Plain
one_of [] = Err BadArgument
one_of (x ∷ more) = Ok x

-- the first two arguments
abbrev pub two_of : List Plain → Outcome (Plain × Plain)
two_of [] = Err BadArgument
two_of (x ∷ []) = Err BadArgument
two_of (x ∷ y ∷ more) = Ok (x, y)
