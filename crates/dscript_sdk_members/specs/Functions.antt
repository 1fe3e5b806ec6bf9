-- Member functions.
use Rattle.std.specs.Prelude.{List}
use Rattle.dscript_value.specs.Plain.{Plain}
use Rattle.dscript_sdk_values.specs.Outcomes.{Outcome}

-- what a member function comes to at its arguments
abbrev pub MemberFunction : Type 0
MemberFunction = List Plain → Outcome Plain
