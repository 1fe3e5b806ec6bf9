-- `Artifact.input`: a file or a static directory that a process takes.
use Rattle.std.specs.Prelude.{List, Ok, Err}
use Rattle.dscript_value.specs.declared.parts.Artifact.TheVariants as artifacts
use Rattle.dscript_value.specs.Plain as plain
use Rattle.dscript_value.specs.Plain.{Plain}
use Rattle.dscript_sdk_values.specs.declared.fault.SdkFault.TheVariants.{Kind}
use Rattle.dscript_sdk_values.specs.Arguments.{one_of}
use Rattle.dscript_sdk_values.specs.Outcomes.{Outcome, ◌>>=◌}

abbrev pub input_of : Plain → Outcome Plain
input_of (plain.File file) = Ok (plain.Artifact (artifacts.Input file))
input_of (plain.Static dir) = Ok (plain.Artifact (artifacts.InputDir dir))
input_of _ = Err Kind

unfoldable pub artifact_input : List Plain → Outcome Plain
artifact_input args = one_of args >>= input_of
