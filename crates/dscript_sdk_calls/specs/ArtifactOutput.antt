-- `Artifact.output`: a file that a process makes, or a directory that it alone writes.
use Rattle.std.specs.Prelude.{List, Ok, Err}
use Rattle.dscript_value.specs.declared.parts.Artifact.TheVariants as artifacts
use Rattle.dscript_value.specs.Plain as plain
use Rattle.dscript_value.specs.Plain.{Plain}
use Rattle.dscript_sdk_values.specs.declared.fault.SdkFault.TheVariants.{Kind}
use Rattle.dscript_sdk_values.specs.Arguments.{one_of}
use Rattle.dscript_sdk_values.specs.Outcomes.{Outcome, ◌>>=◌}

abbrev pub output_of : Plain → Outcome Plain
output_of (plain.Path path) = Ok (plain.Artifact (artifacts.Output path))
output_of (plain.Directory path) = Ok (plain.Artifact (artifacts.OutputDir path))
output_of _ = Err Kind

unfoldable pub artifact_output : List Plain → Outcome Plain
artifact_output args = one_of args >>= output_of
