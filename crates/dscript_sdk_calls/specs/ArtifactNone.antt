-- `Artifact.none`: a path that a process neither takes nor makes.
use Rattle.std.specs.Prelude.{List, Ok, Err}
use Rattle.dscript_value.specs.declared.parts.Artifact.TheVariants as artifacts
use Rattle.dscript_value.specs.Plain as plain
use Rattle.dscript_value.specs.Plain.{Plain}
use Rattle.dscript_sdk_values.specs.declared.fault.SdkFault.TheVariants.{Kind}
use Rattle.dscript_sdk_values.specs.Arguments.{one_of}
use Rattle.dscript_sdk_values.specs.Outcomes.{Outcome, ◌>>=◌}
use Rattle.bx_tree.specs.FileInputs.{input_path}

abbrev pub plain_path_of : Plain → Outcome Plain
plain_path_of (plain.Path path) = Ok (plain.Artifact (artifacts.Plain path))
plain_path_of (plain.File file) = Ok (plain.Artifact (artifacts.Plain (input_path file)))
plain_path_of (plain.Directory path) = Ok (plain.Artifact (artifacts.Plain path))
plain_path_of _ = Err Kind

unfoldable pub artifact_none : List Plain → Outcome Plain
artifact_none args = one_of args >>= plain_path_of
