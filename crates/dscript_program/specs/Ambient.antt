-- The ambient calls as they are written.
use Rattle.std.specs.Prelude.{ℕ, List, codes}
use Rattle.dscript_program.specs.declared.ambient.Ambient.{Ambient}
use Rattle.dscript_program.specs.declared.ambient.Ambient.TheVariants as calls

unfoldable pub written_name : Ambient → List ℕ
written_name calls.WriteAllText = codes "Transformer.writeAllText"
written_name calls.WriteAllLines = codes "Transformer.writeAllLines"
written_name calls.CopyFile = codes "Transformer.copyFile"
written_name calls.SealDirectory = codes "Transformer.sealDirectory"
written_name calls.SealPartialDirectory = codes "Transformer.sealPartialDirectory"
written_name calls.SealSourceDirectory = codes "Transformer.sealSourceDirectory"
written_name calls.Execute = codes "Transformer.execute"
written_name calls.CmdArgument = codes "Cmd.argument"
written_name calls.CmdOption = codes "Cmd.option"
written_name calls.CmdFlag = codes "Cmd.flag"
written_name calls.ArtifactInput = codes "Artifact.input"
written_name calls.ArtifactOutput = codes "Artifact.output"
written_name calls.ArtifactNone = codes "Artifact.none"
written_name calls.NewOutputDirectory = codes "Context.getNewOutputDirectory"
written_name calls.Fail = codes "Contract.fail"
written_name calls.Assert = codes "Contract.assert"
written_name calls.Requires = codes "Contract.requires"
written_name calls.Glob = codes "glob"
written_name calls.GlobRecursive = codes "globR"
