-- The list of all calls has each call.
use Rattle.std.proofs.Common.{lit<}
use Rattle.std.specs.List.{All}
use Rattle.dscript_program.specs.declared.ambient.Ambient.{Ambient}
use Rattle.dscript_program.specs.declared.ambient.Ambient.TheVariants as calls
use Rattle.dscript_program.specs.declared.ambient.TheConstants.{AMBIENT_CALLS}

pub of_every_call : (P : Ambient → Type 0) → All P AMBIENT_CALLS → (call : Ambient) → P call
of_every_call P h calls.WriteAllText = h 0 calls.WriteAllText (lit< tt)
of_every_call P h calls.WriteAllLines = h 1 calls.WriteAllLines (lit< tt)
of_every_call P h calls.CopyFile = h 2 calls.CopyFile (lit< tt)
of_every_call P h calls.SealDirectory = h 3 calls.SealDirectory (lit< tt)
of_every_call P h calls.SealPartialDirectory = h 4 calls.SealPartialDirectory (lit< tt)
of_every_call P h calls.SealSourceDirectory = h 5 calls.SealSourceDirectory (lit< tt)
of_every_call P h calls.Execute = h 6 calls.Execute (lit< tt)
of_every_call P h calls.CmdArgument = h 7 calls.CmdArgument (lit< tt)
of_every_call P h calls.CmdOption = h 8 calls.CmdOption (lit< tt)
of_every_call P h calls.CmdFlag = h 9 calls.CmdFlag (lit< tt)
of_every_call P h calls.ArtifactInput = h 10 calls.ArtifactInput (lit< tt)
of_every_call P h calls.ArtifactOutput = h 11 calls.ArtifactOutput (lit< tt)
of_every_call P h calls.ArtifactNone = h 12 calls.ArtifactNone (lit< tt)
of_every_call P h calls.NewOutputDirectory = h 13 calls.NewOutputDirectory (lit< tt)
of_every_call P h calls.Fail = h 14 calls.Fail (lit< tt)
of_every_call P h calls.Assert = h 15 calls.Assert (lit< tt)
of_every_call P h calls.Requires = h 16 calls.Requires (lit< tt)
of_every_call P h calls.Glob = h 17 calls.Glob (lit< tt)
of_every_call P h calls.GlobRecursive = h 18 calls.GlobRecursive (lit< tt)
