use Rattle.std.proofs.Common.{◌≡◌, map}
use Rattle.bx_tree.specs.declared.file_input.FileInput.TheVariants as inputs
use Rattle.dscript_sdk.proofs.static_members.source_files.Given as goal

abbrev pub invariant-paths : goal.invariant-paths
invariant-paths l = l.files.items ≡ map inputs.Source l.yielded
