use Rattle.std.proofs.Common.{◌≡◌, take}
use Rattle.pip_model_types.specs.Made.{made_files}
use Rattle.tool_run_writes.proofs.writes.map_of.Given as goal

abbrev pub invariant-files : goal.invariant-files
invariant-files l = l.map.entries ≡ made_files (take l.file-index l.made)
