use Rattle.std.proofs.Common.{◌≡◌, drop}
use Rattle.std.specs.List.{list_all}
use Rattle.dscript_sdk_pips.specs.Seals.{is_listed}
use Rattle.dscript_sdk_pips.proofs.sealing.are_listed.Given as goal

abbrev pub invariant-paths : goal.invariant-paths
invariant-paths l = list_all (is_listed l.files) (drop l.path-index l.paths) ≡ list_all (is_listed l.files) l.paths
