use Rattle.std.proofs.Common.{◌≡◌, drop}
use Rattle.dscript_sdk_pips.specs.Seals.{are_below}
use Rattle.dscript_sdk_pips.proofs.sealing.are_below.Given as goal

abbrev pub invariant-files : goal.invariant-files
invariant-files l = are_below l.dir (drop l.file-index l.files) ≡ are_below l.dir l.files
