use Rattle.std.proofs.Common.{◌≡◌, max, map, drop}
use Rattle.dscript_value.specs.Depths.{greatest_depth}
use Rattle.dscript_value.specs.Plain.{plain_of}
use Rattle.dscript_value.proofs.makers.deepest.Given as goal

abbrev pub invariant-items : goal.invariant-items
invariant-items l = max l.depth (greatest_depth (map plain_of (drop l.item-index l.items))) ≡ greatest_depth (map plain_of l.items)
