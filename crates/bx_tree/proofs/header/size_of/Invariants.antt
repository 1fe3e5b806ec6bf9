use Rattle.bx_tree.specs.declared.limits.TheConstants.{MAX_FILE_BYTES}
use Rattle.std.proofs.Common.{◌≡◌, ◌≤◌, take}
use Rattle.std.specs.Str.Parse.{digits_value}
use Rattle.bx_tree.proofs.header.size_of.Given as goal

abbrev pub invariant-loop-digit : goal.invariant-loop-digit
invariant-loop-digit l = (l.size ≡ digits_value 10 (take l.digit-index l.digits)) × (l.size ≤ MAX_FILE_BYTES)
