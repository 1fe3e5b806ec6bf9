use Rattle.std.proofs.Common.{◌≡◌, ◌++◌, length, map}
use Rattle.dscript_value.specs.Plain as plain
use Rattle.dscript_value.specs.Plain.{plain_of}
use Rattle.dscript_sdk_members.specs.TextMembers.{pieces_after}
use Rattle.dscript_sdk_members.proofs.text_members.pieces_of.Given as goal

abbrev pub invariant-pieces : goal.invariant-pieces
invariant-pieces l =
    map plain_of l.pieces.items ++ map plain.Text (pieces_after l.separator 0 l.rest)
    ≡ map plain.Text (pieces_after l.separator 0 l.text)

abbrev pub decreases-pieces : goal.decreases-pieces
decreases-pieces l = length l.rest
