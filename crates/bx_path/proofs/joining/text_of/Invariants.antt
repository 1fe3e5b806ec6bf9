use Rattle.std.proofs.Common.{◌≡◌, take}
use Rattle.std.specs.List.{join_with_byte}
use Rattle.bx_path.proofs.joining.text_of.Given as goal
use Rattle.bx_tree.specs.Lent.{texts_now}

abbrev pub invariant-loop-i : goal.invariant-loop-i
invariant-loop-i l = l.text.items ≡ join_with_byte 47 (texts_now (take l.i l.atoms))
