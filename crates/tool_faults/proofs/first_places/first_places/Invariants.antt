use Rattle.std.proofs.Common.{◌≡◌, ℕ, List, map, take}
use Rattle.tool_text.specs.Reading.{label_of, place_of}
use Rattle.tool_faults.proofs.first_places.first_places.Given as goal
use Rattle.bx_tree.specs.Lent.{texts_now}
use Rattle.bx_tree.specs.TextTables.{at_text}

abbrev pub invariant-lines : goal.invariant-lines
invariant-lines l = (q : List ℕ) → at_text l.by_label q ≡ place_of (map label_of (texts_now (take l.place l.lines))) q
