use Rattle.std.proofs.Common.{◌≡◌, ℕ, List, true, map, take}
use Rattle.tool_text.specs.Reading.{are_distinct, label_of, place_of}
use Rattle.tool_text.proofs.labels.table_of.Given as goal
use Rattle.bx_tree.specs.Lent.{texts_now}
use Rattle.bx_tree.specs.TextTables.{at_text}

abbrev pub invariant-lines : goal.invariant-lines
invariant-lines l = record {
  distinct : are_distinct (map label_of (texts_now (take l.place l.lines))) ≡ true;
  places : (q : List ℕ) → at_text l.by_label q ≡ place_of (map label_of (texts_now (take l.place l.lines))) q;
}
