use Rattle.std.proofs.Common.{◌≡◌, ◌≤◌, ◌+◌, take}
use Rattle.dscript_parse.specs.Places.{column_after, line_after}
use Rattle.dscript_parse.proofs.place.place_at.Given as goal

abbrev pub invariant-bytes : goal.invariant-bytes
invariant-bytes l = record {
  line : l.line ≡ line_after (take l.byte-index l.before);
  column : l.column ≡ column_after (take l.byte-index l.before);
  bound : l.column ≤ l.byte-index + 1;
}
