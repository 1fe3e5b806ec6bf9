use Rattle.std.proofs.Common.{length, ◌-◌, ◌≡◌, ◌≤◌, drop}
use Rattle.dscript_lex.specs.Scanning.{close_len, option_more}
use Rattle.dscript_lex.proofs.comments.close_len.Given as goal

abbrev pub invariant-search : goal.invariant-search
invariant-search l = record {
  in_range : l.at ≤ length l.bytes;
  found : option_more l.at (close_len (drop l.at l.bytes)) ≡ close_len l.bytes;
}

abbrev pub decreases-search : goal.decreases-search
decreases-search l = length l.bytes - l.at
