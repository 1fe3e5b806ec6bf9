use Rattle.std.proofs.Common.{◌≡◌, ◌==◌, ◌+◌, drop}
use Rattle.std.specs.List.{position_or_len}
use Rattle.tool_text.proofs.lines.place_of.Given as goal

abbrev pub invariant-bytes : goal.invariant-bytes
invariant-bytes l = position_or_len (λ b. b == l.byte) (drop l.at l.text) + l.at ≡ position_or_len (λ b. b == l.byte) l.text
