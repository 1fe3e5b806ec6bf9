use Rattle.std.proofs.Common.{◌≡◌, length}
use Rattle.tool_text.specs.Reading.{string_rest, after_bytes}
use Rattle.tool_text.proofs.operands.string_rest.Given as goal

abbrev pub invariant-bytes : goal.invariant-bytes
invariant-bytes l = after_bytes l.bytes.items (string_rest l.rest) ≡ string_rest l.fn.text

abbrev pub decreases-bytes : goal.decreases-bytes
decreases-bytes l = length l.rest
