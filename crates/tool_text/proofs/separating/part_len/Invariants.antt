use Rattle.std.proofs.Common.{◌≡◌, ◌+◌, drop}
use Rattle.tool_text.specs.Reading.{part_len}
use Rattle.tool_text.specs.declared.separating.Quoting.TheVariants.{Outside}
use Rattle.tool_text.proofs.separating.part_len.Given as goal

abbrev pub invariant-bytes : goal.invariant-bytes
invariant-bytes l = part_len l.quoting (drop l.at l.text) + l.at ≡ part_len Outside l.text
