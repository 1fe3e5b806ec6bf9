use Rattle.std.proofs.Common.{◌≡◌, ◌*◌, ◌++◌}
use Rattle.std.specs.Prelude.{replicate}
use Rattle.dscript_print_tokens.proofs.writing.push_levels.Given as goal

abbrev pub invariant-levels : goal.invariant-levels
invariant-levels l = l.text.items ≡ l.fn.text.items ++ replicate (4 * l.counter) 0x20
