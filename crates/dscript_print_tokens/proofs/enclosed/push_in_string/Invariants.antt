use Rattle.std.proofs.Common.{◌≡◌, ◌++◌, drop}
use Rattle.dscript_print_tokens.specs.Spellings.{in_string}
use Rattle.dscript_print_tokens.proofs.enclosed.push_in_string.Given as goal

abbrev pub invariant-bytes : goal.invariant-bytes
invariant-bytes l = l.text.items ++ in_string (drop l.byte-index l.value) ≡ l.fn.text.items ++ in_string l.value
