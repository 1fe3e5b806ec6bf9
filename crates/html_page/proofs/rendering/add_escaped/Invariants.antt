use Rattle.std.proofs.Common.{◌≡◌, ◌++◌, drop}
use Rattle.std.specs.List.{flat_map}
use Rattle.html_page.specs.Escaping.{escaped_byte}
use Rattle.html_page.proofs.rendering.add_escaped.Given as goal

abbrev pub invariant-bytes : goal.invariant-bytes
invariant-bytes l = l.text.items ++ flat_map escaped_byte (drop l.byte-index l.given) ≡ l.fn.text.items ++ flat_map escaped_byte l.given
