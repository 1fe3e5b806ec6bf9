use Rattle.std.proofs.Common.{◌≡◌, take}
use Rattle.bx_tree.specs.Lent.{texts_now}
use Rattle.tool_run.specs.Listings.{names_text}
use Rattle.tool_run.proofs.name_lines.lines.Given as goal

abbrev pub invariant-names : goal.invariant-names
invariant-names l = l.text.items ≡ names_text (texts_now (take l.name-index l.names))
