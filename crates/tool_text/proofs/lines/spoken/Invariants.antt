use Rattle.std.proofs.Common.{◌≡◌, take, filter}
use Rattle.tool_text.specs.Grammar.{says}
use Rattle.tool_text.proofs.lines.spoken.Given as goal
use Rattle.bx_tree.specs.Lent.{texts_now}

abbrev pub invariant-lines : goal.invariant-lines
invariant-lines l = texts_now l.spoken.items ≡ filter says (texts_now (take l.line-index l.lines))
