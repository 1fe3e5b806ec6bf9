use Rattle.std.proofs.Common.{◌≡◌, take, filter}
use Rattle.bx_path.specs.Globbing.{is_match}
use Rattle.tool_run.proofs.name_lines.matching.Given as goal
use Rattle.bx_tree.specs.Lent.{texts_now}

abbrev pub invariant-names : goal.invariant-names
invariant-names l = texts_now l.matching.items ≡ filter (is_match l.pattern) (texts_now (take l.name-index l.names))
