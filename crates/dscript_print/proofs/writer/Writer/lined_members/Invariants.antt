use Rattle.std.proofs.Common.{◌≡◌, ◌++◌, map, take}
use Rattle.dscript_ast.specs.Views.{member_tree}
use Rattle.dscript_print.specs.Runs.{concat_tokens}
use Rattle.dscript_print.specs.TypeKinds.{member_kinds}
use Rattle.dscript_print.specs.Written.{written}
use Rattle.dscript_print.proofs.writer.Writer.lined_members.Given as goal

abbrev pub invariant-loop-member : goal.invariant-loop-member
invariant-loop-member l = written l.self ≡ written l.initial.self ++ concat_tokens (map member_kinds (map member_tree (take l.member-index l.members)))
