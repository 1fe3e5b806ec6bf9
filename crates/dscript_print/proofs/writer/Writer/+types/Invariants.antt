use Rattle.std.proofs.Common.{◌≡◌, ◌++◌, map, take}
use Rattle.dscript_ast.specs.TypeTree.{to_types, to_fields, to_members}
use Rattle.dscript_ast.specs.Views.{type_tree, field_tree, member_tree}
use Rattle.dscript_print.specs.TypeKinds.{types_kinds, fields_kinds, members_kinds}
use Rattle.dscript_print.specs.Written.{written, earlier_run}
use Rattle.dscript_print.specs.Runs.{preceded, concat_tokens}
use Rattle.dscript_print.proofs.writer.Writer.+types.Given as goal

abbrev pub invariant-types-loop-one : goal.invariant-types-loop-one
invariant-types-loop-one l = written l.self ≡ written l.initial.self ++ preceded "," (types_kinds (to_types (map type_tree (take l.one-index l.others))))

abbrev pub invariant-union_types-loop-one : goal.invariant-union_types-loop-one
invariant-union_types-loop-one l = written l.self ≡ written l.initial.self ++ concat_tokens (map earlier_run (take l.one-index l.earlier))

abbrev pub invariant-members-loop-member : goal.invariant-members-loop-member
invariant-members-loop-member l = written l.self ≡ written l.initial.self ++ concat_tokens (members_kinds (to_members (map member_tree (take l.member-index l.members))))

abbrev pub invariant-fields-loop-field : goal.invariant-fields-loop-field
invariant-fields-loop-field l = written l.self ≡ written l.initial.self ++ preceded "," (fields_kinds (to_fields (map field_tree (take l.field-index l.others))))
