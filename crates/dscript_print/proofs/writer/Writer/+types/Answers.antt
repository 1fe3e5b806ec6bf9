use Rattle.std.proofs.Common.{rules, ◌∙◌, map}
use Rattle.dscript_ast.specs.TypeTree.{to_types, to_fields, to_members}
use Rattle.dscript_ast.specs.Views.{type_tree, field_tree, member_tree}
use Rattle.dscript_print.specs.TypeKinds.{types_kinds, fields_kinds, members_kinds}
use Rattle.dscript_print.specs.Written.{type_run, earlier_run, field_run, member_run}
use Rattle.dscript_print.proofs.Steps.{led_turn, joined_turn, joined_step, types_listed, fields_listed, members_listed, if_ok, union_written, union_none}
use Rattle.dscript_print.proofs.writer.Writer.+types.Goals as goal

pub fields-loop-field-preserved : goal.fields-loop-field-preserved
fields-loop-field-preserved t c =
    led_turn (λ xs. fields_kinds (to_fields (map field_tree xs))) field_run fields_listed "," c.in-Some.others.now c.loop-field.field-index _ _ _ _ _
    c.loop-field.invariant c.in_ok-comma.ensures c.in_ok-field-2.ensures (search rules) c.field-item.is

pub members-loop-member-preserved : goal.members-loop-member-preserved
members-loop-member-preserved t c =
    joined_turn (λ xs. members_kinds (to_members (map member_tree xs))) member_run members_listed c.args.members.now c.loop-member.member-index c.member-item.result _ _ _
    c.loop-member.invariant (c.space.ensures ∙ c.in_ok-member.ensures) (search rules) c.member-item.is

pub types-loop-one-preserved : goal.types-loop-one-preserved
types-loop-one-preserved t c =
    led_turn (λ xs. types_kinds (to_types (map type_tree xs))) type_run types_listed "," c.in-Some.others.now c.loop-one.one-index c.one-item.result _ _ _ _
    c.loop-one.invariant c.in_ok-comma.ensures c.in_ok-type_node-2.ensures (search rules) c.one-item.is

pub union_types-returns-in_default : goal.union_types-returns-in_default
union_types-returns-in_default t c = union_none c.args.types.now _ c.in_default.ensures.cases

pub union_types-loop-one-preserved : goal.union_types-loop-one-preserved
union_types-loop-one-preserved t c =
    joined_step earlier_run c.in-Some.earlier.now c.loop-one.one-index c.one-item.result _ _ _
    c.loop-one.invariant c.in_ok-earlier_type.ensures (search rules) c.one-item.is

pub union_types-returns : goal.union_types-returns
union_types-returns t c =
    if_ok c.type_node.result (λ x e. union_written c.in-Some.earlier.now c.args.types.now c.in-Some.last.now c.loop-one.one-index _ _ _ (search rules) c.loop-one-test.false c.loop-one.invariant e) c.type_node.ensures
