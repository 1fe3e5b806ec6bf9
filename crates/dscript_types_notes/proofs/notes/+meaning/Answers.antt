use Rattle.std.proofs.Common.{◌<◌, List, ap, arith, length, map, refl, subst, sym, ◌∙◌}
use Rattle.std.proofs.lemmas.List.{length-map}
use Rattle.dscript_ast.proofs.NodeViews.{member_tree-Method, member_tree-Property, type_tree-Array, type_tree-Body, type_tree-False, type_tree-Function, type_tree-Named, type_tree-Number, type_tree-Str, type_tree-True, type_tree-Undefined, type_tree-Union}
use Rattle.dscript_ast.specs.TypeTree as tree
use Rattle.dscript_ast.specs.TypeTree.{to_members, to_types}
use Rattle.dscript_ast.specs.Views.{member_tree, type_tree}
use Rattle.dscript_types_data.specs.Views.{field_data, fields_now}
use Rattle.dscript_types_known.specs.Findings.{Finding}
use Rattle.dscript_types_known.specs.Views.{finding_data}
use Rattle.dscript_types_meaning.specs.Annotations.{meant}
use Rattle.dscript_types_meaning.specs.declared.limits.TheConstants.{MAX_TYPE_NODES}
use Rattle.dscript_types_meaning.specs.declared.kind.Kind.TheVariants as kinds
use Rattle.dscript_types_meaning.specs.Unions.{join_all}
use Rattle.dscript_types_meaning.specs.Objects.{put_field}
use Rattle.dscript_types_meaning.specs.Sizes.{within_limit}
use Rattle.dscript_types_meaning.specs.Types.{TypeData}
use Rattle.dscript_types_notes.specs.Means.{SaysFrom, finding_types, found_if}
use Rattle.dscript_types_notes.proofs.Going.{if_ok}
use Rattle.dscript_types_notes.proofs.Meant.{all_begin, all_end, all_goes, all_open, all_stop, node_meant, object_begin, object_end, object_goes, object_many, object_method, object_open, object_stop, object_whole, property}
use Rattle.dscript_types_notes.proofs.Trees.{means_nothing, of_a_body, of_a_kind, of_tree}
use Rattle.dscript_types_notes.proofs.Written.{all_of, arguments_of, array_found, array_many, array_nothing, array_open, item_meant, named, named_found, named_nothing, named_open, seen_as, union_found, union_nothing, union_open}
use Rattle.dscript_types_notes.proofs.notes.+meaning.Goals as goal

pub meaning-returns-in-Union : goal.meaning-returns-in-Union
meaning-returns-in-Union t c =
    of_tree c.args.world.now c.args.place.now _ _ _
    (ap (λ ns. tree.Union (to_types (map type_tree ns))) c.as_slice.ensures.value ∙ sym (ap type_tree c.in-Union.is ∙ type_tree-Union _))
    c.union_meaning.ensures

pub meaning-returns-in-Array : goal.meaning-returns-in-Array
meaning-returns-in-Array t c =
    of_tree c.args.world.now c.args.place.now _ _ _
    (ap (λ n. tree.Array (type_tree n) c.in-Array.count) c.deref.ensures ∙ sym (ap type_tree c.in-Array.is ∙ type_tree-Array _ _))
    c.array_meaning.ensures

pub meaning-returns-in-Named : goal.meaning-returns-in-Named
meaning-returns-in-Named t c =
    of_tree c.args.world.now c.args.place.now _ _ _
    (ap (λ xs. tree.Named xs (to_types (map type_tree c.as_slice-in-Named-2.result.now))) c.as_slice-in-Named.ensures.value
    ∙ ap (λ ns. tree.Named c.in-Named.names.items (to_types (map type_tree ns))) c.as_slice-in-Named-2.ensures.value
    ∙ sym (ap type_tree c.in-Named.is ∙ type_tree-Named _ _))
    c.named_meaning.ensures

pub meaning-returns-in-Str : goal.meaning-returns-in-Str
unfolding meant
meaning-returns-in-Str t c =
    of_tree c.args.world.now c.args.place.now (tree.Str c.in-Str.field-0) _ _ (sym (ap type_tree c.in-Str.is ∙ type_tree-Str _))
    (of_a_kind c.args.world.now c.args.place.now (tree.Str c.in-Str.field-0) kinds.String _ (λ p known d. refl) c.of_kind.ensures)

pub meaning-returns-in-Number : goal.meaning-returns-in-Number
unfolding meant
meaning-returns-in-Number t c =
    of_tree c.args.world.now c.args.place.now (tree.Number c.in-Number.field-0) _ _ (sym (ap type_tree c.in-Number.is ∙ type_tree-Number _))
    (of_a_kind c.args.world.now c.args.place.now (tree.Number c.in-Number.field-0) kinds.Number _ (λ p known d. refl) c.of_kind-in-Number.ensures)

pub meaning-returns-in-Undefined : goal.meaning-returns-in-Undefined
unfolding meant
meaning-returns-in-Undefined t c =
    of_tree c.args.world.now c.args.place.now tree.Undefined _ _ (sym (ap type_tree c.in-Undefined.is ∙ type_tree-Undefined))
    (of_a_kind c.args.world.now c.args.place.now tree.Undefined kinds.Undefined _ (λ p known d. refl) c.of_kind-in-Undefined.ensures)

pub meaning-returns-in-True : goal.meaning-returns-in-True
unfolding meant
meaning-returns-in-True t c =
    of_tree c.args.world.now c.args.place.now tree.True _ _ (sym (ap type_tree c.in-True.is ∙ type_tree-True))
    (of_a_kind c.args.world.now c.args.place.now tree.True kinds.Boolean _ (λ p known d. refl) c.of_kind-in-True.ensures)

pub meaning-returns-in-False : goal.meaning-returns-in-False
unfolding meant
meaning-returns-in-False t c =
    of_tree c.args.world.now c.args.place.now tree.False _ _ (sym (ap type_tree c.in-False.is ∙ type_tree-False))
    (of_a_kind c.args.world.now c.args.place.now tree.False kinds.Boolean _ (λ p known d. refl) c.of_kind-in-False.ensures)

pub meaning-returns-in-Body : goal.meaning-returns-in-Body
meaning-returns-in-Body t c =
    of_tree c.args.world.now c.args.place.now _ _ _
    (ap (λ ms. tree.Body (to_members (map member_tree ms))) c.as_slice-in-Body.ensures.value
    ∙ sym (ap type_tree c.in-Body.is ∙ type_tree-Body _))
    (of_a_body c.args.world.now c.args.place.now _ _ _ (ap (map field_data) c.new.ensures.items) c.object_meaning.ensures)

pub meaning-returns-in-Function : goal.meaning-returns-in-Function
unfolding meant
meaning-returns-in-Function t c =
    means_nothing c.args.world.now c.args.place.now (tree.Function _ _) _ (sym (ap type_tree c.in-Function.is ∙ type_tree-Function _ _)) (λ p known d. refl)

pub union_meaning-returns-in_ok-join_all-in-Found : goal.union_meaning-returns-in_ok-join_all-in-Found
union_meaning-returns-in_ok-join_all-in-Found t c =
    union_found c.args.world.now c.args.place.now (to_types (map type_tree c.args.nodes.now)) c.in-Found.types.items c.in-Found.rank _ _
    (seen_as c.args.world.now c.args.place.now finding_types (all_of c.args.world.now c.args.place.now (to_types (map type_tree c.args.nodes.now))) _ _ c.in-Found.is c.in_ok-types.ensures)
    (c.in_ok-join_all-in-Found.ensures ∙ ap join_all c.as_slice.ensures.value) c.limited.ensures

pub union_meaning-returns-in-Nothing : goal.union_meaning-returns-in-Nothing
union_meaning-returns-in-Nothing t c =
    union_nothing c.args.world.now c.args.place.now (to_types (map type_tree c.args.nodes.now))
    (seen_as c.args.world.now c.args.place.now finding_types (all_of c.args.world.now c.args.place.now (to_types (map type_tree c.args.nodes.now))) _ _ c.in-Nothing.is c.in_ok-types.ensures)

pub union_meaning-returns-in-Open : goal.union_meaning-returns-in-Open
union_meaning-returns-in-Open t c =
    union_open c.args.world.now c.args.place.now (to_types (map type_tree c.args.nodes.now))
    (seen_as c.args.world.now c.args.place.now finding_types (all_of c.args.world.now c.args.place.now (to_types (map type_tree c.args.nodes.now))) _ _ c.in-Open.is c.in_ok-types.ensures)

pub array_meaning-returns-then-count : goal.array_meaning-returns-then-count
array_meaning-returns-then-count t c = array_many c.args.world.now c.args.place.now (type_tree c.args.node.now) c.args.count c.if-count.true

pub array_meaning-returns-in_ok-lists_of-in-Found : goal.array_meaning-returns-in_ok-lists_of-in-Found
array_meaning-returns-in_ok-lists_of-in-Found t c =
    array_found c.args.world.now c.args.place.now (type_tree c.args.node.now) c.args.count c.in-Found.t c.in-Found.rank _ _
    (seen_as c.args.world.now c.args.place.now finding_data (item_meant c.args.world.now c.args.place.now (type_tree c.args.node.now) c.args.count) _ _ c.in-Found.is c.in_ok-t.ensures)
    c.in_ok-lists_of-in-Found.ensures c.limited.ensures

pub array_meaning-returns-in-Nothing : goal.array_meaning-returns-in-Nothing
array_meaning-returns-in-Nothing t c =
    array_nothing c.args.world.now c.args.place.now (type_tree c.args.node.now) c.args.count
    (seen_as c.args.world.now c.args.place.now finding_data (item_meant c.args.world.now c.args.place.now (type_tree c.args.node.now) c.args.count) _ _ c.in-Nothing.is c.in_ok-t.ensures)

pub array_meaning-returns-in-Open : goal.array_meaning-returns-in-Open
array_meaning-returns-in-Open t c =
    array_open c.args.world.now c.args.place.now (type_tree c.args.node.now) c.args.count
    (seen_as c.args.world.now c.args.place.now finding_data (item_meant c.args.world.now c.args.place.now (type_tree c.args.node.now) c.args.count) _ _ c.in-Open.is c.in_ok-t.ensures)

pub named_meaning-returns-in-Found : goal.named_meaning-returns-in-Found
named_meaning-returns-in-Found t c =
    if_ok _ _ _
    (λ f says. named_found c.args.world.now c.args.place.now c.args.names.now (to_types (map type_tree c.args.arguments.now)) c.in-Found.types.items c.in-Found.rank (finding_data f)
    (seen_as c.args.world.now c.args.place.now finding_types (arguments_of c.args.world.now c.args.place.now c.args.names.now (to_types (map type_tree c.args.arguments.now))) _ _ c.in-Found.is c.in_ok-types.ensures)
    (subst
    (λ (us : List TypeData). SaysFrom c.args.world.now c.args.place.now c.in-Found.rank (finding_data f) (named c.args.world.now c.args.place.now c.args.names.now (to_types (map type_tree c.args.arguments.now)) us))
    c.as_slice.ensures.value says))
    c.named_type.ensures

pub named_meaning-returns-in-Nothing : goal.named_meaning-returns-in-Nothing
named_meaning-returns-in-Nothing t c =
    named_nothing c.args.world.now c.args.place.now c.args.names.now (to_types (map type_tree c.args.arguments.now))
    (seen_as c.args.world.now c.args.place.now finding_types (arguments_of c.args.world.now c.args.place.now c.args.names.now (to_types (map type_tree c.args.arguments.now))) _ _ c.in-Nothing.is c.in_ok-types.ensures)

pub named_meaning-returns-in-Open : goal.named_meaning-returns-in-Open
named_meaning-returns-in-Open t c =
    named_open c.args.world.now c.args.place.now c.args.names.now (to_types (map type_tree c.args.arguments.now))
    (seen_as c.args.world.now c.args.place.now finding_types (arguments_of c.args.world.now c.args.place.now c.args.names.now (to_types (map type_tree c.args.arguments.now))) _ _ c.in-Open.is c.in_ok-types.ensures)

pub all_meanings-nodes-init : goal.all_meanings-nodes-init
all_meanings-nodes-init t c = all_begin c.args.world.now c.args.place.now c.args.nodes.now _ c.new-types.ensures.items

pub all_meanings-nodes-preserved : goal.all_meanings-nodes-preserved
all_meanings-nodes-preserved t c =
    all_goes c.args.world.now c.args.place.now c.args.nodes.now c.nodes.node-index c.nodes.rank c.nodes.types.items c.node-item.result c.nodes-test.true c.node-item.is c.nodes.invariant c.in-Found.t c.in-Found.from _ _
    (seen_as c.args.world.now c.args.place.now finding_data (node_meant c.args.world.now c.args.place.now c.args.nodes.now c.nodes.node-index c.nodes.rank c.nodes.types.items c.node-item.result c.nodes-test.true c.node-item.is c.nodes.invariant) _ _ c.in-Found.is c.in_ok-t.ensures) c.larger-rank.ensures c.in_ok-push-in-Found.ensures.items

pub all_meanings-returns-in-Nothing : goal.all_meanings-returns-in-Nothing
all_meanings-returns-in-Nothing t c =
    all_stop c.args.world.now c.args.place.now c.args.nodes.now c.nodes.node-index c.nodes.rank c.nodes.types.items c.node-item.result c.nodes-test.true c.node-item.is c.nodes.invariant
    (seen_as c.args.world.now c.args.place.now finding_data (node_meant c.args.world.now c.args.place.now c.args.nodes.now c.nodes.node-index c.nodes.rank c.nodes.types.items c.node-item.result c.nodes-test.true c.node-item.is c.nodes.invariant) _ _ c.in-Nothing.is c.in_ok-t.ensures)

pub all_meanings-returns-in-Open : goal.all_meanings-returns-in-Open
all_meanings-returns-in-Open t c =
    all_open c.args.world.now c.args.place.now c.args.nodes.now c.nodes.node-index c.nodes.rank c.nodes.types.items c.node-item.result c.nodes-test.true c.node-item.is c.nodes.invariant
    (seen_as c.args.world.now c.args.place.now finding_data (node_meant c.args.world.now c.args.place.now c.args.nodes.now c.nodes.node-index c.nodes.rank c.nodes.types.items c.node-item.result c.nodes-test.true c.node-item.is c.nodes.invariant) _ _ c.in-Open.is c.in_ok-t.ensures)

pub all_meanings-returns : goal.all_meanings-returns
all_meanings-returns t c = all_end c.args.world.now c.args.place.now c.args.nodes.now c.nodes.node-index c.nodes.rank c.nodes.types.items c.nodes-test.false c.nodes.invariant

pub object_meaning-members-init : goal.object_meaning-members-init
object_meaning-members-init t c = object_begin c.args.world.now c.args.place.now c.args.rank c.args.members.now (fields_now c.args.done)

pub object_meaning-returns-in-Method : goal.object_meaning-returns-in-Method
object_meaning-returns-in-Method t c =
    object_method c.args.world.now c.args.place.now c.args.rank c.args.members.now (fields_now c.args.done) c.members.member-index c.members.rank (fields_now c.members.done) c.member-item.result c.members-test.true c.member-item.is c.members.invariant _ _ _ _ (ap member_tree c.in-Method.is ∙ member_tree-Method _ _ _ _)

pub object_meaning-returns-then-len : goal.object_meaning-returns-then-len
object_meaning-returns-then-len t c =
    let many : MAX_TYPE_NODES < length (fields_now c.members.done) =
    omega (arith, length-map c.members.done.items field_data, c.len.ensures, c.if-len.true, c.members.done.ok.0) in
    object_many c.args.world.now c.args.place.now c.args.rank c.args.members.now (fields_now c.args.done) c.members.member-index c.members.rank (fields_now c.members.done) many c.members.invariant

pub object_meaning-members-preserved : goal.object_meaning-members-preserved
object_meaning-members-preserved t c =
    object_goes c.args.world.now c.args.place.now c.args.rank c.args.members.now (fields_now c.args.done) c.members.member-index c.members.rank (fields_now c.members.done) c.member-item.result c.members-test.true c.member-item.is c.members.invariant c.in-Property.name c.in-Property.optional c.in-Property.node (ap member_tree c.in-Property.is ∙ member_tree-Property _ _ _) c.in-Found.t c.in-Found.from _ _
    (seen_as c.args.world.now c.args.place.now finding_data (property c.args.world.now c.args.place.now c.args.rank c.args.members.now (fields_now c.args.done) c.members.member-index c.members.rank (fields_now c.members.done) c.member-item.result c.members-test.true c.member-item.is c.members.invariant c.in-Property.name c.in-Property.optional c.in-Property.node (ap member_tree c.in-Property.is ∙ member_tree-Property _ _ _)) _ _ c.in-Found.is c.in_ok-t.ensures) c.larger-rank.ensures
    (c.in_ok-put_field-in-Found.ensures ∙ ap (put_field (fields_now c.members.done)) c.in_ok-new_field-in-Found.ensures)

pub object_meaning-returns-in-Nothing : goal.object_meaning-returns-in-Nothing
object_meaning-returns-in-Nothing t c =
    object_stop c.args.world.now c.args.place.now c.args.rank c.args.members.now (fields_now c.args.done) c.members.member-index c.members.rank (fields_now c.members.done) c.member-item.result c.members-test.true c.member-item.is c.members.invariant c.in-Property.name c.in-Property.optional c.in-Property.node (ap member_tree c.in-Property.is ∙ member_tree-Property _ _ _)
    (seen_as c.args.world.now c.args.place.now finding_data (property c.args.world.now c.args.place.now c.args.rank c.args.members.now (fields_now c.args.done) c.members.member-index c.members.rank (fields_now c.members.done) c.member-item.result c.members-test.true c.member-item.is c.members.invariant c.in-Property.name c.in-Property.optional c.in-Property.node (ap member_tree c.in-Property.is ∙ member_tree-Property _ _ _)) _ _ c.in-Nothing.is c.in_ok-t.ensures)

pub object_meaning-returns-in-Open : goal.object_meaning-returns-in-Open
object_meaning-returns-in-Open t c =
    object_open c.args.world.now c.args.place.now c.args.rank c.args.members.now (fields_now c.args.done) c.members.member-index c.members.rank (fields_now c.members.done) c.member-item.result c.members-test.true c.member-item.is c.members.invariant c.in-Property.name c.in-Property.optional c.in-Property.node (ap member_tree c.in-Property.is ∙ member_tree-Property _ _ _)
    (seen_as c.args.world.now c.args.place.now finding_data (property c.args.world.now c.args.place.now c.args.rank c.args.members.now (fields_now c.args.done) c.members.member-index c.members.rank (fields_now c.members.done) c.member-item.result c.members-test.true c.member-item.is c.members.invariant c.in-Property.name c.in-Property.optional c.in-Property.node (ap member_tree c.in-Property.is ∙ member_tree-Property _ _ _)) _ _ c.in-Open.is c.in_ok-t.ensures)

pub object_meaning-returns : goal.object_meaning-returns
object_meaning-returns t c =
    subst
    (λ (f : Finding TypeData). SaysFrom c.args.world.now c.args.place.now c.args.rank f (object_whole c.args.world.now c.args.place.now c.args.rank c.args.members.now (fields_now c.args.done)))
    (sym (c.limited.ensures ∙ ap (λ u. found_if (within_limit u) c.members.rank) c.in_ok-object_of.ensures))
    (object_end c.args.world.now c.args.place.now c.args.rank c.args.members.now (fields_now c.args.done) c.members.member-index c.members.rank (fields_now c.members.done) c.members-test.false c.members.invariant)
