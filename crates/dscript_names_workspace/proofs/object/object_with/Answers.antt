use Rattle.std.proofs.Common.{true, false, refl, ap, sym, ◌∙◌, map, Some}
use Rattle.dscript_ast.specs.Views.{prop_tree}
use Rattle.dscript_names_workspace.specs.Objects.{are_fields}
use Rattle.dscript_names_workspace.proofs.ObjectTrees.{object_by}
use Rattle.dscript_names_workspace.proofs.object.object_with.Goals as goal
use Rattle.bx_tree.specs.Lent.{texts_now}

pub returns-then-are_fields : goal.returns-then-are_fields
returns-then-are_fields c =
    let props = c.in-Object.props in
    object_by (texts_now c.args.names.now) c.args.value.now props true _ c.in-Object.is
    (ap (λ ps. are_fields (texts_now c.args.names.now) (map prop_tree ps)) (sym c.as_slice.ensures.value) ∙ sym c.are_fields.ensures ∙ c.if-are_fields.true)
    (ap (λ ps. Some (map prop_tree ps)) (sym c.as_slice-then-are_fields.ensures.value))

pub returns-else-are_fields : goal.returns-else-are_fields
returns-else-are_fields c =
    let props = c.in-Object.props in
    object_by (texts_now c.args.names.now) c.args.value.now props false _ c.in-Object.is
    (ap (λ ps. are_fields (texts_now c.args.names.now) (map prop_tree ps)) (sym c.as_slice.ensures.value) ∙ sym c.are_fields.ensures ∙ c.if-are_fields.false)
    refl
