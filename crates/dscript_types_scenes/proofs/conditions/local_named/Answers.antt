use Rattle.std.proofs.Common.{◌∙◌, ap, sym}
use Rattle.dscript_types_scenes.proofs.Shapes.{local_by_shape, local_shaped}
use Rattle.dscript_types_scenes.specs.Shapes.{shape_data}
use Rattle.dscript_types_scenes.proofs.conditions.local_named.Goals as goal

pub returns-in-Name : goal.returns-in-Name
returns-in-Name c =
    c.local_of.ensures ∙ ap local_shaped (sym (ap shape_data c.in-Name.is) ∙ c.shape_of.ensures) ∙ local_by_shape _

pub returns-in-Arrow : goal.returns-in-Arrow
returns-in-Arrow c = ap local_shaped (sym (ap shape_data c.in-Arrow.is) ∙ c.shape_of.ensures) ∙ local_by_shape _

pub returns-in-Undefined : goal.returns-in-Undefined
returns-in-Undefined c = ap local_shaped (sym (ap shape_data c.in-Undefined.is) ∙ c.shape_of.ensures) ∙ local_by_shape _

pub returns-in-Unary : goal.returns-in-Unary
returns-in-Unary c = ap local_shaped (sym (ap shape_data c.in-Unary.is) ∙ c.shape_of.ensures) ∙ local_by_shape _

pub returns-in-Chain : goal.returns-in-Chain
returns-in-Chain c = ap local_shaped (sym (ap shape_data c.in-Chain.is) ∙ c.shape_of.ensures) ∙ local_by_shape _

pub returns-in-Other : goal.returns-in-Other
returns-in-Other c = ap local_shaped (sym (ap shape_data c.in-Other.is) ∙ c.shape_of.ensures) ∙ local_by_shape _
