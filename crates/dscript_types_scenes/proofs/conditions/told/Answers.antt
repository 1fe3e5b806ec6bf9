use Rattle.std.proofs.Common.{◌∙◌, ap, sym, true}
use Rattle.dscript_types_meaning.specs.Narrowing.{with_outcome}
use Rattle.dscript_types_scenes.proofs.Shapes.{told_by_shape, told_shaped}
use Rattle.dscript_types_scenes.specs.Shapes.{shape_data}
use Rattle.dscript_types_scenes.proofs.conditions.told.Goals as goal

pub returns-in-Name : goal.returns-in-Name
returns-in-Name c =
    c.with_outcome.ensures ∙ ap (with_outcome true) c.local_of.ensures
    ∙ ap told_shaped (sym (ap shape_data c.in-Name.is) ∙ c.shape_of.ensures) ∙ told_by_shape _

pub returns-in-Unary : goal.returns-in-Unary
returns-in-Unary c =
    c.told_by_prefix.ensures ∙ ap told_shaped (sym (ap shape_data c.in-Unary.is) ∙ c.shape_of.ensures) ∙ told_by_shape _

pub returns-in-Chain : goal.returns-in-Chain
returns-in-Chain c =
    c.told_by_chain.ensures ∙ ap told_shaped (sym (ap shape_data c.in-Chain.is) ∙ c.shape_of.ensures) ∙ told_by_shape _

pub returns-in-Arrow : goal.returns-in-Arrow
returns-in-Arrow c = ap told_shaped (sym (ap shape_data c.in-Arrow.is) ∙ c.shape_of.ensures) ∙ told_by_shape _

pub returns-in-Undefined : goal.returns-in-Undefined
returns-in-Undefined c = ap told_shaped (sym (ap shape_data c.in-Undefined.is) ∙ c.shape_of.ensures) ∙ told_by_shape _

pub returns-in-Other : goal.returns-in-Other
returns-in-Other c = ap told_shaped (sym (ap shape_data c.in-Other.is) ∙ c.shape_of.ensures) ∙ told_by_shape _
