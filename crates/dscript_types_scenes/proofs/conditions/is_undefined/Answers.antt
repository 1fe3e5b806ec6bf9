use Rattle.std.proofs.Common.{◌∙◌, ap, sym}
use Rattle.dscript_types_scenes.specs.Shapes.{is_undefined, shape_data}
use Rattle.dscript_types_scenes.proofs.conditions.is_undefined.Goals as goal

pub returns-in-Undefined : goal.returns-in-Undefined
returns-in-Undefined c = ap is_undefined (sym (ap shape_data c.in-Undefined.is) ∙ c.shape_of.ensures)

pub returns-in-Name : goal.returns-in-Name
returns-in-Name c = ap is_undefined (sym (ap shape_data c.in-Name.is) ∙ c.shape_of.ensures)

pub returns-in-Arrow : goal.returns-in-Arrow
returns-in-Arrow c = ap is_undefined (sym (ap shape_data c.in-Arrow.is) ∙ c.shape_of.ensures)

pub returns-in-Unary : goal.returns-in-Unary
returns-in-Unary c = ap is_undefined (sym (ap shape_data c.in-Unary.is) ∙ c.shape_of.ensures)

pub returns-in-Chain : goal.returns-in-Chain
returns-in-Chain c = ap is_undefined (sym (ap shape_data c.in-Chain.is) ∙ c.shape_of.ensures)

pub returns-in-Other : goal.returns-in-Other
returns-in-Other c = ap is_undefined (sym (ap shape_data c.in-Other.is) ∙ c.shape_of.ensures)
