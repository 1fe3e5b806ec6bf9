use Rattle.std.proofs.Common.{◌∙◌, ap, false}
use Rattle.dscript_types_meaning.specs.Narrowing.{with_outcome}
use Rattle.dscript_types_scenes.proofs.Shapes.{negation_tells, others_tell_nothing}
use Rattle.dscript_types_scenes.proofs.conditions.told_by_prefix.Goals as goal

pub returns-then-is_negation : goal.returns-then-is_negation
returns-then-is_negation c =
    c.with_outcome.ensures ∙ ap (with_outcome false) c.local_named.ensures
    ∙ negation_tells c.args.operators.now _ _ c.is_negation.ensures c.if-is_negation.true

pub returns-else-is_negation : goal.returns-else-is_negation
returns-else-is_negation c = others_tell_nothing c.args.operators.now _ _ c.is_negation.ensures c.if-is_negation.false
