use Rattle.std.proofs.Common.{sym, ◌∙◌}
use Rattle.dscript_sdk_members.proofs.LastAtoms.{last_after, last_whole}
use Rattle.dscript_sdk_members.proofs.path_members.last_part.Goals as goal

pub parts-preserved : goal.parts-preserved
parts-preserved c =
    sym (last_after c.parts.rest.now c.in-Some.field-0-0.now c.in-Some.after.now c.in-Some.ensures.1 c.in-Some.ensures.0) ∙ c.parts.invariant

pub returns-in-None : goal.returns-in-None
returns-in-None c = sym c.parts.invariant ∙ last_whole c.parts.rest.now c.in-None.ensures
