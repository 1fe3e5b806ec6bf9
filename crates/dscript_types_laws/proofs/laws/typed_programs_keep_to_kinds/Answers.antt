use Rattle.dscript_types_laws.proofs.Programs.{typed_keeps}
use Rattle.dscript_types_laws.proofs.laws.typed_programs_keep_to_kinds.Goals as goal

pub returns : goal.returns
returns c modules files p is typed sources budget =
    typed_keeps p (c.captures_are_outer.ensures modules files p is)
    (c.locals_are_consecutive.ensures.one_run modules files p is) typed sources budget
