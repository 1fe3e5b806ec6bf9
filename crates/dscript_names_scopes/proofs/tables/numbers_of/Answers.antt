use Rattle.std.proofs.Common.{refl}
use Rattle.dscript_names_scopes.proofs.FirstValues.{number_passed, number_put}
use Rattle.dscript_names_scopes.proofs.tables.numbers_of.Goals as goal

pub last-preserved-in_ok-insert : goal.last-preserved-in_ok-insert
last-preserved-in_ok-insert c = λ name.
    number_put c.last.left.now c.in-Some.before.now c.in-Some.decl.now c.in_ok-share.field-0 name _ _ _ _
    c.in-Some.ensures.cases.0 c.if-decl.true c.in_ok-share.ensures refl
    (c.in_ok-insert.ensures.updates.0 name) (c.last.invariant name)

pub last-preserved : goal.last-preserved
last-preserved c = λ name.
    number_passed c.last.left.now c.in-Some.before.now c.in-Some.decl.now name _ _
    c.in-Some.ensures.cases.0 c.if-decl.false (c.last.invariant name)
