use Rattle.std.proofs.Common.{IfOk, subst, sym}
use Rattle.dscript_types_scenes.specs.Statements.{IsSceneAfter}
use Rattle.dscript_types_scenes.proofs.locals.with_added.Goals as goal

pub returns-in-Some : goal.returns-in-Some
returns-in-Some c =
    subst (λ added. IfOk c.with.result (λ new. IsSceneAfter c.args.scene added new)) (sym c.in-Some.is) c.with.ensures
