use Rattle.dscript_program.specs.Views.{expr_data}
use Rattle.dscript_types_notes.proofs.Going.{if_ok}
use Rattle.dscript_types_scenes.proofs.Narrowing.{followed}
use Rattle.dscript_types_scenes.proofs.Scening.{same_goes}
use Rattle.dscript_types_scenes.proofs.conditions.following.Goals as goal

pub returns-in-Some : goal.returns-in-Some
returns-in-Some c =
    if_ok _ _ _
    (λ new goes. followed c.args.outcome _ (expr_data c.args.left.now) c.args.scene.now new c.in-Some.is goes)
    c.narrowed.ensures

pub returns-in-None : goal.returns-in-None
returns-in-None c =
    if_ok _ _ _
    (λ new is. followed c.args.outcome _ (expr_data c.args.left.now) c.args.scene.now new c.in-None.is
    (λ w. same_goes w c.args.scene.now new is))
    c.share.ensures
