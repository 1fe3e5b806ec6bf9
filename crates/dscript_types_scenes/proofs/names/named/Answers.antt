use Rattle.dscript_types_notes.proofs.Going.{if_ok}
use Rattle.dscript_types_scenes.proofs.Naming.{ambient_named, by_target}
use Rattle.dscript_types_scenes.specs.declared.found.Subject.TheVariants as subjects
use Rattle.dscript_types_scenes.specs.declared.found.Typing.TheVariants as typings
use Rattle.dscript_types_scenes.proofs.names.named.Goals as goal

pub returns-in-Local : goal.returns-in-Local
returns-in-Local c =
    if_ok _ _ _
    (λ found says. by_target c.args.world.now c.args.scene.now c.args.target _ found c.in-Local.is (says c.args.world.now))
    c.local.ensures

pub returns-in-Declared : goal.returns-in-Declared
returns-in-Declared c =
    if_ok _ _ _
    (λ found says. by_target c.args.world.now c.args.scene.now c.args.target _ found c.in-Declared.is (says c.args.scene.now))
    c.declared.ensures

pub returns-in-Ambient : goal.returns-in-Ambient
returns-in-Ambient c =
    by_target c.args.world.now c.args.scene.now c.args.target _ (typings.Found (subjects.Ambient c.in-Ambient.call) c.from_rank.result) c.in-Ambient.is
    (ambient_named c.args.world.now c.args.scene.now c.in-Ambient.call _ c.from_rank.ensures)
