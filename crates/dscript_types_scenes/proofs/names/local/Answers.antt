use Rattle.std.proofs.Common.{◌∙◌, ap, subst, sym}
use Rattle.std.specs.Option.{option_copied, option_map}
use Rattle.dscript_program.specs.declared.target.Target.TheVariants as targets
use Rattle.dscript_types_known.specs.Views.{found_local}
use Rattle.dscript_types_meaning.specs.Expressions as rules
use Rattle.dscript_types_scenes.proofs.Naming.{local_found, local_missing}
use Rattle.dscript_types_scenes.specs.Scenes.{TypesAs}
use Rattle.dscript_types_scenes.specs.Typings.{subject_data}
use Rattle.dscript_types_scenes.proofs.names.local.Goals as goal

pub returns-in_ok-share-in-Some : goal.returns-in_ok-share-in-Some
returns-in_ok-share-in-Some c = λ w.
    subst (λ found. TypesAs subject_data w c.args.scene.now found (λ p known d. rules.named p known d (targets.Local c.args.number)))
    (sym c.as_subject.ensures)
    (local_found c.args.scene.now c.args.number c.in-Some.local.now _
    (ap (λ o. option_map found_local (option_copied o)) (sym c.in-Some.is) ∙ c.get.ensures) c.in_ok-share-in-Some.ensures w)

pub returns-in-None : goal.returns-in-None
returns-in-None c = λ w.
    local_missing c.args.scene.now c.args.number
    (ap (λ o. option_map found_local (option_copied o)) (sym c.in-None.is) ∙ c.get.ensures) w
