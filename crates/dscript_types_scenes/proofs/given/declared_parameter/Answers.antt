use Rattle.std.proofs.Common.{◌∙◌, None, ap, refl, sym}
use Rattle.std.specs.Option.{option_and_then, option_copied}
use Rattle.dscript_ast.specs.Views.{type_tree}
use Rattle.dscript_types_known.specs.Findings as told
use Rattle.dscript_types_known.specs.Views.{finding_data}
use Rattle.dscript_types_meaning.specs.Functions.{noted}
use Rattle.dscript_types_meaning.specs.Types.{TypeData}
use Rattle.dscript_types_notes.proofs.Going.{if_ok}
use Rattle.dscript_types_scenes.proofs.Standing.{says_as}
use Rattle.dscript_types_scenes.specs.Statements.{note_of}
use Rattle.dscript_types_scenes.proofs.given.declared_parameter.Goals as goal

abbrev nothing : told.Finding TypeData
nothing = told.Nothing

pub returns-in-Some : goal.returns-in-Some
returns-in-Some c =
    if_ok _ _ _
    (λ f says. says_as c.args.world.now c.args.place.now (finding_data f)
    (λ p known d. noted p known d c.args.param.now.optional (type_tree c.in-Some.node.now)) _
    (λ p known d. ap (option_and_then (noted p known d c.args.param.now.optional))
    (sym (ap (λ o. note_of (option_copied o)) c.in-Some.is) ∙ c.note_of.ensures)) says)
    c.noted.ensures

pub returns-in-None : goal.returns-in-None
returns-in-None c =
    says_as c.args.world.now c.args.place.now nothing (λ p known d. None) _
    (λ p known d. ap (option_and_then (noted p known d c.args.param.now.optional))
    (sym (ap (λ o. note_of (option_copied o)) c.in-None.is) ∙ c.note_of.ensures))
    (λ n more d below within at. refl)
