use Rattle.std.proofs.Common.{IfOk, subst}
use Rattle.dscript_ast.specs.Views.{note_tree, param_tree}
use Rattle.dscript_types_known.specs.Views.{finding_data}
use Rattle.dscript_types_meaning.specs.Functions.{given_parameter}
use Rattle.dscript_types_meaning.specs.Types.{TypeData}
use Rattle.dscript_types_scenes.specs.Scenes.{FindsAs}
use Rattle.dscript_types_scenes.proofs.given.next_parameter.Goals as goal

pub returns : goal.returns
returns c =
    subst
    (λ (t : TypeData). IfOk c.given_parameter.result (λ f. FindsAs c.args.world.now c.args.scene.now (finding_data f)
    (λ p known d. given_parameter p known d (param_tree c.args.param.now) t (note_tree c.args.param.now.type_node))))
    c.in_ok-first.ensures c.given_parameter.ensures
