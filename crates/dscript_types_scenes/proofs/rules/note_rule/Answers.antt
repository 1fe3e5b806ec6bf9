use Rattle.dscript_ast.specs.Views.{type_tree}
use Rattle.dscript_types_known.specs.Views.{finding_data}
use Rattle.dscript_types_scenes.proofs.Ruling.{note_meets}
use Rattle.dscript_types_scenes.proofs.rules.note_rule.Goals as goal

pub returns : goal.returns
returns c =
    note_meets c.args.world.now c.args.scene.now c.args.t.now (type_tree c.args.node.now) (finding_data c.in_ok-meant.meant) c.meaning_fit.result
    c.in_ok-meant.ensures c.meaning_fit.ensures
