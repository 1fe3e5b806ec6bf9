use Rattle.std.proofs.Common.{◌++◌, ◌∷◌, List, [], ap, reverse, ◌∙◌}
use Rattle.dscript_program.specs.Views.{program_data}
use Rattle.dscript_sdk_calls.specs.Sources.{tree_answers}
use Rattle.dscript_sdk_pips.specs.States.{over_tree}
use Rattle.dscript_sdk_values.proofs.Views.{plain-Undefined}
use Rattle.dscript_eval_frames.specs.declared.work.StmtWork.TheVariants as stmt
use Rattle.dscript_eval_frames.specs.declared.work.Work.{Work}
use Rattle.dscript_eval_frames.specs.declared.work.Work.TheVariants as works
use Rattle.dscript_eval.proofs.Tops.{first_is}
use Rattle.dscript_eval.proofs.evaluation.start.Goals as goal

pub returns : goal.returns
returns c =
    first_is (program_data c.args.program.now) _ (tree_answers c.args.tree.now) c.args.budget _ _ _ _ _ c.requires
    (ap reverse (c.in_ok-push.ensures.items
    ∙ ap (λ (ws : List Work). ws ++ works.Stmt (stmt.Demands 0 0) ∷ []) c.new-work.ensures.items))
    plain-Undefined c.of_constant.ensures c.in_ok-constants.ensures (ap over_tree c.in_ok-calls.ensures)
