use Rattle.std.proofs.Common.{rules, map}
use Rattle.dscript_ast.specs.FileTree.{to_marked}
use Rattle.dscript_ast.specs.Views.{marked_tree}
use Rattle.dscript_print.specs.FileKinds.{marked_kinds, all_marked_kinds}
use Rattle.dscript_print.proofs.Steps.{joined_turn}
use Rattle.dscript_print.proofs.Declarations.{marked_listed}
use Rattle.dscript_print.proofs.writer.Writer.+decls.Goals as goal

pub all_marked-loop-one-preserved : goal.all_marked-loop-one-preserved
all_marked-loop-one-preserved t c =
    joined_turn (λ xs. all_marked_kinds (to_marked (map marked_tree xs))) (λ x. marked_kinds (marked_tree x)) marked_listed c.args.marked.now c.loop-one.one-index _ _ _ _
    c.loop-one.invariant (search rules) (search rules) c.one-item.is
