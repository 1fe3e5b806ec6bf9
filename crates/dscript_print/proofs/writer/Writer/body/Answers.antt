use Rattle.dscript_print.proofs.Steps.{if_ok}
use Rattle.dscript_print.proofs.Declarations.{block_step}
use Rattle.dscript_print.proofs.writer.Writer.body.Goals as goal

pub returns : goal.returns
returns c = if_ok c.block.result (λ x e. block_step _ _ _ c.args.body.now c.space.ensures e) c.block.ensures
