use Rattle.std.proofs.Common.{rules}
use Rattle.dscript_ast.specs.Views.{file_tree}
use Rattle.dscript_print.proofs.Steps.{if_ok}
use Rattle.dscript_print.proofs.Promised.{prints}
use Rattle.dscript_print.proofs.printing.print.Goals as goal

pub returns : goal.returns
returns c =
    if_ok c.spell.result (λ text has. prints text.items (file_tree c.args.file.now) _ has (search rules)) c.spell.ensures.tokens
