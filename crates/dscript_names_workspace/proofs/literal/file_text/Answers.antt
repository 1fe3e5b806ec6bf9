use Rattle.std.proofs.Common.{sym, ◌∙◌, arith}
use Rattle.dscript_names_workspace.proofs.Literals.{no_file_text, not_zero}
use Rattle.dscript_names_workspace.proofs.literal.file_text.Goals as goal

pub returns-else-is_empty : goal.returns-else-is_empty
returns-else-is_empty c =
    let path = c.in-Path-File-default-default in
    no_file_text c.args.value.now path.field-0 path.text path.holes path.is
    (λ none. not_zero _ (sym c.is_empty.ensures ∙ c.if-is_empty.false) (omega arith))
