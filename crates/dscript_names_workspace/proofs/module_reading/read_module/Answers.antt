use Rattle.std.proofs.Common.{◌≡◌}
use Rattle.std.proofs.lemmas.Result.{IfOk-weaker}
use Rattle.dscript_ast.specs.Views.{file_tree}
use Rattle.dscript_program.specs.declared.spec_fault.SpecKind.TheVariants as kinds
use Rattle.dscript_parse.specs.Reading.{NoFile, NoTokens, Read}
use Rattle.dscript_names_workspace.specs.Finding.{fault_at, module_file}
use Rattle.dscript_names_workspace.specs.ModuleFiles.{file_data}
use Rattle.dscript_names_workspace.specs.Workspaces.{Faulty}
use Rattle.dscript_names_workspace.proofs.module_reading.read_module.Goals as goal

pub returns-in-Ok : goal.returns-in-Ok
returns-in-Ok c =
    let files = c.args.tree.now in
    let reading = Read (file_tree c.in-Ok.file) in
    IfOk-weaker c.file_from.result (λ m. file_data m ≡ module_file files c.args.implied.now c.args.path.now reading) _
    (λ m e. (reading, c.in-Ok.ensures, e)) c.file_from.ensures

pub returns-in-Err-Lex : goal.returns-in-Err-Lex
returns-in-Err-Lex c =
    let place = c.in-Err-Lex.place in
    IfOk-weaker c.refused_at.result (λ m. file_data m ≡ Faulty (fault_at kinds.Lex c.args.path.now place)) _
    (λ m e. (NoTokens place, rw c.in-Err-Lex.field-0-is at c.in-Err-Lex.ensures, e)) (rw c.in-Err-Lex.place-is at c.refused_at.ensures)

pub returns-in-Err-Syntax : goal.returns-in-Err-Syntax
returns-in-Err-Syntax c =
    let place = c.in-Err-Syntax.place in
    IfOk-weaker c.refused_at-in-Err-Syntax.result (λ m. file_data m ≡ Faulty (fault_at kinds.Syntax c.args.path.now place)) _
    (λ m e. (NoFile place, rw c.in-Err-Syntax.field-0-is at c.in-Err-Syntax.ensures, e)) (rw c.in-Err-Syntax.place-is at c.refused_at-in-Err-Syntax.ensures)
