use Rattle.std.proofs.Common.{◌≡◌, Some}
use Rattle.dscript_ast.specs.Views.{file_tree}
use Rattle.dscript_program.specs.declared.spec_fault.SpecKind.TheVariants as kinds
use Rattle.dscript_parse.specs.Reading.{NoFile, NoTokens, Read}
use Rattle.dscript_names_workspace.specs.Finding.{LeadsTo, Starts, fault_at}
use Rattle.dscript_names_workspace.specs.Membership.{config_path}
use Rattle.dscript_names_workspace.specs.Workspaces.{Refused}
use Rattle.dscript_names_workspace.proofs.Answering.{answers_weaker}
use Rattle.dscript_names_workspace.proofs.finding.with_config.Goals as goal

pub returns-in-Ok : goal.returns-in-Ok
returns-in-Ok c =
    let reading = Read (file_tree c.in-Ok.file) in
    answers_weaker (LeadsTo c.args.tree.now reading) (Starts c.args.tree.now (Some c.args.text.now))
    (λ a h. (reading, c.in-Ok.ensures, h)) c.configured_workspace.result c.configured_workspace.ensures

pub returns-in-Err-Lex : goal.returns-in-Err-Lex
returns-in-Err-Lex c =
    let place = c.in-Err-Lex.place in
    answers_weaker (λ a. a ≡ Refused (fault_at kinds.Lex config_path place)) (Starts c.args.tree.now (Some c.args.text.now))
    (λ a e. (NoTokens place, rw c.in-Err-Lex.field-0-is at c.in-Err-Lex.ensures, e)) c.config_fault.result c.config_fault.ensures

pub returns-in-Err-Syntax : goal.returns-in-Err-Syntax
returns-in-Err-Syntax c =
    let place = c.in-Err-Syntax.place in
    answers_weaker (λ a. a ≡ Refused (fault_at kinds.Syntax config_path place)) (Starts c.args.tree.now (Some c.args.text.now))
    (λ a e. (NoFile place, rw c.in-Err-Syntax.field-0-is at c.in-Err-Syntax.ensures, e)) c.config_fault-in-Err-Syntax.result
    c.config_fault-in-Err-Syntax.ensures
