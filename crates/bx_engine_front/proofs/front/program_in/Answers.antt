use Rattle.std.proofs.Common.{List, ap, subst, ◌∙◌}
use Rattle.std.proofs.lemmas.Result.{MatchResult-weaker, err_from_is_err_and}
use Rattle.std.specs.Borrow.{Bor}
use Rattle.bx_tree.specs.Trees.{Files}
use Rattle.bx_tree.specs.declared.tree_file.TreeFile.{TreeFile}
use Rattle.dscript_program.specs.Workspaces.{modules_of}
use Rattle.dscript_program.specs.Views.{program_data}
use Rattle.dscript_names.specs.ProjectFiles.{AreParsed, all_parsed}
use Rattle.bx_engine_front.specs.FileFaults.{RefusesFiles}
use Rattle.bx_engine_front.specs.Projects.{lent_files}
use Rattle.bx_engine_front.proofs.Passes.{program_of_modules, refused_files, refused_names, short_projects}
use Rattle.bx_engine_front.proofs.front.program_in.Goals as goal

pub parse_projects-requires : goal.parse_projects-requires
parse_projects-requires c =
    short_projects c.args.tree.now (lent_files c.as_slice.result.now) (modules_of c.args.work.now) c.requires.size
    (ap (λ (files : List (Bor TreeFile)). lent_files files) c.as_slice.ensures.value ∙ c.in_ok-files.ensures)

pub returns-in_err-parsed : goal.returns-in_err-parsed
returns-in_err-parsed c =
    let p = err_from_is_err_and c.from_residual-in_err-parsed.result c.from_residual-in_err-parsed.ensures.1 in
    rw (p.1, p.2)
    (refused_files c.args.tree.now (modules_of c.args.work.now) c.in_err-parsed.field-0.0 c.requires.found
    (subst (λ (projects : Files). RefusesFiles projects c.in_err-parsed.field-0.0)
    (ap (λ (files : List (Bor TreeFile)). lent_files files) c.as_slice.ensures.value ∙ c.in_ok-files.ensures) c.in_err-parsed.ensures))

pub returns : goal.returns
returns c =
    let parses = subst (λ (projects : Files). AreParsed projects (all_parsed c.in_ok-parsed.parsed.items))
    (ap (λ (files : List (Bor TreeFile)). lent_files files) c.as_slice.ensures.value ∙ c.in_ok-files.ensures) c.in_ok-parsed.ensures in
    MatchResult-weaker c.resolve.result c.resolve.ensures
    (λ program is.
    program_of_modules c.args.tree.now (modules_of c.args.work.now) (all_parsed c.in_ok-parsed.parsed.items) (program_data program)
    c.requires.found parses is)
    (λ fault is.
    refused_names c.args.tree.now (modules_of c.args.work.now) (all_parsed c.in_ok-parsed.parsed.items) fault c.requires.found parses is)
