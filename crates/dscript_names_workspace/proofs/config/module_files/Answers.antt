use Rattle.std.proofs.Common.{◌≡◌, true, ap, sym, subst, ◌∙◌}
use Rattle.std.specs.List.{list_all}
use Rattle.bx_tree.specs.Paths.{Atoms}
use Rattle.dscript_ast.specs.Views.{expr_tree}
use Rattle.dscript_names_workspace.specs.Lists.{files_listed}
use Rattle.dscript_names_workspace.specs.Paths.{is_module_file, paths_at}
use Rattle.dscript_names_workspace.proofs.GatheredFiles.{tested_none, tested_some}
use Rattle.dscript_names_workspace.proofs.ListedFiles.{all_places}
use Rattle.dscript_names_workspace.proofs.Positions.{at_some}
use Rattle.dscript_names_workspace.proofs.config.module_files.Goals as goal

pub returns-then-are_module_files : goal.returns-then-are_module_files
returns-then-are_module_files c =
    let files = c.args.tree.now in
    let e = expr_tree c.args.list.now in
    let given = at_some c.in_ok-positions.field-0 c.in-Some.positions _ _ c.in-Some.is c.in_ok-positions.ensures in
    let tests = sym (all_places is_module_file files given.0 c.in-Some.positions.items given.2)
    ∙ ap (λ ps. list_all is_module_file (paths_at files ps)) (sym c.as_slice.ensures.value)
    ∙ sym c.are_module_files.ensures ∙ c.if-are_module_files.true in (
      given.0,
      tested_some (list_all is_module_file) (λ paths. paths) (files_listed files _ e) given.0
          (ap (λ (dir : Atoms). files_listed files dir e) (sym c.in_ok-root.ensures) ∙ given.1) tests,
      given.2,
    )

pub returns : goal.returns
returns c =
    let files = c.args.tree.now in
    let e = expr_tree c.args.list.now in
    let given = at_some c.in_ok-positions.field-0 c.in-Some.positions _ _ c.in-Some.is c.in_ok-positions.ensures in
    let tests = sym (all_places is_module_file files given.0 c.in-Some.positions.items given.2)
    ∙ ap (λ ps. list_all is_module_file (paths_at files ps)) (sym c.as_slice.ensures.value)
    ∙ sym c.are_module_files.ensures ∙ c.if-are_module_files.false in
    tested_none (list_all is_module_file) (λ paths. paths) (files_listed files _ e) given.0
    (ap (λ (dir : Atoms). files_listed files dir e) (sym c.in_ok-root.ensures) ∙ given.1) tests
