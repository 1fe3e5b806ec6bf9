use Rattle.std.proofs.Common.{Some, ap, sym, ◌∙◌}
use Rattle.std.specs.Prelude.{◌&&◌}
use Rattle.dscript_ast.specs.Views.{expr_tree}
use Rattle.dscript_names_workspace.specs.Lists.{files_listed}
use Rattle.dscript_names_workspace.specs.Modules.{are_projects}
use Rattle.dscript_names_workspace.specs.Paths.{in_tree, is_specification, paths_at}
use Rattle.bx_tree.specs.Below.{is_below}
use Rattle.dscript_names_workspace.proofs.GatheredFiles.{tested_none, tested_some}
use Rattle.dscript_names_workspace.proofs.ListedFiles.{all_places, in_tree_of}
use Rattle.dscript_names_workspace.proofs.Positions.{at_some}
use Rattle.dscript_names_workspace.proofs.module.projects_in.Goals as goal

pub returns-then-are_projects : goal.returns-then-are_projects
returns-then-are_projects c =
    let files = c.args.tree.now in
    let dir = c.args.dir.now in
    let given = at_some c.in_ok-positions.field-0 c.in-Some.positions _ _ c.in-Some.is c.in_ok-positions.ensures in
    let tests = sym (all_places (λ path. is_below path dir && is_specification path) files given.0 c.in-Some.positions.items given.2)
    ∙ ap (λ ps. are_projects dir (paths_at files ps)) (sym c.as_slice.ensures.value)
    ∙ sym c.are_projects.ensures ∙ c.if-are_projects.true in (
      tested_some (are_projects dir) (in_tree files) (files_listed files dir (expr_tree c.args.list.now)) given.0 given.1 tests
          ∙ ap Some (in_tree_of files given.0 c.in-Some.positions.items c.in_order.result.items given.2 c.in_order.ensures.order),
      c.in_order.ensures.places.within,
    )

pub returns-else-are_projects : goal.returns-else-are_projects
returns-else-are_projects c =
    let files = c.args.tree.now in
    let dir = c.args.dir.now in
    let given = at_some c.in_ok-positions.field-0 c.in-Some.positions _ _ c.in-Some.is c.in_ok-positions.ensures in
    let tests = sym (all_places (λ path. is_below path dir && is_specification path) files given.0 c.in-Some.positions.items given.2)
    ∙ ap (λ ps. are_projects dir (paths_at files ps)) (sym c.as_slice.ensures.value)
    ∙ sym c.are_projects.ensures ∙ c.if-are_projects.false in
    tested_none (are_projects dir) (in_tree files) (files_listed files dir (expr_tree c.args.list.now)) given.0 given.1 tests
