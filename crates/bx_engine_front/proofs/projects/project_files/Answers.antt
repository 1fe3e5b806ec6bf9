use Rattle.std.proofs.Common.{List, ap, ◌∙◌}
use Rattle.std.proofs.lemmas.Result.{IfOk-weaker}
use Rattle.bx_tree.specs.Views.{files_of}
use Rattle.dscript_program.specs.declared.workspace.ModuleText.{ModuleText}
use Rattle.dscript_program.specs.Workspaces.{modules_data, modules_of}
use Rattle.dscript_names.specs.ProjectFiles.{paths_of_modules}
use Rattle.bx_engine_front.specs.Projects.{lent_files}
use Rattle.bx_engine_front.proofs.ProjectFiles.{found_projects}
use Rattle.bx_engine_front.proofs.projects.project_files.Goals as goal

pub returns : goal.returns
returns c =
    IfOk-weaker c.files_at.result _ _
    (λ found h.
    found_projects c.args.tree.now (files_of c.files.result.now) (lent_files found.items) (modules_of c.args.workspace.now)
    c.in_ok-paths.paths.items c.sort_unstable.new.self.items c.as_slice-2.result.now h c.files.ensures.files
    c.as_slice-2.ensures.value c.sort_unstable.ensures.permutation
    (c.in_ok-paths.ensures ∙ ap (λ (ms : List ModuleText). paths_of_modules (modules_data ms)) c.as_slice.ensures.value))
    c.files_at.ensures
