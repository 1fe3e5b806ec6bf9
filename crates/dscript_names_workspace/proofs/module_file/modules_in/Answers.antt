use Rattle.std.proofs.Common.{[], ◌∷◌, ◌++◌, ap, sym, ◌∙◌}
use Rattle.std.specs.List.{filter_map}
use Rattle.dscript_names_workspace.specs.ModuleFiles.{file_data}
use Rattle.dscript_names_workspace.specs.Workspaces.{module_in}
use Rattle.dscript_names_workspace.proofs.ModulesKept.{next-kept}
use Rattle.dscript_names_workspace.proofs.module_file.modules_in.Goals as goal

pub files-preserved : goal.files-preserved
files-preserved c =
    c.in_ok-push_module.ensures
    ∙ ap (λ before. before ++ filter_map module_in (file_data c.in-Some.module_file ∷ [])) c.files.invariant
    ∙ sym (next-kept c.files.yielded c.in-Some.module_file)
