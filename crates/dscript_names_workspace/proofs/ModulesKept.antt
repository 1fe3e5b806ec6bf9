-- The modules of files that are taken one by one.
use Rattle.std.proofs.Common.{◌≡◌, List, [], ◌∷◌, ◌++◌, ap, ◌∙◌}
use Rattle.std.specs.List.{filter_map}
use Rattle.std.proofs.lemmas.List.{map-append}
use Rattle.std.proofs.lemmas.List.Elements.{filter_map-append}
use Rattle.dscript_names_workspace.specs.declared.module_file.ModuleFile.{ModuleFile}
use Rattle.dscript_names_workspace.specs.ModuleFiles.{file_data, files_data}
use Rattle.dscript_names_workspace.specs.Workspaces.{module_in}

pub next-kept : (files : List ModuleFile) (file : ModuleFile)
    → filter_map module_in (files_data (files ++ file ∷ []))
    ≡ filter_map module_in (files_data files) ++ filter_map module_in (file_data file ∷ [])
next-kept files file =
    ap (filter_map module_in) (map-append file_data files (file ∷ []))
    ∙ filter_map-append module_in (files_data files) (file_data file ∷ [])
