use Rattle.std.proofs.Common.{◌≡◌, true, ◌∷◌, ◌++◌, [], List, ap, map, sym, subst, take, ◌∙◌}
use Rattle.std.specs.Prelude.{Contains}
use Rattle.std.specs.List.{AllZip}
use Rattle.std.proofs.lemmas.List.{map-append}
use Rattle.std.proofs.lemmas.List.Elements.{All-get_or}
use Rattle.bx_tree.specs.Paths.{Atoms, has_path}
use Rattle.bx_tree.specs.Trees.{paths_of}
use Rattle.dscript_names_workspace.specs.Finding.{IsModuleFile}
use Rattle.dscript_names_workspace.specs.Membership.{dir_of, implied_files}
use Rattle.dscript_names_workspace.specs.ModuleFiles.{file_data, files_data}
use Rattle.dscript_names_workspace.specs.PathSets.{files_in}
use Rattle.dscript_names_workspace.proofs.ReadTexts.{read_more}
use Rattle.dscript_names_workspace.proofs.module_reading.read_modules.Goals as goal

pub read_listed-requires-clause-there : goal.read_listed-requires-clause-there
read_listed-requires-clause-there c =
    subst (Contains (paths_of c.args.tree.now)) (sym c.path-item.is)
    (All-get_or (Contains (paths_of c.args.tree.now)) c.args.listed.now c.files.path-index c.path-item.result
    c.files-test.true c.requires.there)

pub files-preserved : goal.files-preserved
files-preserved c =
    let files = c.args.tree.now in
    let listed = c.args.listed.now in
    let dirs : c.as_slice.result.now ≡ map dir_of listed = c.as_slice.ensures.value ∙ c.in_ok-dirs.ensures in
    let m = c.in_ok-module_file.module_file in
    let pushed : files_data c.push.new.self.items ≡ files_data c.files.found.items ++ file_data m ∷ [] =
    ap files_data c.in_ok-push.ensures.items ∙ map-append file_data c.files.found.items (m ∷ []) in
    subst (AllZip (IsModuleFile files (map dir_of listed)) (take _ listed)) (sym pushed)
    (read_more files listed c.files.path-index c.path-item.result (files_data c.files.found.items) (file_data m)
    (files_in c.in_ok-implied.implied) c.files-test.true c.path-item.is
    (subst (λ (ds : List Atoms). (dir : Atoms) → has_path ds dir ≡ true → files_in c.in_ok-implied.implied dir ≡ implied_files files ds dir)
    dirs c.in_ok-implied.ensures) c.files.invariant c.in_ok-module_file.ensures)
