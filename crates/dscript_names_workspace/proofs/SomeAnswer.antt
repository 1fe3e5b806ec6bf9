-- Source files come to some answer.
use Rattle.std.proofs.Common.{◌≡◌, ℕ, Bool, true, false, List, [], ◌∷◌, map, filter, Option, Some, None, cond, refl, ap, ◌∙◌, inl, inr}
use Rattle.std.specs.List.{AllByRecursion, AllZip}
use Rattle.std.proofs.lemmas.Bool.{cases_Bool}
use Rattle.bx_tree.specs.Orders.{same_path_decides}
use Rattle.bx_tree.specs.Paths.{Atoms, has_path, same_path}
use Rattle.bx_tree.specs.Trees.{Files, file_at, paths_of}
use Rattle.dscript_ast.specs.FileTree as trees
use Rattle.dscript_ast.specs.declared.file.Form.TheVariants as forms
use Rattle.std.specs.Prelude.{option_and_then, option_map}
use Rattle.dscript_names_workspace.specs.Configs.{resolvers, resolvers_list}
use Rattle.dscript_parse.specs.Reading.{Reading, Read, NoTokens, NoFile}
use Rattle.dscript_parse.proofs.SomeReading.{some_reading}
use Rattle.dscript_program.specs.declared.spec_fault.SpecKind.TheVariants as kinds
use Rattle.dscript_names_workspace.specs.Paths.{in_tree}
use Rattle.dscript_names_workspace.specs.Membership.{config_path, dir_of, implied_files}
use Rattle.dscript_names_workspace.specs.Workspaces.{Answer, ModuleFile, Refused, answer_of, configuration_fault}
use Rattle.dscript_names_workspace.specs.Finding.{ComesTo, Finds, IsModuleFile, LeadsTo, Lists, Starts, build_path, fault_at}
use Rattle.dscript_names_workspace.specs.Finding.{module_file, without_config}

-- a file is at the path
abbrev HasText : Files → Atoms → Type 0
HasText files path = (text : List ℕ) × (file_at files path ≡ Some text)

text_after : (f : Atoms × List ℕ) (fs : Files) (path : Atoms) → HasText fs path → HasText (f ∷ fs) path
text_after f fs path h = elim (cases_Bool (same_path f.0 path)) [
  | inl same ↦ (f.1, ap (λ b. cond b (Some f.1) (file_at fs path)) same)
  | inr differ ↦ (h.0, ap (λ b. cond b (Some f.1) (file_at fs path)) differ ∙ h.1)
]

all_after : (f : Atoms × List ℕ) (fs : Files) (paths : List Atoms) → AllByRecursion (HasText fs) paths
    → AllByRecursion (HasText (f ∷ fs)) paths
all_after f fs [] h = tt
all_after f fs (path ∷ paths) h = (text_after f fs path h.0, all_after f fs paths h.1)

-- each path of a tree has a file
all_have : (files : Files) → AllByRecursion (HasText files) (paths_of files)
all_have [] = tt
all_have (f ∷ fs) = (
  (f.1, ap (λ b. cond b (Some f.1) (file_at fs f.0)) ((same_path_decides f.0 f.0).1 refl)),
  all_after f fs (paths_of fs) (all_have fs),
)

keep_if : {X : Type 0} (P : X → Type 0) (b : Bool) (x : X) (xs : List X) → P x → AllByRecursion P xs
    → AllByRecursion P (cond b (x ∷ xs) xs)
keep_if P true x xs h k = (h, k)
keep_if P false x xs h k = k

pub kept : {X : Type 0} (P : X → Type 0) (test : X → Bool) (xs : List X) → AllByRecursion P xs
    → AllByRecursion P (filter test xs)
kept P test [] h = tt
kept P test (x ∷ xs) h = keep_if P (test x) x (filter test xs) h.0 (kept P test xs h.1)

some_module_file : (files : Files) (dirs : List Atoms) (path : Atoms) → HasText files path
    → (m : ModuleFile) × IsModuleFile files dirs path m
some_module_file files dirs path h =
    let reading = some_reading forms.Module h.0 in
    (module_file files (implied_files files dirs (dir_of path)) path reading.0, (h.0, h.1, (reading.0, reading.1, refl)))

some_list : (files : Files) (dirs paths : List Atoms) → AllByRecursion (HasText files) paths
    → (ms : List ModuleFile) × AllZip (IsModuleFile files dirs) paths ms
some_list files dirs [] h = ([], tt)
some_list files dirs (path ∷ paths) h =
    let first = some_module_file files dirs path h.0 in
    let rest = some_list files dirs paths h.1 in
    (first.0 ∷ rest.0, (first.1, rest.1))

comes_to_some : (files : Files) (listed : List Atoms) → AllByRecursion (HasText files) listed
    → (answer : Answer) × ComesTo files listed answer
comes_to_some files listed h =
    let found = some_list files (map dir_of listed) listed h in
    (answer_of found.0, (found.0, found.1, refl))

lists_some : (files : Files) (said : Option (List Atoms))
    → (answer : Answer) × Lists files (option_map (in_tree files) said) answer
lists_some files None = (Refused (configuration_fault config_path), refl)
lists_some files (Some paths) =
    comes_to_some files (in_tree files paths) (kept (HasText files) (has_path paths) (paths_of files) (all_have files))

leads_to_some : (files : Files) (reading : Reading) → (answer : Answer) × LeadsTo files reading answer
leads_to_some files (NoTokens place) = (Refused (fault_at kinds.Lex config_path place), refl)
leads_to_some files (NoFile place) = (Refused (fault_at kinds.Syntax config_path place), refl)
leads_to_some files (Read (trees.Project items)) = (Refused (configuration_fault config_path), refl)
leads_to_some files (Read (trees.Config e)) = lists_some files (option_and_then (resolvers files) (resolvers_list e))
leads_to_some files (Read (trees.Module e)) = (Refused (configuration_fault config_path), refl)

starts_some : (files : Files) (text : Option (List ℕ)) → (answer : Answer) × Starts files text answer
starts_some files None = (without_config (file_at files build_path), refl)
starts_some files (Some text) =
    let reading = some_reading forms.Config text in
    let answer = leads_to_some files reading.0 in
    (answer.0, (reading.0, reading.1, answer.1))

pub some_answer : (files : Files) → (answer : Answer) × Finds files answer
some_answer files = starts_some files (file_at files config_path)
