-- Source files come to one answer at most.
use Rattle.std.proofs.Common.{◌≡◌, ℕ, List, [], ◌∷◌, map, Option, Some, None, ap, sym, subst, ◌∙◌, refl}
use Rattle.std.specs.List.{AllZip}
use Rattle.std.proofs.lemmas.Option.{same_Some}
use Rattle.bx_tree.specs.Paths.{Atoms}
use Rattle.bx_tree.specs.Trees.{Files, file_at}
use Rattle.dscript_ast.specs.FileTree as trees
use Rattle.dscript_ast.specs.declared.file.Form.TheVariants as forms
use Rattle.dscript_names_workspace.specs.Configs.{configured}
use Rattle.dscript_parse.specs.Reading.{Reading, Read, NoTokens, NoFile, ReadsAs}
use Rattle.dscript_parse.proofs.OneReading.{one_reading}
use Rattle.dscript_names_workspace.specs.Membership.{config_path, dir_of, implied_files}
use Rattle.dscript_names_workspace.specs.Workspaces.{Answer, ModuleFile, answer_of}
use Rattle.dscript_names_workspace.specs.Finding.{ComesTo, Finds, IsModuleFile, LeadsTo, Lists, Starts, module_file}

one_module_file : (files : Files) (dirs : List Atoms) (path : Atoms) (m n : ModuleFile)
    → IsModuleFile files dirs path m → IsModuleFile files dirs path n → m ≡ n
one_module_file files dirs path m n h k =
    let text : h.0 ≡ k.0 = same_Some h.0 k.0 (sym h.1 ∙ k.1) in
    let reading : h.2.0 ≡ k.2.0 = one_reading forms.Module k.0 h.2.0 k.2.0
    (subst (λ (t : List ℕ). ReadsAs forms.Module t h.2.0) text h.2.1) k.2.1 in
    h.2.2 ∙ ap (module_file files (implied_files files dirs (dir_of path)) path) reading ∙ sym k.2.2

one_list : (files : Files) (dirs paths : List Atoms) (ms ns : List ModuleFile)
    → AllZip (IsModuleFile files dirs) paths ms → AllZip (IsModuleFile files dirs) paths ns → ms ≡ ns
one_list files dirs [] [] [] h k = refl
one_list files dirs [] [] (n ∷ ns) h k = absurd k
one_list files dirs [] (m ∷ ms) ns h k = absurd h
one_list files dirs (path ∷ paths) [] ns h k = absurd h
one_list files dirs (path ∷ paths) (m ∷ ms) [] h k = absurd k
one_list files dirs (path ∷ paths) (m ∷ ms) (n ∷ ns) h k =
    ap (λ x. x ∷ ms) (one_module_file files dirs path m n h.0 k.0)
    ∙ ap (λ xs. n ∷ xs) (one_list files dirs paths ms ns h.1 k.1)

comes_to_one : (files : Files) (listed : List Atoms) (a b : Answer) → ComesTo files listed a → ComesTo files listed b → a ≡ b
comes_to_one files listed a b h k =
    h.2 ∙ ap answer_of (one_list files (map dir_of listed) listed h.0 k.0 h.1 k.1) ∙ sym k.2

lists_one : (files : Files) (said : Option (List Atoms)) (a b : Answer) → Lists files said a → Lists files said b → a ≡ b
lists_one files None a b h k = h ∙ sym k
lists_one files (Some listed) a b h k = comes_to_one files listed a b h k

leads_to_one : (files : Files) (reading : Reading) (a b : Answer) → LeadsTo files reading a → LeadsTo files reading b → a ≡ b
leads_to_one files (NoTokens place) a b h k = h ∙ sym k
leads_to_one files (NoFile place) a b h k = h ∙ sym k
leads_to_one files (Read (trees.Project items)) a b h k = h ∙ sym k
leads_to_one files (Read (trees.Config e)) a b h k = lists_one files (configured files e) a b h k
leads_to_one files (Read (trees.Module e)) a b h k = h ∙ sym k

starts_one : (files : Files) (text : Option (List ℕ)) (a b : Answer) → Starts files text a → Starts files text b → a ≡ b
starts_one files None a b h k = h ∙ sym k
starts_one files (Some text) a b h k =
    let reading : h.0 ≡ k.0 = one_reading forms.Config text h.0 k.0 h.1 k.1 in
    leads_to_one files k.0 a b (subst (λ (r : Reading). LeadsTo files r a) reading h.2) k.2

pub one_answer : (files : Files) (a b : Answer) → Finds files a → Finds files b → a ≡ b
one_answer files a b h k = starts_one files (file_at files config_path) a b h k
