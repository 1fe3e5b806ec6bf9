-- What a workspace was found from.
use Rattle.std.proofs.Common.{◌≡◌, ◌⊎◌, ◌≤◌, ◌+◌, ℕ, Bool, true, false, List, [], ◌∷◌, ◌++◌, map, filter, Option, Some, None, cond, length, refl, ap, sym, subst, ◌∙◌, inl, inr, arith}
use Rattle.std.specs.Prelude.{option_and_then, option_map}
use Rattle.std.specs.List.{AllZip, cons_option, filter_map}
use Rattle.std.proofs.lemmas.List.{length-map}
use Rattle.bx_tree.specs.Paths.{Atoms, has_path, same_path}
use Rattle.bx_tree.specs.Trees.{Files, file_at, paths_of}
use Rattle.dscript_ast.specs.ExprTree.{ExprTree}
use Rattle.dscript_ast.specs.FileTree as trees
use Rattle.dscript_names_workspace.specs.Configs.{resolvers, resolvers_list}
use Rattle.dscript_names_workspace.specs.Paths.{in_tree}
use Rattle.dscript_program.specs.SpecFaults.{FaultData}
use Rattle.dscript_program.specs.Workspaces.{ModuleData}
use Rattle.dscript_parse.specs.Reading.{Reading, Read, NoTokens, NoFile, ReadsAs}
use Rattle.dscript_names_workspace.specs.Membership.{config_path, dir_of}
use Rattle.dscript_names_workspace.specs.Workspaces.{Answer, Found, Refused, ModuleFile, answer_of, file_fault, module_in}
use Rattle.dscript_names_workspace.specs.Workspaces.{modules, option_or, refused_or, repeated_module_name}
use Rattle.dscript_names_workspace.specs.Finding.{ComesTo, Finds, IsModuleFile, LeadsTo, Lists, Starts, build_path}
use Rattle.dscript_names_workspace.specs.Finding.{main_module, without_config}

-- the one module of a tree without a configuration
pub record IsMain (files : Files) (ms : List ModuleData) : Type 0 where
  pub text : List ℕ
  pub there : file_at files build_path ≡ Some text
  pub is : ms ≡ main_module ∷ []

-- the modules of these module files, which a configuration lists
pub record IsListed (files : Files) (ms : List ModuleData) : Type 0 where
  pub config : ExprTree
  pub said : List Atoms
  pub says : option_and_then (resolvers files) (resolvers_list config) ≡ Some said
  pub module_files : List ModuleFile
  pub read : AllZip (IsModuleFile files (map dir_of (in_tree files said))) (in_tree files said) module_files
  pub no_file_fault : file_fault module_files [] module_files ≡ None
  pub no_name_fault : repeated_module_name [] (modules module_files) ≡ None
  pub are : ms ≡ modules module_files

answered : (f n : Option FaultData) (found ms : List ModuleData) → Found ms ≡ refused_or (option_or f n) found
    → (f ≡ None) × (n ≡ None) × (ms ≡ found)
answered (Some f) n found ms e = cc
answered None (Some n) found ms e = cc
answered None None found ms e = (refl, refl, cc)

main_is : (files : Files) (o : Option (List ℕ)) (ms : List ModuleData) → file_at files build_path ≡ o
    → Found ms ≡ without_config o → IsMain files ms
main_is files None ms e f = cc
main_is files (Some text) ms e f = record { text = text; there = e; is = cc }

listed_are : (files : Files) (config : ExprTree) (o : Option (List Atoms)) (ms : List ModuleData)
    → option_and_then (resolvers files) (resolvers_list config) ≡ o
    → Lists files (option_map (in_tree files) o) (Found ms) → IsListed files ms
listed_are files config None ms e h = cc
listed_are files config (Some said) ms e h =
    let parts = answered (file_fault h.0 [] h.0) (repeated_module_name [] (modules h.0)) (modules h.0) ms h.2 in
    record {
      config = config;
      said = said;
      says = e;
      module_files = h.0;
      read = h.1;
      no_file_fault = parts.0;
      no_name_fault = parts.1;
      are = parts.2;
    }

led_to : (files : Files) (reading : Reading) (ms : List ModuleData) → LeadsTo files reading (Found ms) → IsListed files ms
led_to files (NoTokens place) ms h = cc
led_to files (NoFile place) ms h = cc
led_to files (Read (trees.Project items)) ms h = cc
led_to files (Read (trees.Config e)) ms h =
    listed_are files e (option_and_then (resolvers files) (resolvers_list e)) ms refl h
led_to files (Read (trees.Module e)) ms h = cc

started : (files : Files) (o : Option (List ℕ)) (ms : List ModuleData) → Starts files o (Found ms)
    → IsMain files ms ⊎ IsListed files ms
started files None ms h = inl (main_is files (file_at files build_path) ms refl h)
started files (Some text) ms h = inr (led_to files h.0 ms h.2)

pub found_from : (files : Files) (ms : List ModuleData) → Finds files (Found ms) → IsMain files ms ⊎ IsListed files ms
found_from files ms h = started files (file_at files config_path) ms h

-- ## As many modules as files at most

put_length : {Y : Type 0} (o : Option Y) (ys : List Y) (n : ℕ) → length ys ≤ n → length (cons_option o ys) ≤ n + 1
put_length None ys n h = omega (arith, h)
put_length (Some y) ys n h = omega (arith, h)

shorter : {X Y : Type 0} (f : X → Option Y) (xs : List X) → length (filter_map f xs) ≤ length xs
shorter f [] = omega arith
shorter f (x ∷ xs) =
    let l = put_length (f x) (filter_map f xs) (length xs) (shorter f xs) in
    omega (arith, l)

zip_length : {X Y : Type 0} (R : X → Y → Type 0) (xs : List X) (ys : List Y) → AllZip R xs ys → length ys ≡ length xs
zip_length R [] [] h = refl
zip_length R [] (y ∷ ys) h = absurd h
zip_length R (x ∷ xs) [] h = absurd h
zip_length R (x ∷ xs) (y ∷ ys) h = omega (arith, zip_length R xs ys h.1)

filter_length : {X : Type 0} (test : X → Bool) (xs : List X) → length (filter test xs) ≤ length xs
filter_length test [] = omega arith
filter_length test (x ∷ xs) =
    let l = kept (test x) x (filter test xs) xs (filter_length test xs) in
    omega (arith, l)
  where
    kept : {X : Type 0} (b : Bool) (x : X) (ys xs : List X) → length ys ≤ length xs → length (cond b (x ∷ ys) ys) ≤ length xs + 1
    kept true x ys xs h = omega (arith, h)
    kept false x ys xs h = omega (arith, h)

some_file : (files : Files) (path : Atoms) (text : List ℕ) → file_at files path ≡ Some text → 1 ≤ length files
some_file [] path text e = cc
some_file (f ∷ fs) path text e = omega arith

pub within_files : (files : Files) (ms : List ModuleData) → Finds files (Found ms) → length ms ≤ length files
within_files files ms h = elim (found_from files ms h) [
  | inl main ↦ let l = some_file files build_path main.text main.there in omega (arith, l, ap length main.is)
  | inr listed ↦
      let a = ap length listed.are in
      let b = shorter module_in listed.module_files in
      let c = zip_length (IsModuleFile files (map dir_of (in_tree files listed.said))) (in_tree files listed.said) listed.module_files listed.read in
      let d = filter_length (has_path listed.said) (paths_of files) in
      let e = length-map files (λ f. f.0) in
      omega (arith, a, b, c, d, e)
]
