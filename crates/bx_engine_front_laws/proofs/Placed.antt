-- Only the faults of texts have places.
use Rattle.std.proofs.Common.{◌≡◌, ◌⊎◌, ℕ, ◌+◌, Bool, true, false, ◌&&◌, cond, List, [], ◌∷◌, ◌++◌, map, Option, Some, None, Result, Ok, Err, refl, sym, ◌∙◌, subst, inl, inr}
use Rattle.std.specs.Prelude.{⊤}
use Rattle.std.specs.List.{AllByRecursion, AllZip, list_any}
use Rattle.std.specs.Option.{option_map_or}
use Rattle.bx_tree.specs.Paths.{Atoms}
use Rattle.bx_tree.specs.Trees.{Files, file_at}
use Rattle.dscript_ast.specs.FileTree as trees
use Rattle.dscript_program.specs.ProgramData.{DeclData, ProgramData}
use Rattle.dscript_program.specs.SpecFaults.{FaultData}
use Rattle.dscript_program.specs.Workspaces.{ModuleData}
use Rattle.dscript_program.specs.declared.place.Place.{Place}
use Rattle.dscript_program.specs.declared.spec_fault.SpecKind.{SpecKind}
use Rattle.dscript_program.specs.declared.spec_fault.SpecKind.TheVariants as kinds
use Rattle.dscript_parse.specs.Reading.{Reading, Read, NoTokens, NoFile}
use Rattle.dscript_names_workspace.specs.Configs.{configured}
use Rattle.dscript_names_workspace.specs.Finding.{IsModuleFile, LeadsTo, Lists, Starts, build_path, fault_at, module_described, module_file, without_config}
use Rattle.dscript_names_workspace.specs.Membership.{config_path, dir_of}
use Rattle.dscript_names_workspace.specs.Modules.{DescriptionData, described}
use Rattle.dscript_names_workspace.specs.Workspaces.{Refused, ModuleFile, Described, Faulty}
use Rattle.dscript_names_workspace.specs.Workspaces.{answer_of, configuration_fault, fault_in, file_fault, is_taken, is_used, module_file_fault, modules, option_or, refused_or, repeated_module_name}
use Rattle.dscript_names_binding.specs.Binding.{bind_items}
use Rattle.dscript_names_binding.specs.Walk.{Bound}
use Rattle.dscript_names_scopes.specs.Declarations.{ParsedData, items_of, names_of, world_of}
use Rattle.dscript_names_scopes.specs.Duplicates.{first_duplicate}
use Rattle.dscript_names_scopes.specs.Names.{FileNames, World}
use Rattle.dscript_names.specs.Named.{before_others, bind_files, fault_in_file, file_first, named, unless_duplicate}
use Rattle.bx_engine_front.specs.Projects.{IsFirstProjectFault, IsIllFormed}
use Rattle.bx_engine_front.specs.Specifications.{IsMalformed}

-- a fault has a place only where a text is no list of tokens or no file
abbrev pub IsPlaced : FaultData → Type 0
IsPlaced f = (place : Place) → f.place ≡ Some place → (f.kind ≡ kinds.Lex) ⊎ (f.kind ≡ kinds.Syntax)

lex_placed : (file : Atoms) (place : Place) → IsPlaced (fault_at kinds.Lex file place)
lex_placed file place p e = inl refl

syntax_placed : (file : Atoms) (place : Place) → IsPlaced (fault_at kinds.Syntax file place)
syntax_placed file place p e = inr refl

none_placed : (kind : SpecKind) (file : Atoms) → IsPlaced (fault_in kind file)
none_placed kind file p e = absurd cc

-- ## Module files

abbrev IsPlacedFile : ModuleFile → Type 0
IsPlacedFile (Described m lists) = ⊤
IsPlacedFile (Faulty fault) = IsPlaced fault

or_faulty : (files : Files) (implied : List Atoms) (path : Atoms) (d : Option DescriptionData)
    → IsPlacedFile (option_map_or (module_described files implied path) d (Faulty (configuration_fault path)))
or_faulty files implied path None = none_placed kinds.ModuleConfig path
or_faulty files implied path (Some d) = tt

file_placed : (files : Files) (implied : List Atoms) (path : Atoms) (reading : Reading) → IsPlacedFile (module_file files implied path reading)
file_placed files implied path (NoTokens place) = lex_placed path place
file_placed files implied path (NoFile place) = syntax_placed path place
file_placed files implied path (Read (trees.Module e)) = or_faulty files implied path (described files (dir_of path) e)
file_placed files implied path (Read (trees.Project items)) = none_placed kinds.ModuleConfig path
file_placed files implied path (Read (trees.Config e)) = none_placed kinds.ModuleConfig path

all_placed : (files : Files) (dirs listed : List Atoms) (ms : List ModuleFile) → AllZip (IsModuleFile files dirs) listed ms
    → AllByRecursion IsPlacedFile ms
all_placed files dirs [] [] h = tt
all_placed files dirs [] (m ∷ ms) h = absurd h
all_placed files dirs (path ∷ listed) [] h = absurd h
all_placed files dirs (path ∷ listed) (m ∷ ms) h =
    (subst IsPlacedFile (sym h.0.2.2) (file_placed files _ path h.0.2.0), all_placed files dirs listed ms h.1)

-- ## Answers

or_cases : (a b : Option FaultData) (f : FaultData) → option_or a b ≡ Some f → (a ≡ Some f) ⊎ (b ≡ Some f)
or_cases (Some g) b f e = inl e
or_cases None b f e = inr e

some_placed : (g f : FaultData) → Some g ≡ Some f → IsPlaced g → IsPlaced f
some_placed g f e placed = let same : g ≡ f = cc in subst IsPlaced same placed

cond_placed : (b : Bool) (g f : FaultData) → IsPlaced g → cond b (Some g) None ≡ Some f → IsPlaced f
cond_placed true g f placed e = some_placed g f e placed
cond_placed false g f placed e = absurd cc

one_placed : (taken : Atoms → Bool) (m : ModuleFile) → IsPlacedFile m → (f : FaultData) → module_file_fault taken m ≡ Some f → IsPlaced f
one_placed taken (Faulty fault) placed f e = some_placed fault f e placed
one_placed taken (Described m lists) placed f e =
    cond_placed (lists && list_any taken m.files) (configuration_fault m.config) f (none_placed kinds.ModuleConfig m.config) e

files_placed : (all before ms : List ModuleFile) → AllByRecursion IsPlacedFile ms → (f : FaultData) → file_fault all before ms ≡ Some f → IsPlaced f
files_placed all before [] placed f e = absurd cc
files_placed all before (m ∷ rest) placed f e =
    elim (or_cases (module_file_fault (is_taken all before) m) (file_fault all (before ++ m ∷ []) rest) f e) [
      | inl here ↦ one_placed (is_taken all before) m placed.0 f here
      | inr later ↦ files_placed all (before ++ m ∷ []) rest placed.1 f later
    ]

repeated_at : (g f : FaultData) (rest : Option FaultData) → IsPlaced g → (rest ≡ Some f → IsPlaced f) → (b : Bool) → cond b (Some g) rest ≡ Some f → IsPlaced f
repeated_at g f rest placed more true is = some_placed g f is placed
repeated_at g f rest placed more false is = more is

repeated_placed : (before ms : List ModuleData) (f : FaultData) → repeated_module_name before ms ≡ Some f → IsPlaced f
repeated_placed before [] f e = absurd cc
repeated_placed before (m ∷ rest) f e =
    repeated_at (fault_in kinds.DuplicateModule m.config) f (repeated_module_name (before ++ m ∷ []) rest) (none_placed kinds.DuplicateModule m.config)
    (λ is. repeated_placed (before ++ m ∷ []) rest f is) (is_used before m.name) e

refused_placed : (o : Option FaultData) (found : List ModuleData) → ((g : FaultData) → o ≡ Some g → IsPlaced g) → (f : FaultData)
    → refused_or o found ≡ Refused f → IsPlaced f
refused_placed (Some g) found placed f e = let same : g ≡ f = cc in subst IsPlaced same (placed g refl)
refused_placed None found placed f e = absurd cc

answer_placed : (ms : List ModuleFile) → AllByRecursion IsPlacedFile ms → (f : FaultData) → answer_of ms ≡ Refused f → IsPlaced f
answer_placed ms placed f e =
    refused_placed (option_or (file_fault ms [] ms) (repeated_module_name [] (modules ms))) (modules ms)
    (λ g is. elim (or_cases (file_fault ms [] ms) (repeated_module_name [] (modules ms)) g is) [
      | inl here ↦ files_placed ms [] ms placed g here
      | inr later ↦ repeated_placed [] (modules ms) g later
    ]) f e

-- ## The configuration

refused_as : (g f : FaultData) → Refused f ≡ Refused g → IsPlaced g → IsPlaced f
refused_as g f e placed = let same : f ≡ g = cc in subst IsPlaced (sym same) placed

lists_placed : (files : Files) (listed : Option (List Atoms)) (f : FaultData) → Lists files listed (Refused f) → IsPlaced f
lists_placed files None f e = refused_as (configuration_fault config_path) f e (none_placed kinds.ModuleConfig config_path)
lists_placed files (Some listed) f h = answer_placed h.0 (all_placed files (map dir_of listed) listed h.0 h.1) f (sym h.2)

leads_placed : (files : Files) (reading : Reading) (f : FaultData) → LeadsTo files reading (Refused f) → IsPlaced f
leads_placed files (NoTokens place) f e = refused_as (fault_at kinds.Lex config_path place) f e (lex_placed config_path place)
leads_placed files (NoFile place) f e = refused_as (fault_at kinds.Syntax config_path place) f e (syntax_placed config_path place)
leads_placed files (Read (trees.Config e)) f h = lists_placed files (configured files e) f h
leads_placed files (Read (trees.Project items)) f e = refused_as (configuration_fault config_path) f e (none_placed kinds.ModuleConfig config_path)
leads_placed files (Read (trees.Module x)) f e = refused_as (configuration_fault config_path) f e (none_placed kinds.ModuleConfig config_path)

without_placed : (text : Option (List ℕ)) (f : FaultData) → Refused f ≡ without_config text → IsPlaced f
without_placed (Some text) f e = absurd cc
without_placed None f e = refused_as (configuration_fault config_path) f e (none_placed kinds.ModuleConfig config_path)

starts_placed : (files : Files) (text : Option (List ℕ)) (f : FaultData) → Starts files text (Refused f) → IsPlaced f
starts_placed files None f e = without_placed (file_at files build_path) f e
starts_placed files (Some text) f h = leads_placed files h.0 f h.2

-- ## Project files

ill_placed : (file : Atoms × List ℕ) (f : FaultData) → IsIllFormed file f → IsPlaced f
ill_placed file f h = elim h [
  | inl tokens ↦ subst IsPlaced (sym tokens.2) (lex_placed file.0 tokens.0)
  | inr none ↦ subst IsPlaced (sym none.2) (syntax_placed file.0 none.0)
]

project_placed : (files : Files) (f : FaultData) → IsFirstProjectFault files f → IsPlaced f
project_placed [] f h = absurd h
project_placed (file ∷ files) f h = elim h [
  | inl here ↦ ill_placed file f here
  | inr later ↦ project_placed files f later.1
]

-- ## Names

err_placed : (kind : SpecKind) (path : Atoms) (f : FaultData) (R : Result ProgramData FaultData) → R ≡ Err (fault_in_file kind path) → R ≡ Err f → IsPlaced f
err_placed kind path f r is e =
    let both : Err (fault_in_file kind path) ≡ Err f = sym is ∙ e in
    let same : fault_in_file kind path ≡ f = cc in
    subst IsPlaced same (none_placed kind path)

before_placed : (path : Atoms) (names : FileNames) (b : Bound (List DeclData)) (r : Result ProgramData FaultData) (f : FaultData)
    → ((g : FaultData) → r ≡ Err g → IsPlaced g) → before_others path names b r ≡ Err f → IsPlaced f
before_placed path names b (Ok p) f placed e = absurd cc
before_placed path names b (Err g) f placed e = let same : g ≡ f = cc in subst IsPlaced same (placed g refl)

first_placed : (path : Atoms) (names : FileNames) (b : Result (Bound (List DeclData)) SpecKind) (others : ℕ → Result ProgramData FaultData)
    → ((n : ℕ) (g : FaultData) → others n ≡ Err g → IsPlaced g) → (f : FaultData) → file_first path names b others ≡ Err f → IsPlaced f
first_placed path names (Ok b) others placed f e = before_placed path names b (others b.after.functions) f (placed b.after.functions) e
first_placed path names (Err kind) others placed f e = err_placed kind path f (Err (fault_in_file kind path)) refl e

module _ (ms : List ModuleData) (world : World) where
  bind_placed : (ps : List ParsedData) (n functions : ℕ) (f : FaultData) → bind_files ms world n ps functions ≡ Err f → IsPlaced f
  bind_placed [] n functions f e = absurd cc
  bind_placed (p ∷ ps) n functions f e =
      first_placed p.path (names_of ms p)
      (bind_items world n (names_of ms p) (items_of p.file) (record { blocks = []; locals = 0; functions = functions }))
      (bind_files ms world (n + 1) ps) (bind_placed ps (n + 1)) f e

unless_placed : (path : Option Atoms) (r : Result ProgramData FaultData) → ((g : FaultData) → r ≡ Err g → IsPlaced g) → (f : FaultData)
    → unless_duplicate path r ≡ Err f → IsPlaced f
unless_placed (Some path) r placed f e = err_placed kinds.DuplicateName path f (Err (fault_in_file kinds.DuplicateName path)) refl e
unless_placed None r placed f e = placed f e

named_placed : (ms : List ModuleData) (parsed : List ParsedData) (f : FaultData) → named ms parsed ≡ Err f → IsPlaced f
unfolding named
named_placed ms parsed f e =
    unless_placed (first_duplicate ms [] parsed) (bind_files ms (world_of ms parsed) 0 parsed 0)
    (bind_placed ms (world_of ms parsed) parsed 0 0) f e

-- ## Programs

pub malformed_placed : (tree : Files) (f : FaultData) → IsMalformed tree f → IsPlaced f
malformed_placed tree f h = elim h [
  | inl finds ↦ starts_placed tree (file_at tree config_path) f finds
  | inr more ↦ elim more [
    | inl project ↦ project_placed _ f project.2
    | inr names ↦ named_placed names.0 names.1 f names.3
  ]
]
