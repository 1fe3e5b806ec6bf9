-- What evaluation is of: modules with their texts, and what it makes of them.
use Rattle.std.specs.Prelude.{◌≡◌, ℕ, List, Ok, IsSome}
use Rattle.std.specs.List.{AllByRecursion}
use Rattle.bx_tree.specs.Paths.{Atoms}
use Rattle.bx_tree.specs.Trees.{Files, IsTree, file_at}
use Rattle.dscript_names.specs.ProjectFiles.{AreParsed, paths_of_modules, project_files}
use Rattle.dscript_eval_meaning.specs.Meaning.{Made, answered_meaning}
use Rattle.dscript_names.specs.Named.{named}
use Rattle.dscript_names_scopes.specs.Declarations.{ParsedData}
use Rattle.dscript_program.specs.ProgramData.{ProgramData}
use Rattle.dscript_program.specs.Workspaces.{ModuleData}
use Rattle.dscript_sdk_calls.specs.Sources.{Answers, tree_answers}
use Rattle.graph_texts.specs.Keys.{HasKey}

-- The modules of a workspace, among these source files, and a budget of steps.
pub record Work : Type 0 where
  pub budget : ℕ
  pub modules : List ModuleData
  pub sources : Files

-- the paths of all specifications, module by module
abbrev pub spec_paths : Work → List Atoms
spec_paths w = paths_of_modules w.modules

-- The source files are a tree, in which all specifications are.
pub record IsWork (w : Work) : Type 0 where
  pub has_key : HasKey w.budget w.modules
  pub tree : IsTree w.sources
  pub files : AllByRecursion (λ path. IsSome (file_at w.sources path)) (spec_paths w)

-- The texts of the specifications are those of a program, which over these answers makes this.
pub record Evaluates (w : Work) (answers : Answers) (made : Made) : Type 0 where
  pub parsed : List ParsedData
  pub parses : AreParsed (project_files w.sources w.modules) parsed
  pub program : ProgramData
  pub names : named w.modules parsed ≡ Ok program
  pub makes : answered_meaning program answers w.budget ≡ Ok made

-- what the source files themselves answer
abbrev pub own_answers : Work → Answers
own_answers w = tree_answers w.sources
