-- What a tree of source files asks for, and why it is refused.
use Rattle.std.specs.Prelude.{◌≡◌, ℕ, List, Ok, Err, Option, true, ◌⊎◌}
use Rattle.bx_tree.specs.Paths.{Atoms}
use Rattle.bx_tree.specs.Trees.{Files}
use Rattle.dscript_eval_meaning.specs.Meaning.{Refused as Stopped, Unnumbered, meaning}
use Rattle.dscript_eval_meaning.specs.declared.fault.EvalKind.{EvalKind}
use Rattle.dscript_program.specs.SpecFaults.{FaultData}
use Rattle.dscript_program.specs.Workspaces.{ModuleData}
use Rattle.dscript_names.specs.Named.{named}
use Rattle.dscript_program.specs.ProgramData.{ProgramData}
use Rattle.dscript_names_scopes.specs.Declarations.{ParsedData}
use Rattle.dscript_types_meaning.specs.Typed.{IsFirstUntyped, IsTyped}
use Rattle.dscript_names_workspace.specs.Finding.{Finds}
use Rattle.dscript_names_workspace.specs.Workspaces.{Found, Refused}
use Rattle.graph_check.specs.Rules.{KeepsRules, IsFirstBrokenRule as IsFirstBroken}
use Rattle.graph_check.specs.declared.fault.GraphKind.{GraphKind}
use Rattle.pip_model_types.specs.declared.pip.Pip.{Pip}
use Rattle.dscript_names.specs.ProjectFiles.{AreParsed, project_files}
use Rattle.bx_engine_front.specs.Projects.{IsFirstProjectFault}
use Rattle.bx_engine_front.specs.declared.limits.Limits.{Limits}

-- ## Programs

-- the modules of the tree, with the syntax trees of all their files
pub record HasModules (tree : Files) (modules : List ModuleData) (parsed : List ParsedData) : Type 0 where
  pub finds : Finds tree (Found modules)
  pub parses : AreParsed (project_files tree modules) parsed

-- The modules of the tree are this program: all their files are well-formed, and each name in them has its meaning.
pub record IsProgramOf (tree : Files) (modules : List ModuleData) (program : ProgramData) : Type 0 where
  pub parsed : List ParsedData
  pub reads : HasModules tree modules parsed
  pub names : named modules parsed ≡ Ok program

-- The tree is this program: it has modules, all their files are well-formed, and each name in them has its
-- meaning.
pub record IsProgram (tree : Files) (program : ProgramData) : Type 0 where
  pub modules : List ModuleData
  pub parsed : List ParsedData
  pub reads : HasModules tree modules parsed
  pub names : named modules parsed ≡ Ok program

-- The first fault of a tree that is no program: of its configurations, of the text of a project file, by the
-- order of paths, or of the names in them.
abbrev pub IsMalformed : Files → FaultData → Type 0
IsMalformed tree fault =
    Finds tree (Refused fault)
    ⊎ ((modules : List ModuleData) × Finds tree (Found modules)
    × IsFirstProjectFault (project_files tree modules) fault)
    ⊎ ((modules : List ModuleData) × (parsed : List ParsedData) × HasModules tree modules parsed
    × (named modules parsed ≡ Err fault))

-- each expression of the program has a type, where that is asked for
abbrev pub PassesTypes : Limits → ProgramData → Type 0
PassesTypes limits program = limits.types ≡ true → IsTyped program

-- ## Pips

-- the tree is a program that passes the check of its types and makes these pips
pub record MakesPips (limits : Limits) (tree : Files) (pips : List Pip) : Type 0 where
  pub program : ProgramData
  pub is_program : IsProgram tree program
  pub types : PassesTypes limits program
  pub evaluates : meaning program tree limits.eval_budget ≡ Ok pips

-- the tree asks for these pips, which keep all rules of the graph
pub record Plans (limits : Limits) (tree : Files) (pips : List Pip) : Type 0 where
  pub makes : MakesPips limits tree pips
  pub rules : KeepsRules pips tree

-- The tree is a program that passes the check of its types and makes more pips than can be numbered. They cannot be
-- numbered, which is answered as want of memory.
pub record AsksForTooMany (limits : Limits) (tree : Files) : Type 0 where
  pub program : ProgramData
  pub is_program : IsProgram tree program
  pub types : PassesTypes limits program
  pub unnumbered : meaning program tree limits.eval_budget ≡ Err Unnumbered

-- ## Faults

-- why a tree is refused
pub data SpecificationFault : Type 0 where
  -- by a fault of its files or of the names in them
  OfProgram : FaultData → SpecificationFault
  -- by an expression without a type, of which this is the first file
  OfTypes : Atoms → SpecificationFault
  -- by a fault of evaluation, in this file and perhaps with a message
  OfEvaluation : EvalKind → Atoms → Option (List ℕ) → SpecificationFault
  -- by a rule of the graph, at a pip that this file makes
  OfGraph : GraphKind → Atoms → SpecificationFault

-- The tree is refused with this fault. A fault of its program comes before one of its types, where these are checked, this
-- before all faults of evaluation, and these before all rules of the graph.
abbrev pub HasFault : Limits → Files → SpecificationFault → Type 0
HasFault limits tree (OfProgram fault) = IsMalformed tree fault
HasFault limits tree (OfTypes file) =
    (limits.types ≡ true) × (program : ProgramData) × IsProgram tree program × IsFirstUntyped program file
HasFault limits tree (OfEvaluation kind file message) =
    (program : ProgramData) × IsProgram tree program × PassesTypes limits program
    × (meaning program tree limits.eval_budget ≡ Err (Stopped kind file message))
HasFault limits tree (OfGraph rule file) =
    (pips : List Pip) × MakesPips limits tree pips × (pip : ℕ) × IsFirstBroken pips tree rule pip file

-- ## Laws

-- the tree asks for pips, or is refused with a fault, or asks for more pips than can be numbered
abbrev pub HasAnswer : Limits → Files → Type 0
HasAnswer limits tree =
    ((pips : List Pip) × Plans limits tree pips)
    ⊎ ((fault : SpecificationFault) × HasFault limits tree fault)
    ⊎ AsksForTooMany limits tree
