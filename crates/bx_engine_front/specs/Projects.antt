-- The project files of a workspace: what each comes to, and the first fault in them.
use Rattle.std.specs.Prelude.{◌≡◌, ℕ, ◌≤◌, List, [], ◌∷◌, map, length, ◌⊎◌}
use Rattle.std.specs.Borrow.{Bor}
use Rattle.bx_tree.specs.Paths.{Atoms}
use Rattle.bx_tree.specs.Trees.{Files}
use Rattle.bx_tree.specs.Views.{file_of}
use Rattle.bx_tree.specs.declared.limits.TheConstants.{MAX_FILE_BYTES}
use Rattle.bx_tree.specs.declared.tree_file.TreeFile.{TreeFile}
use Rattle.dscript_ast.specs.FileTree.{FileTree}
use Rattle.dscript_ast.specs.declared.file.Form.TheVariants as forms
use Rattle.dscript_program.specs.declared.place.Place.{Place}
use Rattle.dscript_program.specs.declared.spec_fault.SpecKind.TheVariants as kinds
use Rattle.dscript_program.specs.SpecFaults.{FaultData}
use Rattle.dscript_parse.specs.Reading.{HasNoTokens, IsFile, IsNoFile}
use Rattle.dscript_names_workspace.specs.Finding.{fault_at}

-- the file is no longer than a file may be
abbrev pub IsShort : Atoms × List ℕ → Type 0
IsShort file = length file.1 ≤ MAX_FILE_BYTES

-- ## What they come to

-- the text of the file is a project file
abbrev pub IsWellFormed : Atoms × List ℕ → Type 0
IsWellFormed file = (tree : FileTree) × IsFile forms.Project file.1 tree

-- the text of the file has no tokens, or its tokens are no project file
abbrev pub IsIllFormed : Atoms × List ℕ → FaultData → Type 0
IsIllFormed file fault =
    ((place : Place) × HasNoTokens file.1 place × (fault ≡ fault_at kinds.Lex file.0 place))
    ⊎ ((place : Place) × IsNoFile forms.Project file.1 place × (fault ≡ fault_at kinds.Syntax file.0 place))

-- the fault is that of the first file that is ill-formed
abbrev pub IsFirstProjectFault : Files → FaultData → Type 0
IsFirstProjectFault [] fault = ⊥
IsFirstProjectFault (file ∷ files) fault = IsIllFormed file fault ⊎ (IsWellFormed file × IsFirstProjectFault files fault)

-- ## Files that are lent

-- files that others own, as contracts see them
abbrev pub lent_files : List (Bor TreeFile) → Files
lent_files = map (λ (file : Bor TreeFile). file_of file.now)
