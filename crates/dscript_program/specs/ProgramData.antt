-- Programs, without where they lie in memory.
use Rattle.std.specs.Prelude.{ℕ, List, Option}
use Rattle.bx_tree.specs.Paths.{Atoms}
use Rattle.dscript_ast.specs.TypeTree.{TypeTree, MemberTree}
use Rattle.dscript_ast.specs.ExprTree.{ParamTree}
use Rattle.dscript_ast.specs.declared.file.Mark.{Mark}
use Rattle.dscript_program.specs.BoundTree.{ExprData, BodyData}

-- a dotted name: its parts, from the left
abbrev pub Dotted : Type 0
Dotted = List (List ℕ)

-- a function: the number of its file, the locals from outside that its body names, each once and in the order
-- in which they first occur, its parameters, the number of its first local, how many locals it has, and its
-- body
pub record FunctionData : Type 0 where
  pub file : ℕ
  pub captured : List ℕ
  pub params : List ParamTree
  pub first_local : ℕ
  pub local_count : ℕ
  pub body : BodyData

-- what is declared; a function is its number in the table of functions
pub data KindData : Type 0 where
  Const : Option TypeTree → ExprData → KindData
  Function : List (List ℕ) → Option TypeTree → ℕ → KindData
  Interface : List (List ℕ) → List TypeTree → List MemberTree → KindData
  TypeAlias : List (List ℕ) → TypeTree → KindData

-- a declaration with its dotted name and its mark
pub record DeclData : Type 0 where
  pub name : Dotted
  pub mark : Mark
  pub kind : KindData

-- a file: its path, the number of its module, and its declarations in the order of the text
pub record FileData : Type 0 where
  pub path : Atoms
  pub module_number : ℕ
  pub decls : List DeclData

-- a program: its files by path, and the table of functions
pub record ProgramData : Type 0 where
  pub files : List FileData
  pub functions : List FunctionData
