-- Declarations and files as trees, without where they lie in memory.
use Rattle.std.specs.Prelude.{ℕ, Option, List, [], ◌∷◌}
use Rattle.dscript_ast.specs.TypeTree.{TypeTree, MemberTree}
use Rattle.dscript_ast.specs.ExprTree.{ExprTree, StmtTree, ParamTree}
use Rattle.dscript_ast.specs.declared.file.Mark.{Mark}

mutual
  -- a declaration with its mark
  pub data MarkedTree : Type 0 where
    Marked : Mark → DeclTree → MarkedTree

  pub data DeclTree : Type 0 where
    Const : List ℕ → Option TypeTree → ExprTree → DeclTree
    Function : List ℕ → List (List ℕ) → List ParamTree → Option TypeTree → List StmtTree → DeclTree
    Namespace : List (List ℕ) → MarkedTrees → DeclTree
    Interface : List ℕ → List (List ℕ) → List TypeTree → List MemberTree → DeclTree
    TypeAlias : List ℕ → List (List ℕ) → TypeTree → DeclTree

  -- a list of these
  pub data MarkedTrees : Type 0 where
    no_marked : MarkedTrees
    more_marked : MarkedTree → MarkedTrees → MarkedTrees

abbrev pub marked_of : MarkedTrees → List MarkedTree
marked_of no_marked = []
marked_of (more_marked x xs) = x ∷ marked_of xs

abbrev pub to_marked : List MarkedTree → MarkedTrees
to_marked [] = no_marked
to_marked (x ∷ xs) = more_marked x (to_marked xs)

-- a name that is imported, and the name that it gets where that is another
pub record ImportTree : Type 0 where
  pub name : List ℕ
  pub alias : Option (List ℕ)

pub data ItemTree : Type 0 where
  ImportAll : List ℕ → List ℕ → ItemTree
  ImportNames : List ImportTree → List ℕ → ItemTree
  Declared : MarkedTree → ItemTree
  Empty : ItemTree

pub data FileTree : Type 0 where
  Project : List ItemTree → FileTree
  Config : ExprTree → FileTree
  Module : ExprTree → FileTree
