-- Literals and names as expressions.
use Rattle.dscript_ast.specs.ExprTree as tree
use Rattle.dscript_ast.specs.ExprTree.{ExprTree}
use Rattle.std.specs.Prelude.{List, None, Option, Some, ℕ}

-- the value of a string
abbrev pub string_of : ExprTree → Option (List ℕ)
string_of (tree.Str text) = Some text
string_of _ = None

abbrev pub name_of : ExprTree → Option (List ℕ)
name_of (tree.Name x) = Some x
name_of _ = None
