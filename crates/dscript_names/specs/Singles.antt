-- What a walk that looks for repeated names comes to.
use Rattle.std.specs.Prelude.{◌≡◌, ℕ, Bool, ◌||◌, List, [], ◌∷◌, Result, IfOk}
use Rattle.dscript_ast.specs.ExprTree as tree
use Rattle.dscript_ast.specs.ExprTree.{ElementTree, ExprTree, HoleTree, OperandTree}
use Rattle.dscript_program.specs.ProgramData.{Dotted}
use Rattle.dscript_names.specs.declared.repeats.Repeats.{Repeats}

-- a name by itself, as a dotted name
abbrev pub single : List ℕ → Dotted
single x = x ∷ []

-- unless memory runs out, a repeated name is found if there was one before or there is one in this part
abbrev pub Finds : {T E : Type 0} → Repeats → Repeats → Result T E → Bool → Type 0
Finds before after result repeats = IfOk result (λ _. after.found ≡ (before.found || repeats))

-- the expressions in parts of lists
abbrev pub operand_value : OperandTree → ExprTree
operand_value (tree.Operand op e) = e

abbrev pub element_value : ElementTree → ExprTree
element_value (tree.Element spread e) = e

abbrev pub hole_value : HoleTree → ExprTree
hole_value (tree.Hole e text) = e
