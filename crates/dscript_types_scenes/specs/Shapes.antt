-- The forms of expressions that say more than their type: where they are conditions, operands or callbacks.
use Rattle.std.specs.Prelude.{◌∷◌, ℕ, Bool, List, None, Option, Some, [], false, map, true}
use Rattle.dscript_ast.specs.declared.operator.BinaryOp.{BinaryOp}
use Rattle.dscript_ast.specs.declared.operator.BinaryOp.TheVariants as binary
use Rattle.dscript_ast.specs.declared.operator.UnaryOp.{UnaryOp}
use Rattle.dscript_ast.specs.declared.operator.UnaryOp.TheVariants as unary
use Rattle.dscript_program.specs.BoundTree.{ExprData, OperandRow, to_operands}
use Rattle.dscript_program.specs.BoundTree as tree
use Rattle.dscript_program.specs.Views.{expr_data, operand_data}
use Rattle.dscript_program.specs.declared.target.Target.{Target}
use Rattle.dscript_types_scenes.specs.declared.nodes.Shape.{Shape}
use Rattle.dscript_types_scenes.specs.declared.nodes.Shape.TheVariants as shapes

pub data ShapeData : Type 0 where
  Arrow : ℕ → ShapeData
  Name : Target → ShapeData
  Undefined : ShapeData
  Unary : List UnaryOp → ExprData → ShapeData
  Chain : ExprData → OperandRow → ShapeData
  Other : ShapeData

abbrev pub shape_data : Shape → ShapeData
shape_data (shapes.Arrow number) = Arrow number
shape_data (shapes.Name target) = Name target
shape_data shapes.Undefined = Undefined
shape_data (shapes.Unary operators operand) = Unary operators.now (expr_data operand.now)
shape_data (shapes.Chain first more) = Chain (expr_data first.now) (to_operands (map operand_data more.now))
shape_data shapes.Other = Other

abbrev pub shape_of : ExprData → ShapeData
shape_of (tree.Arrow number) = Arrow number
shape_of (tree.Name target) = Name target
shape_of tree.Undefined = Undefined
shape_of (tree.Unary operators operand) = Unary operators operand
shape_of (tree.Chain first more) = Chain first more
shape_of (tree.Cond x a b) = Other
shape_of (tree.Postfix e parts) = Other
shape_of (tree.Number n) = Other
shape_of (tree.Str text) = Other
shape_of tree.True = Other
shape_of tree.False = Other
shape_of (tree.Template text holes) = Other
shape_of (tree.Path letter text holes) = Other
shape_of (tree.Elements es) = Other
shape_of (tree.Object ps) = Other

-- `!` alone
abbrev pub is_negation : List UnaryOp → Bool
is_negation [] = false
is_negation (unary.Not ∷ []) = true
is_negation (unary.Not ∷ op ∷ ops) = false
is_negation (unary.Negate ∷ ops) = false

abbrev pub is_undefined : ShapeData → Bool
is_undefined (Arrow number) = false
is_undefined (Name target) = false
is_undefined Undefined = true
is_undefined (Unary operators operand) = false
is_undefined (Chain first more) = false
is_undefined Other = false

-- the outcome of a comparison with `undefined` under which the other side is not undefined
abbrev pub outcome_by : BinaryOp → Option Bool
outcome_by binary.Equal = Some false
outcome_by binary.NotEqual = Some true
outcome_by _ = None
