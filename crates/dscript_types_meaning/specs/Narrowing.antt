-- What conditions say of locals.
use Rattle.std.specs.Prelude.{ℕ, ◌&&◌, Bool, true, false, if◌then◌else◌, [], ◌∷◌, Option, Some, None}
use Rattle.std.specs.Bool.{beq}
use Rattle.std.specs.Option.{option_map}
use Rattle.dscript_ast.specs.declared.operator.BinaryOp.{BinaryOp}
use Rattle.dscript_ast.specs.declared.operator.BinaryOp.TheVariants as binary
use Rattle.dscript_ast.specs.declared.operator.UnaryOp.TheVariants as unary
use Rattle.dscript_program.specs.BoundTree as tree
use Rattle.dscript_program.specs.BoundTree.{ExprData, OperandRow, no_operands, more_operands}
use Rattle.dscript_program.specs.declared.target.Target.TheVariants as targets
use Rattle.dscript_types_meaning.specs.Types.{TypeData}
use Rattle.dscript_types_meaning.specs.Contexts.{Captured, Context, Fixed, Hold, Local, Variable, local_at}
use Rattle.dscript_types_meaning.specs.Contexts.{with_local}
use Rattle.dscript_types_meaning.specs.Unions.{without_undefined}

-- a local, and the outcome of the condition under which it does not hold undefined
abbrev pub Told : Type 0
Told = ℕ × Bool

abbrev pub local_named : ExprData → Option ℕ
local_named (tree.Name (targets.Local n)) = Some n
local_named _ = None

-- `=== undefined` says so where it is false, and `!== undefined` where it is true
abbrev pub told_by : BinaryOp → ExprData → ℕ → Option Told
told_by binary.Equal tree.Undefined n = Some (n, false)
told_by binary.NotEqual tree.Undefined n = Some (n, true)
told_by _ _ n = None

abbrev pub told_if_named : BinaryOp → ExprData → Option ℕ → Option Told
told_if_named op e None = None
told_if_named op e (Some n) = told_by op e n

abbrev pub with_outcome : Bool → Option ℕ → Option Told
with_outcome outcome named = option_map (λ n. (n, outcome)) named

-- A condition that is a local, `!` and a local, or a local that is compared with undefined. No other says anything.
unfoldable pub told : ExprData → Option Told
told (tree.Name target) = with_outcome true (local_named (tree.Name target))
told (tree.Unary (unary.Not ∷ []) e) = with_outcome false (local_named e)
told (tree.Chain e (tree.more_operands (tree.Operand op other) tree.no_operands)) =
    told_if_named op other (local_named e)
told _ = None

-- a local without undefined; only one that always holds its first value is narrowed
abbrev pub narrow_held : ℕ → Option TypeData → Hold → Context → Context
narrow_held n t Fixed c = with_local n (option_map without_undefined t) Fixed c
narrow_held n t Variable c = c
narrow_held n t Captured c = c

abbrev pub narrow_local : ℕ → Option Local → Context → Context
narrow_local n None c = c
narrow_local n (Some l) c = narrow_held n l.type_data l.hold c

abbrev pub narrow_told : Bool → Option Told → Context → Context
narrow_told outcome None c = c
narrow_told outcome (Some t) c = elim (beq outcome t.1) [
  | true ↦ narrow_local t.0 (local_at c t.0) c
  | false ↦ c
]

-- the context in which the condition has come out so
unfoldable pub narrowed : Bool → ExprData → Context → Context
narrowed outcome condition c = narrow_told outcome (told condition) c

-- ## Chains

abbrev pub is_and : BinaryOp → Bool
is_and binary.And = true
is_and _ = false

abbrev pub is_or : BinaryOp → Bool
is_or binary.Or = true
is_or _ = false

-- whether each operator of a chain is of these
abbrev pub each_operator : (BinaryOp → Bool) → OperandRow → Bool
each_operator test no_operands = true
each_operator test (more_operands (tree.Operand op e) more) = test op && each_operator test more

-- How all operands before another have come out, where that one is evaluated: true in a chain of `&&` alone, and
-- false in one of `||` alone. A chain of other operators says nothing.
abbrev pub outcome_of : OperandRow → Option Bool
outcome_of more = if each_operator is_and more then Some true else
    (if each_operator is_or more then Some false else None)

-- the context of the operand that follows another
abbrev pub following : Option Bool → ExprData → Context → Context
following None left c = c
following (Some outcome) left c = narrowed outcome left c
