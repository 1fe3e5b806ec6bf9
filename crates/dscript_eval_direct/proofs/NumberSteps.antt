-- What numbers and comparisons give at once, by what their parts give.
use Rattle.std.proofs.Common.{◌≡◌, ℕ, ◌-◌, ◌≤◌, Bool, true, false, List, [], ◌∷◌, length, map, IfSome, Option, Some, None, Ok, ap, sym, subst, ◌∙◌, arith}
use Rattle.dscript_ast.specs.declared.operator.BinaryOp.{BinaryOp}
use Rattle.dscript_program.specs.BoundTree as tree
use Rattle.dscript_program.specs.BoundTree.{ExprData, OperandData, OperandRow, no_operands, more_operands, to_operands}
use Rattle.dscript_program.specs.Views.{operand_data}
use Rattle.dscript_program.specs.declared.bound.BoundOperand.{BoundOperand}
use Rattle.dscript_value.specs.Plain as plain
use Rattle.dscript_value.specs.Plain.{Plain}
use Rattle.dscript_eval_operators.specs.Operators.{is_settled, operated}
use Rattle.dscript_eval_operators.specs.Truth.{is_true}
use Rattle.dscript_eval_meaning.specs.Expressions.{operator_count}
use Rattle.dscript_eval_direct.specs.Now.{GoesAtOnce, IsAtOnce, Knowledge}
use Rattle.dscript_eval_direct.proofs.Steps.{chain_gives, cond_gives, no_more, one_more}

pub flag_is : (b flag : Bool) → b ≡ flag → is_true (plain.Flag b) ≡ flag
unfolding is_true
flag_is b flag is = is

module _ (known : Knowledge) (A : Type 0) (f : A → Plain) where
  pub same_expr
      : (r : Option A) (e d : ExprData) (left later : ℕ) → e ≡ d
      → IfSome r (λ y. IsAtOnce known d left (f y) later) → IfSome r (λ y. IsAtOnce known e left (f y) later)
  same_expr (Some y) e d left later is now =
      let P : ExprData → Type 0 = λ a. IsAtOnce known a left (f y) later in subst P (sym is) now
  same_expr None e d left later is now = now

  pub chain_gets
      : (r : Option A) (e : ExprData) (more : OperandRow) (x : Plain) (left n after mid later : ℕ)
      → operator_count more ≡ n → n ≤ left → after ≡ left - n → IsAtOnce known e after x mid
      → IfSome r (λ y. GoesAtOnce known more x mid (f y) later)
      → IfSome r (λ y. IsAtOnce known (tree.Chain e more) left (f y) later)
  chain_gets (Some y) e more x left n after mid later count le is head rest =
      let P : ℕ → Type 0 = λ k. IsAtOnce known e k x mid in
      let Q : ℕ → Type 0 = λ k. k ≤ left in
      chain_gives known e more x (f y) left mid later (subst Q (sym count) le)
      (subst P (is ∙ ap (λ k. left - k) (sym count)) head) rest
  chain_gets None e more x left n after mid later count le is head rest = rest

  -- a chain of one operator
  pub one_gets
      : (r : Option A) (e : ExprData) (os others : List BoundOperand) (o : BoundOperand) (x : Plain)
      → (left after mid later : ℕ) → os ≡ o ∷ others → length others ≡ 0 → 1 ≤ left → after ≡ left - 1
      → IsAtOnce known e after x mid
      → IfSome r (λ y. (more : OperandRow) (w : Plain) (end : ℕ) → GoesAtOnce known more (f y) later w end
      → GoesAtOnce known (more_operands (operand_data o) more) x mid w end)
      → IfSome r (λ y. IsAtOnce known (tree.Chain e (to_operands (map operand_data os))) left (f y) later)
  one_gets (Some y) e os [] o x left after mid later is none le spent head rest =
      let P : List BoundOperand → Type 0 =
      λ l. IsAtOnce known (tree.Chain e (to_operands (map operand_data l))) left (f y) later in
      let Q : ℕ → Type 0 = λ k. IsAtOnce known e k x mid in
      subst P (sym is)
      (chain_gives known e (more_operands (operand_data o) no_operands) x (f y) left mid later le (subst Q spent head)
      (rest no_operands (f y) later (no_more known (f y) later)))
  one_gets (Some y) e os (p ∷ others) o x left after mid later is none le spent head rest =
      absurd (omega (arith, none))
  one_gets None e os others o x left after mid later is none le spent head rest = rest

  pub operand_gets
      : (r : Option A) (o : OperandData) (op : BinaryOp) (e : ExprData) (x y : Plain) (left mid : ℕ)
      → o ≡ tree.Operand op e → IsAtOnce known e left y mid
      → IfSome r (λ z. is_settled op x ≡ false) → IfSome r (λ z. operated op x y ≡ Ok (f z))
      → IfSome r (λ z. (more : OperandRow) (w : Plain) (later : ℕ) → GoesAtOnce known more (f z) mid w later
      → GoesAtOnce known (more_operands o more) x left w later)
  operand_gets (Some z) o op e x y left mid o_is right never is = λ more w later rest.
      one_more known o op e more x y (f z) w left mid later o_is never right is rest
  operand_gets None o op e x y left mid o_is right never is = is

  pub then_gets
      : (r : Option A) (c a b : ExprData) (x : Plain) (left after mid later : ℕ)
      → 1 ≤ left → after ≡ left - 1 → IsAtOnce known c after x mid → is_true x ≡ true
      → IfSome r (λ y. IsAtOnce known a mid (f y) later)
      → IfSome r (λ y. IsAtOnce known (tree.Cond c a b) left (f y) later)
  then_gets (Some y) c a b x left after mid later le is head holds rest =
      let P : ℕ → Type 0 = λ k. IsAtOnce known c k x mid in
      cond_gives known c a b true x (f y) left mid later le (subst P is head) holds rest
  then_gets None c a b x left after mid later le is head holds rest = rest

  pub other_gets
      : (r : Option A) (c a b : ExprData) (x : Plain) (left after mid later : ℕ)
      → 1 ≤ left → after ≡ left - 1 → IsAtOnce known c after x mid → is_true x ≡ false
      → IfSome r (λ y. IsAtOnce known b mid (f y) later)
      → IfSome r (λ y. IsAtOnce known (tree.Cond c a b) left (f y) later)
  other_gets (Some y) c a b x left after mid later le is head never rest =
      let P : ℕ → Type 0 = λ k. IsAtOnce known c k x mid in
      cond_gives known c a b false x (f y) left mid later le (subst P is head) never rest
  other_gets None c a b x left after mid later le is head never rest = rest
