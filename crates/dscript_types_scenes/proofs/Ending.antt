-- Statements whose ends may be reached, those in which nothing is returned, and operators, one after another.
use Rattle.std.proofs.Common.{◌&&◌, ◌+◌, ◌<◌, ◌||◌, ◌∙◌, ◌≡◌, ◌≤◌, ℕ, Bool, List, ap, drop, false, get_or, length, map, sym, true}
use Rattle.dscript_ast.specs.declared.operator.BinaryOp.{BinaryOp}
use Rattle.dscript_program.specs.BoundTree.{ExprData, to_operands, to_stmts}
use Rattle.dscript_program.specs.BoundTree as tree
use Rattle.dscript_program.specs.Views.{operand_data, stmt_data}
use Rattle.dscript_program.specs.declared.bound.BoundOperand.{BoundOperand}
use Rattle.dscript_program.specs.declared.bound.BoundStmt.{BoundStmt}
use Rattle.dscript_types_meaning.specs.Bodies.{all_pass, passes, returns_nothing, some_return_nothing}
use Rattle.dscript_types_meaning.specs.Narrowing.{each_operator}
use Rattle.dscript_types_notes.proofs.Meant.{drop_all, drop_next}

module _ (ss : List BoundStmt) where
  abbrev rest_pass : ℕ → Bool
  rest_pass i = all_pass (to_stmts (map stmt_data (drop i ss)))

  -- whether the rest passes is whether all do
  abbrev pub PassGoes : ℕ → Type 0
  PassGoes i = rest_pass i ≡ all_pass (to_stmts (map stmt_data ss))

  abbrev rest_return : ℕ → Bool
  rest_return i = some_return_nothing (to_stmts (map stmt_data (drop i ss)))

  abbrev pub ReturnGoes : ℕ → Type 0
  ReturnGoes i = rest_return i ≡ some_return_nothing (to_stmts (map stmt_data ss))

  module _ (i : ℕ) (s : BoundStmt) (l : i < length ss) (e : s ≡ get_or ss i s) where
    unfolded_pass : rest_pass i ≡ (passes (stmt_data s) && rest_pass (i + 1))
    unfolding all_pass
    unfolded_pass = ap (λ xs. all_pass (to_stmts (map stmt_data xs))) (drop_next ss i s l e)

    pub pass_goes : passes (stmt_data s) ≡ true → PassGoes i → PassGoes (i + 1)
    pass_goes passed goes = sym (unfolded_pass ∙ ap (λ b. b && rest_pass (i + 1)) passed) ∙ goes

    pub pass_stops : passes (stmt_data s) ≡ false → PassGoes i → false ≡ all_pass (to_stmts (map stmt_data ss))
    pass_stops fails goes = sym (unfolded_pass ∙ ap (λ b. b && rest_pass (i + 1)) fails) ∙ goes

    unfolded_return : rest_return i ≡ (returns_nothing (stmt_data s) || rest_return (i + 1))
    unfolding some_return_nothing
    unfolded_return = ap (λ xs. some_return_nothing (to_stmts (map stmt_data xs))) (drop_next ss i s l e)

    pub return_goes : returns_nothing (stmt_data s) ≡ false → ReturnGoes i → ReturnGoes (i + 1)
    return_goes fails goes = sym (unfolded_return ∙ ap (λ b. b || rest_return (i + 1)) fails) ∙ goes

    pub return_stops : returns_nothing (stmt_data s) ≡ true → ReturnGoes i → true ≡ some_return_nothing (to_stmts (map stmt_data ss))
    return_stops passed goes = sym (unfolded_return ∙ ap (λ b. b || rest_return (i + 1)) passed) ∙ goes

  pub pass_ends : (i : ℕ) → length ss ≤ i → PassGoes i → true ≡ all_pass (to_stmts (map stmt_data ss))
  unfolding all_pass
  pass_ends i l goes = sym (ap (λ xs. all_pass (to_stmts (map stmt_data xs))) (drop_all ss i l)) ∙ goes

  pub return_ends : (i : ℕ) → length ss ≤ i → ReturnGoes i → false ≡ some_return_nothing (to_stmts (map stmt_data ss))
  unfolding some_return_nothing
  return_ends i l goes = sym (ap (λ xs. some_return_nothing (to_stmts (map stmt_data xs))) (drop_all ss i l)) ∙ goes

-- ## Operators

module _ (test : BinaryOp → Bool) (os : List BoundOperand) where
  abbrev rest_are : ℕ → Bool
  rest_are i = each_operator test (to_operands (map operand_data (drop i os)))

  -- whether the rest are such operators is whether all are
  abbrev pub EachGoes : ℕ → Type 0
  EachGoes i = rest_are i ≡ each_operator test (to_operands (map operand_data os))

  module _ (i : ℕ) (o : BoundOperand) (l : i < length os) (e : o ≡ get_or os i o) (op : BinaryOp) (value : ExprData)
      (is : operand_data o ≡ tree.Operand op value) where
    unfolded_each : rest_are i ≡ (test op && rest_are (i + 1))
    unfolded_each =
        ap (λ xs. each_operator test (to_operands (map operand_data xs))) (drop_next os i o l e)
        ∙ ap (λ d. each_operator test (tree.more_operands d (to_operands (map operand_data (drop (i + 1) os))))) is

    pub each_goes : test op ≡ true → EachGoes i → EachGoes (i + 1)
    each_goes passed goes = sym (unfolded_each ∙ ap (λ b. b && rest_are (i + 1)) passed) ∙ goes

    pub each_stops : test op ≡ false → EachGoes i → false ≡ each_operator test (to_operands (map operand_data os))
    each_stops fails goes = sym (unfolded_each ∙ ap (λ b. b && rest_are (i + 1)) fails) ∙ goes

  pub each_ends : (i : ℕ) → length os ≤ i → EachGoes i → true ≡ each_operator test (to_operands (map operand_data os))
  each_ends i l goes = sym (ap (λ xs. each_operator test (to_operands (map operand_data xs))) (drop_all os i l)) ∙ goes
