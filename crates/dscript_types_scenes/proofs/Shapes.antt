-- What the forms of expressions say.
use Rattle.std.proofs.Common.{◌∙◌, ◌∷◌, ◌≡◌, ℕ, Bool, List, None, Option, Some, [], ap, cond, false, length, map, refl, sym, true}
use Rattle.std.specs.Option.{option_map}
use Rattle.bx_tree.proofs.Lists.{none_left}
use Rattle.dscript_ast.specs.declared.operator.BinaryOp.{BinaryOp}
use Rattle.dscript_ast.specs.declared.operator.BinaryOp.TheVariants as binary
use Rattle.dscript_ast.specs.declared.operator.UnaryOp.{UnaryOp}
use Rattle.dscript_ast.specs.declared.operator.UnaryOp.TheVariants as unary
use Rattle.dscript_program.specs.BoundTree as tree
use Rattle.dscript_program.specs.BoundTree.{ExprData, OperandRow, to_operands}
use Rattle.dscript_program.specs.Views.{operand_data}
use Rattle.dscript_program.specs.declared.bound.BoundOperand.{BoundOperand}
use Rattle.dscript_types_meaning.specs.Narrowing.{Told, local_named, told, told_by, told_if_named, with_outcome}
use Rattle.dscript_types_scenes.specs.Shapes.{Arrow, Chain, Name, Other, ShapeData, Unary, Undefined, is_negation, is_undefined, outcome_by, shape_of}

-- ## Locals

abbrev pub local_shaped : ShapeData → Option ℕ
local_shaped (Arrow number) = None
local_shaped (Name target) = local_named (tree.Name target)
local_shaped Undefined = None
local_shaped (Unary operators operand) = None
local_shaped (Chain first more) = None
local_shaped Other = None

pub local_by_shape : (e : ExprData) → local_shaped (shape_of e) ≡ local_named e
local_by_shape (tree.Name target) = refl
local_by_shape _ = refl

-- ## Conditions

abbrev pub told_shaped : ShapeData → Option Told
told_shaped (Arrow number) = None
told_shaped (Name target) = with_outcome true (local_named (tree.Name target))
told_shaped Undefined = None
told_shaped (Unary operators operand) = told (tree.Unary operators operand)
told_shaped (Chain first more) = told (tree.Chain first more)
told_shaped Other = None

pub told_by_shape : (e : ExprData) → told_shaped (shape_of e) ≡ told e
unfolding told
told_by_shape (tree.Unary operators operand) = refl
told_by_shape (tree.Chain first more) = refl
told_by_shape _ = refl

-- `!` before a local
told_negated
    : (ops : List UnaryOp) (e : ExprData) → told (tree.Unary ops e) ≡ cond (is_negation ops) (with_outcome false (local_named e)) None
unfolding told
told_negated [] e = refl
told_negated (unary.Not ∷ []) e = refl
told_negated (unary.Not ∷ op ∷ ops) e = refl
told_negated (unary.Negate ∷ ops) e = refl

pub negation_tells : (ops : List UnaryOp) (e : ExprData) (test : Bool) → test ≡ is_negation ops → test ≡ true
    → with_outcome false (local_named e) ≡ told (tree.Unary ops e)
negation_tells ops e test is passed =
    sym (told_negated ops e ∙ ap (λ b. cond b (with_outcome false (local_named e)) None) (sym is ∙ passed))

pub others_tell_nothing : (ops : List UnaryOp) (e : ExprData) (test : Bool) → test ≡ is_negation ops → test ≡ false
    → None ≡ told (tree.Unary ops e)
others_tell_nothing ops e test is fails =
    sym (told_negated ops e ∙ ap (λ b. cond b (with_outcome false (local_named e)) None) (sym is ∙ fails))

-- a chain with one operand
pub no_operand_tells : (e : ExprData) → None ≡ told (tree.Chain e tree.no_operands)
unfolding told
no_operand_tells e = refl

pub one_operand_tells
    : (e : ExprData) (op : BinaryOp) (value : ExprData)
    → told_if_named op value (local_named e) ≡ told (tree.Chain e (tree.more_operands (tree.Operand op value) tree.no_operands))
unfolding told
one_operand_tells e op value = refl

pub more_tell_nothing
    : (e : ExprData) (o p : tree.OperandData) (more : OperandRow)
    → None ≡ told (tree.Chain e (tree.more_operands o (tree.more_operands p more)))
unfolding told
more_tell_nothing e (tree.Operand op value) p more = refl

-- ## Comparisons with undefined

pub told_compared
    : (op : BinaryOp) (e : ExprData) (n : ℕ)
    → told_by op e n ≡ cond (is_undefined (shape_of e)) (option_map (λ (outcome : Bool). (n, outcome)) (outcome_by op)) None
told_compared binary.Equal tree.Undefined n = refl
told_compared binary.NotEqual tree.Undefined n = refl
told_compared _ tree.Undefined n = refl
told_compared binary.Equal _ n = refl
told_compared binary.NotEqual _ n = refl
told_compared _ _ n = refl

module _ (op : BinaryOp) (e : ExprData) (n : ℕ) (named : Option ℕ) (some : named ≡ Some n) (test : Bool) (is : test ≡ is_undefined (shape_of e)) where
  by_test : (b : Bool) → test ≡ b
      → told_if_named op e named ≡ cond b (option_map (λ (outcome : Bool). (n, outcome)) (outcome_by op)) None
  by_test b e_b =
      ap (told_if_named op e) some ∙ told_compared op e n
      ∙ ap (λ (q : Bool). cond q (option_map (λ (outcome : Bool). (n, outcome)) (outcome_by op)) None) (sym is ∙ e_b)

  pub compared_with_another : test ≡ false → None ≡ told_if_named op e named
  compared_with_another fails = sym (by_test false fails)

  pub compared_with_undefined
      : (o : Option Bool) → test ≡ true → o ≡ outcome_by op → option_map (λ (outcome : Bool). (n, outcome)) o ≡ told_if_named op e named
  compared_with_undefined o passed by = ap (option_map (λ (outcome : Bool). (n, outcome))) by ∙ sym (by_test true passed)

-- ## Rows

module _ (e : ExprData) (more others : List BoundOperand) (o : BoundOperand) (split : more ≡ o ∷ others) where
  abbrev chain_tells : List BoundOperand → Option Told
  chain_tells os = told (tree.Chain e (to_operands (map operand_data os)))

  pub many_tell_nothing : (length others ≡ 0 → ⊥) → None ≡ chain_tells more
  many_tell_nothing some = by_rest others some ∙ ap chain_tells (sym split)
    where
      by_rest : (rest : List BoundOperand) → (length rest ≡ 0 → ⊥) → None ≡ chain_tells (o ∷ rest)
      by_rest [] some = absurd (some refl)
      by_rest (p ∷ rest) some = more_tell_nothing e (operand_data o) (operand_data p) (to_operands (map operand_data rest))

  pub one_tells
      : (op : BinaryOp) (value : ExprData) → length others ≡ 0 → operand_data o ≡ tree.Operand op value
      → told_if_named op value (local_named e) ≡ chain_tells more
  one_tells op value none is =
      one_operand_tells e op value
      ∙ ap (λ d. told (tree.Chain e (tree.more_operands d tree.no_operands))) (sym is)
      ∙ ap chain_tells (sym (split ∙ ap (λ os. o ∷ os) (none_left others none)))

module _ (ops rest : List UnaryOp) (op : UnaryOp) (split : ops ≡ op ∷ rest) where
  pub not_alone : (length rest ≡ 0 → ⊥) → false ≡ is_negation ops
  not_alone some = by_rest op rest some ∙ ap is_negation (sym split)
    where
      by_rest : (o : UnaryOp) (more : List UnaryOp) → (length more ≡ 0 → ⊥) → false ≡ is_negation (o ∷ more)
      by_rest o [] some = absurd (some refl)
      by_rest unary.Not (p ∷ more) some = refl
      by_rest unary.Negate (p ∷ more) some = refl

  alone : length rest ≡ 0 → ops ≡ op ∷ []
  alone none = split ∙ ap (λ os. op ∷ os) (none_left rest none)

  pub alone_negates : length rest ≡ 0 → op ≡ unary.Not → true ≡ is_negation ops
  alone_negates none is = ap (λ o. is_negation (o ∷ [])) (sym is) ∙ ap is_negation (sym (alone none))

  pub alone_subtracts : length rest ≡ 0 → op ≡ unary.Negate → false ≡ is_negation ops
  alone_subtracts none is = ap (λ o. is_negation (o ∷ [])) (sym is) ∙ ap is_negation (sym (alone none))
