-- What a condition that has been evaluated says of its local.
use Rattle.std.proofs.Common.{◌≡◌, ℕ, Bool, true, false, ◌⊎◌, [], ◌∷◌, Option, Some, None}
use Rattle.std.proofs.Common.{refl, sym, ap, inl, inr}
use Rattle.dscript_ast.specs.declared.operator.BinaryOp.{BinaryOp}
use Rattle.dscript_ast.specs.declared.operator.BinaryOp.TheVariants as binary
use Rattle.dscript_ast.specs.declared.operator.UnaryOp.TheVariants as unary
use Rattle.dscript_program.specs.BoundTree as tree
use Rattle.dscript_program.specs.BoundTree.{ExprData, OperandRow, no_operands, more_operands}
use Rattle.dscript_program.specs.declared.target.Target.TheVariants as targets
use Rattle.dscript_types_meaning.specs.Narrowing.{Told, local_named, told, told_by, told_if_named, with_outcome}

-- ## Conditions that say something

named_local : (e : ExprData) (n : ℕ) → local_named e ≡ Some n → e ≡ tree.Name (targets.Local n)
named_local (tree.Arrow f) n e = absurd cc
named_local (tree.Cond x a b) n e = absurd cc
named_local (tree.Chain a more) n e = absurd cc
named_local (tree.Unary ops a) n e = absurd cc
named_local (tree.Postfix a parts) n e = absurd cc
named_local (tree.Number k) n e = absurd cc
named_local (tree.Str text) n e = absurd cc
named_local tree.True n e = absurd cc
named_local tree.False n e = absurd cc
named_local tree.Undefined n e = absurd cc
named_local (tree.Template text holes) n e = absurd cc
named_local (tree.Path letter text holes) n e = absurd cc
named_local (tree.Elements es) n e = absurd cc
named_local (tree.Object ps) n e = absurd cc
named_local (tree.Name (targets.Local m)) n e = let same : m ≡ n = cc in ap (λ k. tree.Name (targets.Local k)) same
named_local (tree.Name (targets.Declared file decl)) n e = absurd cc
named_local (tree.Name (targets.Ambient call)) n e = absurd cc

-- a comparison with undefined, and the outcome at which the local is not undefined
abbrev ComparesWith : BinaryOp → ExprData → ℕ → Told → Type 0
ComparesWith op other n t =
    (other ≡ tree.Undefined) × ((op ≡ binary.Equal) × (t ≡ (n, false)) ⊎ (op ≡ binary.NotEqual) × (t ≡ (n, true)))

compares : (op : BinaryOp) (other : ExprData) (n : ℕ) (t : Told) → told_by op other n ≡ Some t → ComparesWith op other n t
compares binary.Or other n t e = absurd cc
compares binary.And other n t e = absurd cc
compares binary.Equal (tree.Arrow f) n t e = absurd cc
compares binary.Equal (tree.Cond x a b) n t e = absurd cc
compares binary.Equal (tree.Chain a more) n t e = absurd cc
compares binary.Equal (tree.Unary ops a) n t e = absurd cc
compares binary.Equal (tree.Postfix a parts) n t e = absurd cc
compares binary.Equal (tree.Number k) n t e = absurd cc
compares binary.Equal (tree.Str text) n t e = absurd cc
compares binary.Equal tree.True n t e = absurd cc
compares binary.Equal tree.False n t e = absurd cc
compares binary.Equal tree.Undefined n t e = let same : (n, false) ≡ t = cc in (refl, inl (refl, sym same))
compares binary.Equal (tree.Template text holes) n t e = absurd cc
compares binary.Equal (tree.Path letter text holes) n t e = absurd cc
compares binary.Equal (tree.Elements es) n t e = absurd cc
compares binary.Equal (tree.Object ps) n t e = absurd cc
compares binary.Equal (tree.Name target) n t e = absurd cc
compares binary.NotEqual (tree.Arrow f) n t e = absurd cc
compares binary.NotEqual (tree.Cond x a b) n t e = absurd cc
compares binary.NotEqual (tree.Chain a more) n t e = absurd cc
compares binary.NotEqual (tree.Unary ops a) n t e = absurd cc
compares binary.NotEqual (tree.Postfix a parts) n t e = absurd cc
compares binary.NotEqual (tree.Number k) n t e = absurd cc
compares binary.NotEqual (tree.Str text) n t e = absurd cc
compares binary.NotEqual tree.True n t e = absurd cc
compares binary.NotEqual tree.False n t e = absurd cc
compares binary.NotEqual tree.Undefined n t e = let same : (n, true) ≡ t = cc in (refl, inr (refl, sym same))
compares binary.NotEqual (tree.Template text holes) n t e = absurd cc
compares binary.NotEqual (tree.Path letter text holes) n t e = absurd cc
compares binary.NotEqual (tree.Elements es) n t e = absurd cc
compares binary.NotEqual (tree.Object ps) n t e = absurd cc
compares binary.NotEqual (tree.Name target) n t e = absurd cc
compares binary.Less other n t e = absurd cc
compares binary.LessOrEqual other n t e = absurd cc
compares binary.Greater other n t e = absurd cc
compares binary.GreaterOrEqual other n t e = absurd cc
compares binary.Add other n t e = absurd cc
compares binary.Subtract other n t e = absurd cc
compares binary.Multiply other n t e = absurd cc

-- the three conditions that say something of a local
abbrev pub Says : ExprData → Told → Type 0
Says e t =
    (n : ℕ) × ((e ≡ tree.Name (targets.Local n)) × (t ≡ (n, true))
    ⊎ ((e ≡ tree.Unary (unary.Not ∷ []) (tree.Name (targets.Local n))) × (t ≡ (n, false))
    ⊎ ((op : BinaryOp) × (e ≡ tree.Chain (tree.Name (targets.Local n)) (more_operands (tree.Operand op tree.Undefined) no_operands))
    × ((op ≡ binary.Equal) × (t ≡ (n, false)) ⊎ (op ≡ binary.NotEqual) × (t ≡ (n, true))))))

outcome_case
    : (outcome : Bool) (o : Option ℕ) (t : Told) → with_outcome outcome o ≡ Some t
    → (n : ℕ) × (o ≡ Some n) × (t ≡ (n, outcome))
outcome_case outcome None t e = absurd cc
outcome_case outcome (Some n) t e = let same : (n, outcome) ≡ t = cc in (n, refl, sym same)

chain_case
    : (op : BinaryOp) (other : ExprData) (o : Option ℕ) (t : Told) → told_if_named op other o ≡ Some t
    → (n : ℕ) × (o ≡ Some n) × ComparesWith op other n t
chain_case op other None t e = absurd cc
chain_case op other (Some n) t e = (n, refl, compares op other n t e)

pub says : (e : ExprData) (t : Told) → told e ≡ Some t → Says e t
unfolding told
says (tree.Arrow f) t e = absurd cc
says (tree.Cond x a b) t e = absurd cc
says (tree.Chain a no_operands) t e = absurd cc
says (tree.Chain a (more_operands (tree.Operand op other) (more_operands x more))) t e = absurd cc
says (tree.Chain a (more_operands (tree.Operand op other) no_operands)) t e =
    let r = chain_case op other (local_named a) t e in
    let named = named_local a r.0 r.1 in
    let whole : tree.Chain a (more_operands (tree.Operand op other) no_operands)
    ≡ tree.Chain (tree.Name (targets.Local r.0)) (more_operands (tree.Operand op tree.Undefined) no_operands)
    = cc (named, r.2.0) in
    (r.0, inr (inr (op, whole, r.2.1)))
says (tree.Unary [] a) t e = absurd cc
says (tree.Unary (unary.Negate ∷ ops) a) t e = absurd cc
says (tree.Unary (unary.Not ∷ op ∷ ops) a) t e = absurd cc
says (tree.Unary (unary.Not ∷ []) a) t e =
    let r = outcome_case false (local_named a) t e in
    (r.0, inr (inl (ap (tree.Unary (unary.Not ∷ [])) (named_local a r.0 r.1), r.2)))
says (tree.Postfix a parts) t e = absurd cc
says (tree.Number k) t e = absurd cc
says (tree.Str text) t e = absurd cc
says tree.True t e = absurd cc
says tree.False t e = absurd cc
says tree.Undefined t e = absurd cc
says (tree.Template text holes) t e = absurd cc
says (tree.Path letter text holes) t e = absurd cc
says (tree.Elements es) t e = absurd cc
says (tree.Object ps) t e = absurd cc
says (tree.Name target) t e =
    let r = outcome_case true (local_named (tree.Name target)) t e in
    (r.0, inl (named_local (tree.Name target) r.0 r.1, r.2))
