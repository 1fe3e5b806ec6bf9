-- Chains of operators, level by level.
use Rattle.std.proofs.Common.{◌≡◌, ℕ, zero, suc, ◌+◌, ◌-◌, ◌≤◌, true, false, nat_eq, List, length, None, refl, sym, ◌∙◌, subst, arith}
use Rattle.std.proofs.lemmas.Bool.{eq-eqb, ne_eqb}
use Rattle.dscript_lex.specs.declared.token.TokenKind.{TokenKind}
use Rattle.dscript_ast.specs.ExprTree.{ExprTree}
use Rattle.dscript_ast.specs.Views.{expr_tree}
use Rattle.dscript_ast.specs.declared.expr.Expr.{Expr}
use Rattle.dscript_grammar.specs.Reading.{got, read_many}
use Rattle.dscript_grammar.specs.ExprReading.{as_chain, chain_level, operator_precedence, read_chain, read_unary}
use Rattle.dscript_grammar.proofs.ExprComplete.{pick_false}
use Rattle.dscript_parse_exprs.specs.Levels.{at_depth, read_level}
use Rattle.dscript_parse_tokens.specs.Gives.{kinds, IsRead}
use Rattle.dscript_parse_tokens.specs.declared.parsed.Parsed.{Parsed}
use Rattle.dscript_parse_tokens.proofs.Loops.{then_some, then_none}

pub is_level : (c : ℕ) {a b : ℕ} → a ≡ b → a ≡ c → nat_eq b c ≡ true
is_level c {b = b} e t = eq-eqb b c (sym e ∙ t)

pub not_level : (c : ℕ) {a b : ℕ} → a ≡ b → (a ≡ c → ⊥) → nat_eq b c ≡ false
not_level c {b = b} e t = ne_eqb b c (λ x. t (e ∙ x))

module _ (depth : ℕ) (ts : List TokenKind) where
  pub unary_first : {e : ExprTree} {h : ℕ} {rest : List TokenKind} → at_depth read_unary depth ts ≡ got e h rest → at_depth read_chain depth 0 ts ≡ got e h rest
  unfolding read_chain
  unary_first e = e

  pub level_next : (k : ℕ) {e : ExprTree} {h : ℕ} {rest : List TokenKind} → at_depth read_chain depth k ts ≡ got e h rest
      → at_depth read_chain depth (suc k) ts ≡ read_level depth k e h rest
  unfolding read_chain
  level_next k is = then_some _ is

  no_operands : (k : ℕ) (e : ExprTree) (h : ℕ) (rest : List TokenKind) → nat_eq (operator_precedence rest) (chain_level k) ≡ false → read_level depth k e h rest ≡ got e h rest
  unfolding read_many as_chain
  no_operands k e h rest none = then_some _ (pick_false _ _ none)

  pub level_skipped : (k : ℕ) {e : ExprTree} {h : ℕ} {rest : List TokenKind} → nat_eq (operator_precedence rest) (chain_level k) ≡ false
      → at_depth read_chain depth k ts ≡ got e h rest → at_depth read_chain depth (suc k) ts ≡ got e h rest
  level_skipped k {e = e} {h = h} {rest = rest} none is = level_next k is ∙ no_operands k e h rest none

  pub chain_stays : (k : ℕ) (first : Parsed Expr) → IsRead expr_tree (at_depth read_chain depth k ts) (suc depth) (length ts) first
      → nat_eq (operator_precedence (kinds first.rest.now)) (chain_level k) ≡ false → IsRead expr_tree (at_depth read_chain depth (suc k) ts) (suc depth) (length ts) first
  chain_stays k first so_far none = record { is = level_skipped k none so_far.is; within = so_far.within; shorter = so_far.shorter }

  pub chain_grows : (k : ℕ) (first next : Parsed Expr) → IsRead expr_tree (at_depth read_chain depth k ts) (suc depth) (length ts) first
      → IsRead expr_tree (read_level depth k (expr_tree first.value) first.height (kinds first.rest.now)) (suc depth) (suc (length (kinds first.rest.now))) next
      → IsRead expr_tree (at_depth read_chain depth (suc k) ts) (suc depth) (length ts) next
  chain_grows k first next so_far more = record { is = level_next k so_far.is ∙ more.is; within = more.within; shorter = omega (arith, so_far.shorter, more.shorter) }

  fails_next : (k : ℕ) → at_depth read_chain depth k ts ≡ None → at_depth read_chain depth (suc k) ts ≡ None
  unfolding read_chain
  fails_next k none = then_none _ none

  fails_after : (k : ℕ) → at_depth read_chain depth k ts ≡ None → (m n : ℕ) → n ≡ m + k → at_depth read_chain depth n ts ≡ None
  fails_after k none zero n e =
      let p : n ≡ k = omega (arith, e) in subst (λ j. at_depth read_chain depth j ts ≡ None) (sym p) none
  fails_after k none (suc m) n e =
      let p : n ≡ suc (m + k) = omega (arith, e) in
      subst (λ j. at_depth read_chain depth j ts ≡ None) (sym p) (fails_next (m + k) (fails_after k none m (m + k) refl))

  pub chain_fails : (k n : ℕ) → k ≤ n → at_depth read_chain depth k ts ≡ None → at_depth read_chain depth n ts ≡ None
  chain_fails k n l none = fails_after k none (n - k) n (omega (arith, l))

  pub unary_fails : (n : ℕ) → at_depth read_unary depth ts ≡ None → at_depth read_chain depth n ts ≡ None
  unfolding read_chain
  unary_fails n none = chain_fails 0 n (omega arith) none
