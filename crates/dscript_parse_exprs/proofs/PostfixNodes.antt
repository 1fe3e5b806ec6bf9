-- An expression and the parts after it.
use Rattle.std.proofs.Common.{◌≡◌, ℕ, ◌<◌, max, false, List, [], ◌∷◌, length, map, vec_len, ◌==◌, refl, ap, sym, ◌∙◌, arith}
use Rattle.std.proofs.lemmas.Bool.Decides.{nat_tests}
use Rattle.std.specs.declared.alloc.Global.{Global}
use Rattle.std.specs.declared.boxed.Box.{Box}
use Rattle.std.specs.declared.vec.Vec.{Vec}
use Rattle.std.proofs.lemmas.List.{length-map}
use Rattle.dscript_lex.specs.declared.token.TokenKind.{TokenKind}
use Rattle.dscript_ast.specs.ExprTree.{ExprTree, Postfix, PartTree, StmtTree, to_parts}
use Rattle.dscript_ast.specs.Views.{expr_tree, part_tree}
use Rattle.dscript_ast.specs.declared.expr.Expr.{Expr}
use Rattle.dscript_ast.specs.declared.expr.Expr.TheVariants as exprs
use Rattle.dscript_ast.specs.declared.expr.PostfixPart.{PostfixPart}
use Rattle.dscript_ast.proofs.NodeViews.{expr_tree-Postfix}
use Rattle.dscript_grammar.specs.Reading.{Reader}
use Rattle.dscript_grammar.specs.TypeReading.{above}
use Rattle.dscript_grammar.specs.ExprReading.{as_postfix}

module _ (depth : ℕ) (expr : Reader ExprTree) (stmt : Reader StmtTree) where
  with_parts : (e : ExprTree) (h n : ℕ) (ps : List PartTree) (rest : List TokenKind) → 0 < length ps
      → above depth (max h n) (Postfix e (to_parts ps)) rest ≡ as_postfix depth expr stmt e h ps n rest
  unfolding as_postfix
  with_parts e h n [] rest some = absurd (omega arith)
  with_parts e h n (p ∷ ps) rest some = refl

  pub postfix_made : (first : Expr) (made : Box Expr Global) (h n height : ℕ) (parts : Vec PostfixPart Global) (rest : List TokenKind)
      → made.value ≡ first → 0 < length parts.items → height ≡ max h n
      → above depth height (expr_tree (exprs.Postfix made parts)) rest ≡ as_postfix depth expr stmt (expr_tree first) h (map part_tree parts.items) n rest
  postfix_made first made h n height parts rest same some is =
      ap (λ k. above depth k (expr_tree (exprs.Postfix made parts)) rest) is
      ∙ ap (λ x. above depth (max h n) x rest)
      (expr_tree-Postfix made parts ∙ ap (λ x. Postfix (expr_tree x) (to_parts (map part_tree parts.items))) same)
      ∙ with_parts (expr_tree first) h n (map part_tree parts.items) rest (omega (arith, length-map parts.items part_tree))

pub some_parts : (v : Vec PostfixPart Global) → (vec_len v == 0) ≡ false → 0 < length v.items
some_parts v e = let l : vec_len v ≡ length v.items = v.ok.0 in grind (arith, nat_tests)
