-- Lists of parts, as they are in memory.
use Rattle.std.proofs.Common.{◌≡◌, ℕ, List, [], ◌∷◌, map, drop, zero, suc, refl, ap, sym, ◌∙◌, ◌<◌, ◌-◌, arith}
use Rattle.dscript_ast.specs.ExprTree.{to_exprs, to_operands, to_parts, to_elements, to_props, to_holes, to_stmts}
use Rattle.dscript_ast.specs.Views.{element_tree, expr_tree, hole_tree, operand_tree, part_tree, prop_tree, stmt_tree}
use Rattle.dscript_ast.specs.declared.expr.Element.{Element}
use Rattle.dscript_ast.specs.declared.expr.Expr.{Expr}
use Rattle.dscript_ast.specs.declared.expr.Hole.{Hole}
use Rattle.dscript_ast.specs.declared.expr.Operand.{Operand}
use Rattle.dscript_ast.specs.declared.expr.PostfixPart.{PostfixPart}
use Rattle.dscript_ast.specs.declared.expr.Prop.{Prop}
use Rattle.dscript_ast.specs.declared.expr.Stmt.{Stmt}
use Rattle.dscript_names_scopes.specs.Lookup.{Site}
use Rattle.dscript_names_scopes.specs.Names.{World}
use Rattle.dscript_names_binding.specs.Binding.{bind_element, bind_elements, bind_expr, bind_exprs, bind_hole, bind_holes, bind_operand, bind_operands, bind_part, bind_parts, bind_prop, bind_props, bind_stmt, bind_stmts}

pub drop_map : {X Y : Type 0} (f : X → Y) (n : ℕ) (xs : List X) → drop n (map f xs) ≡ map f (drop n xs)
drop_map f zero xs = refl
drop_map f (suc n) [] = refl
drop_map f (suc n) (x ∷ xs) = drop_map f n xs

pub drop_none : {X : Type 0} (n : ℕ) (xs : List X) → xs ≡ [] → drop n xs ≡ []
drop_none zero xs e = e
drop_none (suc n) [] e = refl
drop_none (suc n) (x ∷ xs) e = cc

-- one fewer to pass over
pub drop_passed : {X : Type 0} (n m : ℕ) (xs ys : List X) (x : X) → xs ≡ x ∷ ys → 0 < n → m ≡ n - 1
    → drop n xs ≡ drop m ys
drop_passed zero m xs ys x e some is = absurd (omega arith)
drop_passed (suc n) m xs ys x e some is =
    let same : n ≡ m = omega arith in
    ap (drop (suc n)) e ∙ ap (λ k. drop k ys) same

-- none to pass over
pub drop_first : {X : Type 0} (n : ℕ) (xs ys : List X) (x : X) → xs ≡ x ∷ ys → n ≡ 0
    → drop n xs ≡ x ∷ drop n ys
drop_first n xs ys x e none =
    ap (λ k. drop k xs) none ∙ e ∙ ap (λ k. x ∷ drop k ys) (sym none)

module _ (world : World) (site : Site) where
  pub exprs_listed : (xs : List Expr) → bind_exprs world site (to_exprs (map expr_tree xs))
      ≡ map (λ x. bind_expr world site (expr_tree x)) xs
  unfolding bind_expr
  exprs_listed [] = refl
  exprs_listed (x ∷ xs) = ap (λ ms. bind_expr world site (expr_tree x) ∷ ms) (exprs_listed xs)

  pub operands_listed : (xs : List Operand) → bind_operands world site (to_operands (map operand_tree xs))
      ≡ map (λ x. bind_operand world site (operand_tree x)) xs
  unfolding bind_expr
  operands_listed [] = refl
  operands_listed (x ∷ xs) = ap (λ ms. bind_operand world site (operand_tree x) ∷ ms) (operands_listed xs)

  pub elements_listed : (xs : List Element) → bind_elements world site (to_elements (map element_tree xs))
      ≡ map (λ x. bind_element world site (element_tree x)) xs
  unfolding bind_expr
  elements_listed [] = refl
  elements_listed (x ∷ xs) = ap (λ ms. bind_element world site (element_tree x) ∷ ms) (elements_listed xs)

  pub props_listed : (xs : List Prop) → bind_props world site (to_props (map prop_tree xs))
      ≡ map (λ x. bind_prop world site (prop_tree x)) xs
  unfolding bind_expr
  props_listed [] = refl
  props_listed (x ∷ xs) = ap (λ ms. bind_prop world site (prop_tree x) ∷ ms) (props_listed xs)

  pub holes_listed : (xs : List Hole) → bind_holes world site (to_holes (map hole_tree xs))
      ≡ map (λ x. bind_hole world site (hole_tree x)) xs
  unfolding bind_expr
  holes_listed [] = refl
  holes_listed (x ∷ xs) = ap (λ ms. bind_hole world site (hole_tree x) ∷ ms) (holes_listed xs)

  pub parts_listed : (xs : List PostfixPart) → bind_parts world site (to_parts (map part_tree xs))
      ≡ map (λ x. bind_part world site (part_tree x)) xs
  unfolding bind_expr
  parts_listed [] = refl
  parts_listed (x ∷ xs) = ap (λ ms. bind_part world site (part_tree x) ∷ ms) (parts_listed xs)

  pub stmts_listed : (xs : List Stmt) → bind_stmts world site (to_stmts (map stmt_tree xs))
      ≡ map (λ x. bind_stmt world site (stmt_tree x)) xs
  unfolding bind_expr
  stmts_listed [] = refl
  stmts_listed (x ∷ xs) = ap (λ ms. bind_stmt world site (stmt_tree x) ∷ ms) (stmts_listed xs)
