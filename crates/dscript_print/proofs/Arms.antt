-- The tokens of expressions and statements, step by step, and of lists of their parts.
use Rattle.std.proofs.Common.{◌≡◌, ℕ, Bool, true, false, List, [], ◌∷◌, ◌++◌, map, length, refl, ap, sym, ◌∙◌, append_assoc, arith, ◌≤◌, take}
use Rattle.std.proofs.lemmas.List.{take_all}
use Rattle.dscript_lex.specs.declared.token.TokenKind.{TokenKind}
use Rattle.dscript_lex.specs.declared.token.TokenKind.TheVariants as kinds
use Rattle.dscript_ast.specs.ExprTree.{ExprTree, Cond, Chain, Unary, Postfix, Path, StmtTree, For, Return, Value, MaybeExpr, HoleTree, Hole, to_exprs, to_operands, to_parts, to_elements, to_props, to_holes, to_stmts}
use Rattle.dscript_ast.specs.Views.{expr_tree, operand_tree, part_tree, element_tree, prop_tree, hole_tree, stmt_tree}
use Rattle.dscript_ast.specs.declared.expr.Expr.{Expr}
use Rattle.dscript_ast.specs.declared.expr.Stmt.{Stmt}
use Rattle.dscript_ast.specs.declared.expr.PostfixPart.{PostfixPart}
use Rattle.dscript_ast.specs.declared.expr.Prop.{Prop}
use Rattle.dscript_ast.specs.declared.expr.Operand as operands
use Rattle.dscript_ast.specs.declared.expr.Element as elements
use Rattle.dscript_ast.specs.declared.expr.Hole as holes
use Rattle.dscript_ast.specs.declared.expr.LoopKind.{LoopKind}
use Rattle.dscript_ast.specs.declared.expr.PathKind.{PathKind}
use Rattle.dscript_ast.specs.declared.operator.UnaryOp.{UnaryOp}
use Rattle.dscript_print.specs.Runs.{punct, keyword, concat_tokens}
use Rattle.dscript_print.specs.Written.{middle_run, tail_run}
use Rattle.dscript_print.specs.ExprKinds.{tighter, prefix_kind, letter_kind, loop_kind, node_kinds, expr_kinds, exprs_kinds, operands_kinds, operand_kinds, parts_kinds, part_kinds, elements_kinds, element_kinds, props_kinds, prop_kinds, holes_kinds, hole_kinds, first_text, stmt_kinds, stmts_kinds, maybe_kinds}

pub two_steps : (o s n a b k : List TokenKind) → k ≡ a ++ b → s ≡ o ++ a → n ≡ s ++ b → n ≡ o ++ k
two_steps o s n a b k e p q = q ∙ ap (λ z. z ++ b) p ∙ append_assoc o a b ∙ ap (λ z. o ++ z) (sym e)

pub three_steps : (o s u n a b d k : List TokenKind) → k ≡ a ++ (b ++ d) → s ≡ o ++ a → u ≡ s ++ b → n ≡ u ++ d → n ≡ o ++ k
three_steps o s u n a b d k e p q r = two_steps o s n a (b ++ d) k e p (two_steps s u n b d (b ++ d) refl q r)

pub four_steps : (o s u v n a b d f k : List TokenKind) → k ≡ a ++ (b ++ (d ++ f)) → s ≡ o ++ a → u ≡ s ++ b → v ≡ u ++ d → n ≡ v ++ f → n ≡ o ++ k
four_steps o s u v n a b d f k e p q r t = two_steps o s n a (b ++ (d ++ f)) k e p (three_steps s u v n b d f (b ++ (d ++ f)) refl q r t)

pub five_steps : (o s u v w n a b d f g k : List TokenKind) → k ≡ a ++ (b ++ (d ++ (f ++ g))) → s ≡ o ++ a → u ≡ s ++ b → v ≡ u ++ d → w ≡ v ++ f → n ≡ w ++ g → n ≡ o ++ k
five_steps o s u v w n a b d f g k e p q r t x = two_steps o s n a (b ++ (d ++ (f ++ g))) k e p (four_steps s u v w n b d f g (b ++ (d ++ (f ++ g))) refl q r t x)

pub chain_run : (unbraced : Bool) (x : ExprTree) (level : ℕ) (d : Expr) (l : List operands.Operand) → x ≡ Chain level (expr_tree d) (to_operands (map operand_tree l))
    → node_kinds x unbraced ≡ expr_kinds unbraced (tighter level) (expr_tree d) ++ concat_tokens (operands_kinds (tighter level) (to_operands (map operand_tree l)))
unfolding node_kinds
chain_run unbraced x level d l e = ap (λ y. node_kinds y unbraced) e

pub cond_run : (unbraced : Bool) (x : ExprTree) (a b d : Expr) → x ≡ Cond (expr_tree a) (expr_tree b) (expr_tree d)
    → node_kinds x unbraced ≡ expr_kinds unbraced 8 (expr_tree a) ++ ((punct "?" ∷ expr_kinds false 10 (expr_tree b)) ++ (punct ":" ∷ expr_kinds false 10 (expr_tree d)))
unfolding node_kinds
cond_run unbraced x a b d e = ap (λ y. node_kinds y unbraced) e

pub signed_run : (unbraced : Bool) (x : ExprTree) (ops : List UnaryOp) (d : Expr) → x ≡ Unary ops (expr_tree d) → node_kinds x unbraced ≡ map prefix_kind ops ++ expr_kinds false 1 (expr_tree d)
unfolding node_kinds
signed_run unbraced x ops d e = ap (λ y. node_kinds y unbraced) e

pub post_run : (unbraced : Bool) (x : ExprTree) (d : Expr) (l : List PostfixPart) → x ≡ Postfix (expr_tree d) (to_parts (map part_tree l)) → node_kinds x unbraced ≡ expr_kinds unbraced 0 (expr_tree d) ++ concat_tokens (parts_kinds (to_parts (map part_tree l)))
unfolding node_kinds
post_run unbraced x d l e = ap (λ y. node_kinds y unbraced) e

pub path_run : (unbraced : Bool) (x : ExprTree) (k : PathKind) (text : List ℕ) (l : List holes.Hole) → x ≡ Path k text (to_holes (map hole_tree l))
    → node_kinds x unbraced ≡ (letter_kind k ∷ []) ++ (first_text (to_holes (map hole_tree l)) text ∷ holes_kinds (to_holes (map hole_tree l)))
unfolding node_kinds
path_run unbraced x k text l e = ap (λ y. node_kinds y unbraced) e

pub for_run : (x : StmtTree) (k : LoopKind) (name : List ℕ) (d : Expr) (b : Stmt) → x ≡ For k name (expr_tree d) (stmt_tree b)
    → stmt_kinds x ≡ (keyword "for" ∷ punct "(" ∷ loop_kind k ∷ kinds.Word name ∷ keyword "of" ∷ []) ++ (expr_kinds false 10 (expr_tree d) ++ ((punct ")" ∷ []) ++ stmt_kinds (stmt_tree b)))
unfolding stmt_kinds
for_run x k name d b e = ap stmt_kinds e

pub return_run : (x : StmtTree) (v : MaybeExpr) → x ≡ Return v → stmt_kinds x ≡ (keyword "return" ∷ []) ++ (maybe_kinds v ++ (punct ";" ∷ []))
unfolding stmt_kinds
return_run x v e = ap stmt_kinds e

pub value_run : (x : StmtTree) (d : Expr) → x ≡ Value (expr_tree d) → stmt_kinds x ≡ expr_kinds true 10 (expr_tree d) ++ (punct ";" ∷ [])
unfolding stmt_kinds
value_run x d e = ap stmt_kinds e

-- lists of parts
pub exprs_listed : (xs : List Expr) → exprs_kinds (to_exprs (map expr_tree xs)) ≡ map (λ x. expr_kinds false 10 (expr_tree x)) xs
unfolding exprs_kinds
exprs_listed [] = refl
exprs_listed (x ∷ xs) = ap (λ ys. expr_kinds false 10 (expr_tree x) ∷ ys) (exprs_listed xs)

pub operands_listed : (tight : ℕ) (xs : List operands.Operand) → operands_kinds tight (to_operands (map operand_tree xs)) ≡ map (λ x. operand_kinds tight (operand_tree x)) xs
unfolding exprs_kinds
operands_listed tight [] = refl
operands_listed tight (x ∷ xs) = ap (λ ys. operand_kinds tight (operand_tree x) ∷ ys) (operands_listed tight xs)

pub parts_listed : (xs : List PostfixPart) → parts_kinds (to_parts (map part_tree xs)) ≡ map (λ x. part_kinds (part_tree x)) xs
unfolding exprs_kinds
parts_listed [] = refl
parts_listed (x ∷ xs) = ap (λ ys. part_kinds (part_tree x) ∷ ys) (parts_listed xs)

pub elements_listed : (xs : List elements.Element) → elements_kinds (to_elements (map element_tree xs)) ≡ map (λ x. element_kinds (element_tree x)) xs
unfolding exprs_kinds
elements_listed [] = refl
elements_listed (x ∷ xs) = ap (λ ys. element_kinds (element_tree x) ∷ ys) (elements_listed xs)

pub props_listed : (xs : List Prop) → props_kinds (to_props (map prop_tree xs)) ≡ map (λ x. prop_kinds (prop_tree x)) xs
unfolding exprs_kinds
props_listed [] = refl
props_listed (x ∷ xs) = ap (λ ys. prop_kinds (prop_tree x) ∷ ys) (props_listed xs)

pub stmts_listed : (xs : List Stmt) → stmts_kinds (to_stmts (map stmt_tree xs)) ≡ map (λ x. stmt_kinds (stmt_tree x)) xs
unfolding exprs_kinds
stmts_listed [] = refl
stmts_listed (x ∷ xs) = ap (λ ys. stmt_kinds (stmt_tree x) ∷ ys) (stmts_listed xs)

-- holes
hole_first : (x : HoleTree) (k : List ℕ → TokenKind) (others : List TokenKind) → hole_kinds x k others ≡ hole_kinds x k [] ++ others
unfolding hole_kinds
hole_first (Hole e text) k others = sym (append_assoc (expr_kinds false 10 e) (k text ∷ []) others)

hole_alone : (x : holes.Hole) → holes_kinds (to_holes (map hole_tree (x ∷ []))) ≡ tail_run x
unfolding holes_kinds
hole_alone x = refl

hole_row : (y z : holes.Hole) (zs : List holes.Hole) → holes_kinds (to_holes (map hole_tree (y ∷ z ∷ zs))) ≡ hole_kinds (hole_tree y) kinds.Middle (holes_kinds (to_holes (map hole_tree (z ∷ zs))))
unfolding holes_kinds
hole_row y z zs = refl

hole_then : (y : holes.Hole) (ys : List holes.Hole) (x : holes.Hole) → holes_kinds (to_holes (map hole_tree (y ∷ (ys ++ (x ∷ []))))) ≡ middle_run y ++ holes_kinds (to_holes (map hole_tree (ys ++ (x ∷ []))))
hole_then y [] x = hole_row y x [] ∙ hole_first (hole_tree y) kinds.Middle (holes_kinds (to_holes (map hole_tree (x ∷ []))))
hole_then y (z ∷ zs) x = hole_row y z (zs ++ (x ∷ [])) ∙ hole_first (hole_tree y) kinds.Middle (holes_kinds (to_holes (map hole_tree (z ∷ (zs ++ (x ∷ []))))))

holes_listed : (xs : List holes.Hole) (x : holes.Hole) → holes_kinds (to_holes (map hole_tree (xs ++ (x ∷ [])))) ≡ concat_tokens (map middle_run xs) ++ tail_run x
holes_listed [] x = hole_alone x
holes_listed (y ∷ ys) x = hole_then y ys x ∙ ap (λ zs. middle_run y ++ zs) (holes_listed ys x) ∙ sym (append_assoc (middle_run y) (concat_tokens (map middle_run ys)) (tail_run x))

some_holes : (xs : List holes.Hole) (x : holes.Hole) (text : List ℕ) → first_text (to_holes (map hole_tree (xs ++ (x ∷ [])))) text ≡ kinds.Head text
some_holes [] x text = refl
some_holes (y ∷ ys) x text = refl

pub no_holes_run : (all : List holes.Hole) (text : List ℕ) → length all ≡ 0 → first_text (to_holes (map hole_tree all)) text ∷ holes_kinds (to_holes (map hole_tree all)) ≡ kinds.Whole text ∷ []
unfolding holes_kinds
no_holes_run [] text e = refl
no_holes_run (x ∷ xs) text e = absurd (omega (arith, e))

pub template_run : (xs all : List holes.Hole) (x : holes.Hole) (text : List ℕ) (i : ℕ) (o s n m : List TokenKind)
    → all ≡ xs ++ (x ∷ []) → length xs ≤ i → s ≡ o ++ (kinds.Head text ∷ []) → n ≡ s ++ concat_tokens (map middle_run (take i xs)) → m ≡ n ++ tail_run x
    → m ≡ o ++ (first_text (to_holes (map hole_tree all)) text ∷ holes_kinds (to_holes (map hole_tree all)))
template_run xs all x text i o s n m whole l p q r =
    three_steps o s n m (kinds.Head text ∷ []) (concat_tokens (map middle_run xs)) (tail_run x) _
    (ap (λ ys. first_text (to_holes (map hole_tree ys)) text ∷ holes_kinds (to_holes (map hole_tree ys))) whole ∙ ap (λ h. h ∷ holes_kinds (to_holes (map hole_tree (xs ++ (x ∷ []))))) (some_holes xs x text) ∙ ap (λ zs. kinds.Head text ∷ zs) (holes_listed xs x))
    p (q ∙ ap (λ ys. s ++ concat_tokens (map middle_run ys)) (take_all i xs l)) r

-- a tree is put together of equal parts
pub chain_from : (t : ExprTree) (level : ℕ) (f d : Expr) (v l : List operands.Operand) → t ≡ Chain level (expr_tree f) (to_operands (map operand_tree v)) → d ≡ f → l ≡ v → t ≡ Chain level (expr_tree d) (to_operands (map operand_tree l))
chain_from t level f d v l e p q =
    e ∙ ap (λ y. Chain level (expr_tree y) (to_operands (map operand_tree v))) (sym p) ∙ ap (λ y. Chain level (expr_tree d) (to_operands (map operand_tree y))) (sym q)

pub signed_from : (t : ExprTree) (v l : List UnaryOp) (f d : Expr) → t ≡ Unary v (expr_tree f) → l ≡ v → d ≡ f → t ≡ Unary l (expr_tree d)
signed_from t v l f d e p q = e ∙ ap (λ y. Unary y (expr_tree f)) (sym p) ∙ ap (λ y. Unary l (expr_tree y)) (sym q)

pub post_from : (t : ExprTree) (f d : Expr) (v l : List PostfixPart) → t ≡ Postfix (expr_tree f) (to_parts (map part_tree v)) → d ≡ f → l ≡ v → t ≡ Postfix (expr_tree d) (to_parts (map part_tree l))
post_from t f d v l e p q = e ∙ ap (λ y. Postfix (expr_tree y) (to_parts (map part_tree v))) (sym p) ∙ ap (λ y. Postfix (expr_tree d) (to_parts (map part_tree y))) (sym q)

pub path_from : (t : ExprTree) (k : PathKind) (text : List ℕ) (v l : List holes.Hole) → t ≡ Path k text (to_holes (map hole_tree v)) → l ≡ v → t ≡ Path k text (to_holes (map hole_tree l))
path_from t k text v l e q = e ∙ ap (λ y. Path k text (to_holes (map hole_tree y))) (sym q)

pub cond_from : (t : ExprTree) (a b d a2 b2 d2 : Expr) → t ≡ Cond (expr_tree a) (expr_tree b) (expr_tree d) → a2 ≡ a → b2 ≡ b → d2 ≡ d → t ≡ Cond (expr_tree a2) (expr_tree b2) (expr_tree d2)
cond_from t a b d a2 b2 d2 e p q r =
    e ∙ ap (λ y. Cond (expr_tree y) (expr_tree b) (expr_tree d)) (sym p) ∙ ap (λ y. Cond (expr_tree a2) (expr_tree y) (expr_tree d)) (sym q) ∙ ap (λ y. Cond (expr_tree a2) (expr_tree b2) (expr_tree y)) (sym r)
