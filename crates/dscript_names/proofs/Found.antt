-- Repeated names, part by part.
use Rattle.std.proofs.Common.{◌≡◌, ℕ, Bool, true, false, ◌||◌, ◌<◌, ◌+◌, List, [], ◌∷◌, ◌++◌, map, length, take, get_or, refl, sym, ◌∙◌, ap}
use Rattle.std.specs.List.{list_any}
use Rattle.std.proofs.lemmas.List.{take_more}
use Rattle.bx_tree.proofs.Lists.{any_last}
use Rattle.dscript_ast.specs.ExprTree.{to_elements, to_exprs, to_holes, to_operands, to_parts, to_props, to_stmts}
use Rattle.dscript_ast.specs.FileTree.{to_marked}
use Rattle.dscript_ast.specs.Views.{element_tree, expr_tree, hole_tree, item_tree, marked_tree, operand_tree, part_tree, prop_tree, stmt_tree}
use Rattle.dscript_ast.specs.ExprTree as tree
use Rattle.dscript_ast.specs.ExprTree.{ElementTree, ElementTrees, HoleTree, HoleTrees, OperandTree, OperandTrees}
use Rattle.dscript_ast.specs.declared.expr.Element as elements
use Rattle.dscript_ast.specs.declared.expr.Expr.{Expr}
use Rattle.dscript_ast.specs.declared.expr.Hole as holes
use Rattle.dscript_ast.specs.declared.expr.Operand as operands
use Rattle.dscript_ast.specs.declared.expr.PostfixPart.{PostfixPart}
use Rattle.dscript_ast.specs.declared.expr.Prop.{Prop}
use Rattle.dscript_ast.specs.declared.expr.Stmt.{Stmt}
use Rattle.dscript_ast.specs.declared.file.Item.{Item}
use Rattle.dscript_ast.specs.declared.file.Marked.{Marked}
use Rattle.dscript_names_scopes.specs.Duplicates.{all_marked_repeat, elements_repeat, expr_repeats, exprs_repeat, holes_repeat, item_repeats, marked_repeats, operands_repeat, part_repeats, parts_repeat, prop_repeats, props_repeat, stmt_repeats, stmts_repeat}
use Rattle.dscript_names.specs.Singles.{element_value, hole_value, operand_value}

pub or_assoc : (a b c : Bool) → ((a || b) || c) ≡ (a || (b || c))
or_assoc true b c = refl
or_assoc false b c = refl

pub or_none : (a : Bool) → (a || false) ≡ a
or_none true = refl
or_none false = refl

pub two_found : (o s n a b k : Bool) → k ≡ (a || b) → s ≡ (o || a) → n ≡ (s || b) → n ≡ (o || k)
two_found o s n a b k e p q =
    q ∙ ap (λ z. z || b) p ∙ or_assoc o a b ∙ ap (λ z. o || z) (sym e)

pub three_found : (o s u n a b d k : Bool) → k ≡ ((a || b) || d) → s ≡ (o || a) → u ≡ (s || b) → n ≡ (u || d) → n ≡ (o || k)
three_found o s u n a b d k e p q r = two_found o u n (a || b) d k e (two_found o s u a b (a || b) refl p q) r

pub ruleset or_laws = (or_assoc, or_none)

pub none_found : {o k : Bool} → k ≡ false → o ≡ (o || k)
none_found {o} {k} e = sym (or_none o) ∙ ap (λ z. o || z) (sym e)

-- ## Lists

pub found_more : {X : Type 0} (all : List X → Bool) (f : X → Bool) → ((ys : List X) → all ys ≡ list_any f ys)
    → (xs : List X) (i : ℕ) (x : X) (o s n : Bool)
    → s ≡ (o || all (take i xs)) → n ≡ (s || f x) → i < length xs → x ≡ get_or xs i x
    → n ≡ (o || all (take (i + 1) xs))
found_more all f listed xs i x o s n before step l e =
    let more : take (i + 1) xs ≡ take i xs ++ x ∷ [] = take_more xs i x l ∙ ap (λ y. take i xs ++ y ∷ []) (sym e) in
    two_found o s n (all (take i xs)) (f x) (all (take (i + 1) xs)) (ap all more ∙ listed (take i xs ++ x ∷ []) ∙ any_last f (take i xs) x
    ∙ ap (λ z. z || f x) (sym (listed (take i xs)))) before step

pub exprs_listed : (xs : List Expr) → exprs_repeat (to_exprs (map expr_tree xs)) ≡ list_any (λ x. expr_repeats (expr_tree x)) xs
unfolding expr_repeats
exprs_listed [] = refl
exprs_listed (x ∷ xs) = ap (λ z. expr_repeats (expr_tree x) || z) (exprs_listed xs)

pub parts_listed : (xs : List PostfixPart) → parts_repeat (to_parts (map part_tree xs)) ≡ list_any (λ x. part_repeats (part_tree x)) xs
unfolding expr_repeats
parts_listed [] = refl
parts_listed (x ∷ xs) = ap (λ z. part_repeats (part_tree x) || z) (parts_listed xs)

pub props_listed : (xs : List Prop) → props_repeat (to_props (map prop_tree xs)) ≡ list_any (λ x. prop_repeats (prop_tree x)) xs
unfolding expr_repeats
props_listed [] = refl
props_listed (x ∷ xs) = ap (λ z. prop_repeats (prop_tree x) || z) (props_listed xs)

pub stmts_listed : (xs : List Stmt) → stmts_repeat (to_stmts (map stmt_tree xs)) ≡ list_any (λ x. stmt_repeats (stmt_tree x)) xs
unfolding expr_repeats
stmts_listed [] = refl
stmts_listed (x ∷ xs) = ap (λ z. stmt_repeats (stmt_tree x) || z) (stmts_listed xs)

operands_more : (x : OperandTree) (more : OperandTrees) → operands_repeat (tree.more_operands x more) ≡ (expr_repeats (operand_value x) || operands_repeat more)
unfolding expr_repeats
operands_more (tree.Operand op e) more = refl

pub operands_listed : (xs : List operands.Operand) → operands_repeat (to_operands (map operand_tree xs)) ≡ list_any (λ x. expr_repeats (operand_value (operand_tree x))) xs
unfolding expr_repeats
operands_listed [] = refl
operands_listed (x ∷ xs) = operands_more (operand_tree x) (to_operands (map operand_tree xs)) ∙ ap (λ z. expr_repeats (operand_value (operand_tree x)) || z) (operands_listed xs)

elements_more : (x : ElementTree) (more : ElementTrees) → elements_repeat (tree.more_elements x more) ≡ (expr_repeats (element_value x) || elements_repeat more)
unfolding expr_repeats
elements_more (tree.Element spread e) more = refl

pub elements_listed : (xs : List elements.Element) → elements_repeat (to_elements (map element_tree xs)) ≡ list_any (λ x. expr_repeats (element_value (element_tree x))) xs
unfolding expr_repeats
elements_listed [] = refl
elements_listed (x ∷ xs) = elements_more (element_tree x) (to_elements (map element_tree xs)) ∙ ap (λ z. expr_repeats (element_value (element_tree x)) || z) (elements_listed xs)

holes_more : (x : HoleTree) (more : HoleTrees) → holes_repeat (tree.more_holes x more) ≡ (expr_repeats (hole_value x) || holes_repeat more)
unfolding expr_repeats
holes_more (tree.Hole e text) more = refl

pub holes_listed : (xs : List holes.Hole) → holes_repeat (to_holes (map hole_tree xs)) ≡ list_any (λ x. expr_repeats (hole_value (hole_tree x))) xs
unfolding expr_repeats
holes_listed [] = refl
holes_listed (x ∷ xs) = holes_more (hole_tree x) (to_holes (map hole_tree xs)) ∙ ap (λ z. expr_repeats (hole_value (hole_tree x)) || z) (holes_listed xs)

pub marked_listed : (xs : List Marked) → all_marked_repeat (to_marked (map marked_tree xs)) ≡ list_any (λ x. marked_repeats (marked_tree x)) xs
unfolding marked_repeats
marked_listed [] = refl
marked_listed (x ∷ xs) = ap (λ z. marked_repeats (marked_tree x) || z) (marked_listed xs)

pub items_listed : (xs : List Item) → list_any item_repeats (map item_tree xs) ≡ list_any (λ x. item_repeats (item_tree x)) xs
items_listed [] = refl
items_listed (x ∷ xs) = ap (λ z. item_repeats (item_tree x) || z) (items_listed xs)
