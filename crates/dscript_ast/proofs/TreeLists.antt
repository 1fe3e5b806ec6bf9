-- The lists of parts that trees have are lists: each conversion is the inverse of the other.
use Rattle.std.proofs.Common.{◌≡◌, List, [], ◌∷◌, Option, Some, None, refl, ap}
use Rattle.dscript_ast.specs.TypeTree.{TypeTree, TypeTrees, no_types, more_types, types_of, to_types, FieldTree, FieldTrees, no_fields, more_fields, fields_of, to_fields, MemberTree, MemberTrees, no_members, more_members, members_of, to_members}
use Rattle.dscript_ast.specs.ExprTree.{ExprTree, ExprTrees, no_exprs, more_exprs, exprs_of, to_exprs, OperandTree, OperandTrees, no_operands, more_operands, operands_of, to_operands, PartTree, PartTrees, no_parts, more_parts, parts_of, to_parts, ElementTree, ElementTrees, no_elements, more_elements, elements_of, to_elements, PropTree, PropTrees, no_props, more_props, props_of, to_props, HoleTree, HoleTrees, no_holes, more_holes, holes_of, to_holes, StmtTree, StmtTrees, no_stmts, more_stmts, stmts_of, to_stmts, MaybeExpr, no_expr, an_expr, expr_of, to_expr}
use Rattle.dscript_ast.specs.FileTree.{MarkedTree, MarkedTrees, no_marked, more_marked, marked_of, to_marked}

pub types_of-to : (xs : List TypeTree) → types_of (to_types xs) ≡ xs
types_of-to [] = refl
types_of-to (x ∷ xs) = ap (λ ys. x ∷ ys) (types_of-to xs)

pub to_types-of : (xs : TypeTrees) → to_types (types_of xs) ≡ xs
to_types-of no_types = refl
to_types-of (more_types x xs) = ap (more_types x) (to_types-of xs)

pub fields_of-to : (xs : List FieldTree) → fields_of (to_fields xs) ≡ xs
fields_of-to [] = refl
fields_of-to (x ∷ xs) = ap (λ ys. x ∷ ys) (fields_of-to xs)

pub to_fields-of : (xs : FieldTrees) → to_fields (fields_of xs) ≡ xs
to_fields-of no_fields = refl
to_fields-of (more_fields x xs) = ap (more_fields x) (to_fields-of xs)

pub members_of-to : (xs : List MemberTree) → members_of (to_members xs) ≡ xs
members_of-to [] = refl
members_of-to (x ∷ xs) = ap (λ ys. x ∷ ys) (members_of-to xs)

pub to_members-of : (xs : MemberTrees) → to_members (members_of xs) ≡ xs
to_members-of no_members = refl
to_members-of (more_members x xs) = ap (more_members x) (to_members-of xs)

pub exprs_of-to : (xs : List ExprTree) → exprs_of (to_exprs xs) ≡ xs
exprs_of-to [] = refl
exprs_of-to (x ∷ xs) = ap (λ ys. x ∷ ys) (exprs_of-to xs)

pub to_exprs-of : (xs : ExprTrees) → to_exprs (exprs_of xs) ≡ xs
to_exprs-of no_exprs = refl
to_exprs-of (more_exprs x xs) = ap (more_exprs x) (to_exprs-of xs)

pub operands_of-to : (xs : List OperandTree) → operands_of (to_operands xs) ≡ xs
operands_of-to [] = refl
operands_of-to (x ∷ xs) = ap (λ ys. x ∷ ys) (operands_of-to xs)

pub to_operands-of : (xs : OperandTrees) → to_operands (operands_of xs) ≡ xs
to_operands-of no_operands = refl
to_operands-of (more_operands x xs) = ap (more_operands x) (to_operands-of xs)

pub parts_of-to : (xs : List PartTree) → parts_of (to_parts xs) ≡ xs
parts_of-to [] = refl
parts_of-to (x ∷ xs) = ap (λ ys. x ∷ ys) (parts_of-to xs)

pub to_parts-of : (xs : PartTrees) → to_parts (parts_of xs) ≡ xs
to_parts-of no_parts = refl
to_parts-of (more_parts x xs) = ap (more_parts x) (to_parts-of xs)

pub elements_of-to : (xs : List ElementTree) → elements_of (to_elements xs) ≡ xs
elements_of-to [] = refl
elements_of-to (x ∷ xs) = ap (λ ys. x ∷ ys) (elements_of-to xs)

pub to_elements-of : (xs : ElementTrees) → to_elements (elements_of xs) ≡ xs
to_elements-of no_elements = refl
to_elements-of (more_elements x xs) = ap (more_elements x) (to_elements-of xs)

pub props_of-to : (xs : List PropTree) → props_of (to_props xs) ≡ xs
props_of-to [] = refl
props_of-to (x ∷ xs) = ap (λ ys. x ∷ ys) (props_of-to xs)

pub to_props-of : (xs : PropTrees) → to_props (props_of xs) ≡ xs
to_props-of no_props = refl
to_props-of (more_props x xs) = ap (more_props x) (to_props-of xs)

pub holes_of-to : (xs : List HoleTree) → holes_of (to_holes xs) ≡ xs
holes_of-to [] = refl
holes_of-to (x ∷ xs) = ap (λ ys. x ∷ ys) (holes_of-to xs)

pub to_holes-of : (xs : HoleTrees) → to_holes (holes_of xs) ≡ xs
to_holes-of no_holes = refl
to_holes-of (more_holes x xs) = ap (more_holes x) (to_holes-of xs)

pub stmts_of-to : (xs : List StmtTree) → stmts_of (to_stmts xs) ≡ xs
stmts_of-to [] = refl
stmts_of-to (x ∷ xs) = ap (λ ys. x ∷ ys) (stmts_of-to xs)

pub to_stmts-of : (xs : StmtTrees) → to_stmts (stmts_of xs) ≡ xs
to_stmts-of no_stmts = refl
to_stmts-of (more_stmts x xs) = ap (more_stmts x) (to_stmts-of xs)

pub marked_of-to : (xs : List MarkedTree) → marked_of (to_marked xs) ≡ xs
marked_of-to [] = refl
marked_of-to (x ∷ xs) = ap (λ ys. x ∷ ys) (marked_of-to xs)

pub to_marked-of : (xs : MarkedTrees) → to_marked (marked_of xs) ≡ xs
to_marked-of no_marked = refl
to_marked-of (more_marked x xs) = ap (more_marked x) (to_marked-of xs)

pub expr_of-to : (x : Option ExprTree) → expr_of (to_expr x) ≡ x
expr_of-to None = refl
expr_of-to (Some x) = refl

pub to_expr-of : (x : MaybeExpr) → to_expr (expr_of x) ≡ x
to_expr-of no_expr = refl
to_expr-of (an_expr x) = refl
