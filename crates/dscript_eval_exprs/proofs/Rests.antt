-- What is left of an expression, by its form.
use Rattle.std.proofs.Common.{◌≡◌, ℕ, List, Result, map, ap, sym, ◌∙◌}
use Rattle.dscript_ast.specs.declared.expr.PathKind.{PathKind}
use Rattle.dscript_ast.specs.declared.operator.UnaryOp.{UnaryOp}
use Rattle.dscript_program.specs.BoundTree as tree
use Rattle.dscript_program.specs.BoundTree.{ExprData, to_elements, to_holes, to_parts, to_props}
use Rattle.dscript_program.specs.Views.{element_data, expr_data, hole_data, part_data, prop_data}
use Rattle.dscript_program.specs.declared.bound.BoundElement.{BoundElement}
use Rattle.dscript_program.specs.declared.bound.BoundExpr.{BoundExpr}
use Rattle.dscript_program.specs.declared.bound.BoundHole.{BoundHole}
use Rattle.dscript_program.specs.declared.bound.BoundPart.{BoundPart}
use Rattle.dscript_program.specs.declared.bound.BoundProp.{BoundProp}
use Rattle.dscript_value.specs.Plain.{Plain}
use Rattle.dscript_eval_meaning.specs.Evaluating.{gives}
use Rattle.dscript_eval_frames.specs.Forms.{acts_at, path_form, rest_at}
use Rattle.dscript_eval_frames.specs.Keeps.{PreservesAnswer}
use Rattle.dscript_eval_frames.specs.Views.{View}
use Rattle.dscript_eval_frames.specs.Works.{comes_by}
use Rattle.dscript_eval_frames.specs.declared.stop.Stop.{Stop}
use Rattle.dscript_program.specs.BoundTree.{HoleRow}
use Rattle.dscript_eval_frames.proofs.Kept.{keeps_at}

pub rest_as
    : (result : Result (Unit {0}) Stop) (v w : View) (e d : ExprData) → e ≡ d
    → PreservesAnswer result (comes_by (rest_at v d) v) w → PreservesAnswer result (comes_by (rest_at v e) v) w
rest_as result v w e d is kept = keeps_at result _ _ w (ap (λ x. comes_by (rest_at v x) v) is) kept

-- a value may be written in another way
pub value_as
    : (result : Result (Unit {0}) Stop) (v w : View) (x y : Plain) → y ≡ x
    → PreservesAnswer result (comes_by (gives x) v) w → PreservesAnswer result (comes_by (gives y) v) w
value_as result v w x y is kept = keeps_at result _ _ w (ap (λ z. comes_by (gives z) v) is) kept

-- the letter of a path may be written in another way
pub path_as
    : (result : Result (Unit {0}) Stop) (v w : View) (k letter : PathKind) (text : List ℕ) (holes : HoleRow) → k ≡ letter
    → PreservesAnswer result (comes_by (path_form v.program (acts_at v) letter text holes) v) w
    → PreservesAnswer result (comes_by (path_form v.program (acts_at v) k text holes) v) w
path_as result v w k letter text holes is kept =
    keeps_at result _ _ w (ap (λ l. comes_by (path_form v.program (acts_at v) l text holes) v) is) kept

-- ## The parts of nodes, where they are read

pub unary_from
    : (t : ExprData) (f d : BoundExpr) (v l : List UnaryOp) → t ≡ tree.Unary v (expr_data f) → d ≡ f → l ≡ v
    → t ≡ tree.Unary l (expr_data d)
unary_from t f d v l e p q =
    e ∙ ap (λ y. tree.Unary v (expr_data y)) (sym p) ∙ ap (λ y. tree.Unary y (expr_data d)) (sym q)

pub postfix_from
    : (t : ExprData) (f d : BoundExpr) (v l : List BoundPart)
    → t ≡ tree.Postfix (expr_data f) (to_parts (map part_data v)) → d ≡ f → l ≡ v
    → t ≡ tree.Postfix (expr_data d) (to_parts (map part_data l))
postfix_from t f d v l e p q =
    e
    ∙ ap (λ y. tree.Postfix (expr_data y) (to_parts (map part_data v))) (sym p)
    ∙ ap (λ y. tree.Postfix (expr_data d) (to_parts (map part_data y))) (sym q)

pub list_from
    : (t : ExprData) (v l : List BoundElement) → t ≡ tree.Elements (to_elements (map element_data v)) → l ≡ v
    → t ≡ tree.Elements (to_elements (map element_data l))
list_from t v l e q = e ∙ ap (λ y. tree.Elements (to_elements (map element_data y))) (sym q)

pub object_from
    : (t : ExprData) (v l : List BoundProp) → t ≡ tree.Object (to_props (map prop_data v)) → l ≡ v
    → t ≡ tree.Object (to_props (map prop_data l))
object_from t v l e q = e ∙ ap (λ y. tree.Object (to_props (map prop_data y))) (sym q)

pub template_from
    : (t : ExprData) (text : List ℕ) (v l : List BoundHole) → t ≡ tree.Template text (to_holes (map hole_data v))
    → l ≡ v → t ≡ tree.Template text (to_holes (map hole_data l))
template_from t text v l e q = e ∙ ap (λ y. tree.Template text (to_holes (map hole_data y))) (sym q)

pub path_from
    : (t : ExprData) (k : PathKind) (text : List ℕ) (v l : List BoundHole)
    → t ≡ tree.Path k text (to_holes (map hole_data v)) → l ≡ v → t ≡ tree.Path k text (to_holes (map hole_data l))
path_from t k text v l e q = e ∙ ap (λ y. tree.Path k text (to_holes (map hole_data y))) (sym q)
