-- What is left of a part after a value, by its form.
use Rattle.std.proofs.Common.{◌≡◌, List, Result, map, ap, sym, ◌∙◌}
use Rattle.dscript_program.specs.BoundTree as tree
use Rattle.dscript_program.specs.BoundTree.{PartData, PartRow, to_exprs}
use Rattle.dscript_program.specs.Views.{expr_data}
use Rattle.dscript_program.specs.declared.bound.BoundExpr.{BoundExpr}
use Rattle.dscript_eval_frames.specs.Forms.{acts_at, part_form}
use Rattle.dscript_eval_frames.specs.Keeps.{PreservesAnswer}
use Rattle.dscript_eval_frames.specs.Views.{View}
use Rattle.dscript_eval_frames.specs.Works.{comes_by}
use Rattle.dscript_eval_frames.specs.declared.stop.Stop.{Stop}
use Rattle.dscript_eval_frames.proofs.Kept.{keeps_at}

pub part_as
    : (result : Result (Unit {0}) Stop) (v w : View) (d e : PartData) (rest : PartRow) → d ≡ e
    → PreservesAnswer result (comes_by (part_form v.program (acts_at v) v.given e rest) v) w
    → PreservesAnswer result (comes_by (part_form v.program (acts_at v) v.given d rest) v) w
part_as result v w d e rest is kept =
    keeps_at result _ _ w (ap (λ x. comes_by (part_form v.program (acts_at v) v.given x rest) v) is) kept

pub index_from
    : (t : PartData) (f d : BoundExpr) → t ≡ tree.Index (expr_data f) → d ≡ f → t ≡ tree.Index (expr_data d)
index_from t f d e p = e ∙ ap (λ y. tree.Index (expr_data y)) (sym p)

pub call_from
    : (t : PartData) (v l : List BoundExpr) → t ≡ tree.Call (to_exprs (map expr_data v)) → l ≡ v
    → t ≡ tree.Call (to_exprs (map expr_data l))
call_from t v l e q = e ∙ ap (λ y. tree.Call (to_exprs (map expr_data y))) (sym q)
