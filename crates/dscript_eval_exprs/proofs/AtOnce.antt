-- What comes where an expression was evaluated at once.
use Rattle.std.proofs.Common.{◌≡◌, ℕ, ◌∷◌, MatchResult, Result, Ok, ap, sym, ◌∙◌}
use Rattle.std.specs.Borrow.{Bor}
use Rattle.dscript_program.specs.BoundTree.{ExprData}
use Rattle.dscript_program.specs.Views.{expr_data}
use Rattle.dscript_program.specs.declared.bound.BoundExpr.{BoundExpr}
use Rattle.dscript_value.specs.Plain.{Plain}
use Rattle.dscript_eval_meaning.specs.Evaluating.{followed}
use Rattle.dscript_eval_meaning.specs.Statements.{On}
use Rattle.dscript_eval_direct.specs.Now.{IsAtOnce, Knowledge, Knows}
use Rattle.dscript_eval_frames.specs.Forms.{acts_at, value_at}
use Rattle.dscript_eval_frames.specs.Keeps.{PreservesAnswer}
use Rattle.dscript_eval_frames.specs.Views.{View}
use Rattle.dscript_eval_frames.specs.Works.{Answer, comes, comes_by, comes_with, run}
use Rattle.dscript_eval_frames.specs.declared.stop.Stop.{Stop}
use Rattle.dscript_eval_frames.specs.declared.stop.Stop.TheVariants as stops
use Rattle.dscript_eval_frames.specs.declared.work.ExprWork.TheVariants as expr
use Rattle.dscript_eval_frames.specs.declared.work.Work.{Work}
use Rattle.dscript_eval_frames.specs.declared.work.Work.TheVariants as works
use Rattle.dscript_eval_frames.proofs.Kept.{keeps_at, kept}
use Rattle.dscript_eval_exprs.specs.AtOnce.{IsGiven}

-- what is given by what is known is what the machine gives
pub given_by
    : (v w : View) (e : ExprData) (known : Knowledge) (left : ℕ) (x : Plain) (later : ℕ)
    → IsAtOnce known e left x later → Knows known v.program v.state → left ≡ v.state.left
    → w ≡ record v { given = x; state = record v.state { left = later } } → IsGiven v w e
given_by v w e known left x later now knows left_is is = record {
  value = ap (λ n. value_at v e (record v.state { left = n })) (sym left_is)
      ∙ now v.program (acts_at v) v.state knows
      ∙ ap (λ (z : View). Ok (z.given, z.state)) (sym is);
  others = is ∙ ap (λ (z : View). record v { given = z.given; state = z.state }) (sym is);
}

-- a work for which the value is given comes at once
pub given_then
    : (v w : View) (e : Bor BoundExpr) (x : Work) → IsGiven v w (expr_data e.now)
    → comes (record v { work = works.Expr (expr.Value e) ∷ x ∷ v.work }) ≡ comes_with x w
given_then v w e x given =
    ap (λ r. followed r (λ y later. run v.program (x ∷ v.work) On v.openable y later)) given.value
    ∙ ap (λ (z : View). comes_with x z) (sym given.others)

pub given_alone
    : (v w : View) (e : ExprData) → IsGiven v w e → comes_by (value_at v e) v ≡ comes w
given_alone v w e given =
    ap (λ r. followed r (λ y later. run v.program v.work On v.openable y later)) given.value
    ∙ ap comes (sym given.others)

-- the value of an expression before a work was given at once, or the two are to be done
pub now_then
    : (result : Result (Unit {0}) Stop) (v w u : View) (e : Bor BoundExpr) (x : Work) (before : Answer)
    → before ≡ comes (record v { work = works.Expr (expr.Value e) ∷ x ∷ v.work })
    → IsGiven v w (expr_data e.now) → PreservesAnswer result (comes_with x w) u → PreservesAnswer result before u
now_then result v w u e x before move given after =
    keeps_at result before (comes_with x w) u (move ∙ given_then v w e x given) after

pub unless_now
    : (result : Result (Unit {0}) Stop) (v w u : View) (e : Bor BoundExpr) (x : Work) (before : Answer)
    → before ≡ comes (record v { work = works.Expr (expr.Value e) ∷ x ∷ v.work }) → w ≡ v
    → MatchResult result (λ _. u ≡ record w { work = works.Expr (expr.Value e) ∷ x ∷ w.work }) (λ stop. stop ≡ stops.Memory)
    → PreservesAnswer result before u
unless_now result v w u e x before move same pushed =
    kept result before (record w { work = works.Expr (expr.Value e) ∷ x ∷ w.work }) u pushed
    (move ∙ ap (λ (z : View). comes (record z { work = works.Expr (expr.Value e) ∷ x ∷ z.work })) (sym same))
