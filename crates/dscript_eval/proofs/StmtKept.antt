-- The steps of a statement before the rest of it.
use Rattle.std.proofs.Common.{◌≡◌, ℕ, Result, refl, sym, subst}
use Rattle.std.specs.Borrow.{Bor}
use Rattle.dscript_program.specs.Views.{stmt_data}
use Rattle.dscript_program.specs.declared.bound.BoundStmt.{BoundStmt}
use Rattle.dscript_eval_frames.specs.Forms.{acts_at, stmt_form}
use Rattle.dscript_eval_frames.specs.Costs.{stmt_cost}
use Rattle.dscript_eval_frames.specs.Keeps.{PreservesAnswer, StopsWith}
use Rattle.dscript_eval_frames.specs.Steps.{Spent, Unspent}
use Rattle.dscript_eval_frames.specs.Views.{View}
use Rattle.dscript_eval_frames.specs.Works.{Answer, comes_with, goes_by}
use Rattle.dscript_eval_frames.specs.declared.stop.Stop.{Stop}
use Rattle.dscript_eval_frames.specs.declared.work.StmtWork.TheVariants as stmt
use Rattle.dscript_eval_frames.specs.declared.work.Work.TheVariants as works
use Rattle.dscript_eval_frames.proofs.Kept.{keeps_at, spent_goes, unspent_goes}
use Rattle.dscript_eval.proofs.StmtMoves.{does_move}

pub spent_does
    : (result : Result (Unit {0}) Stop) (v w u : View) (m : Bor BoundStmt) (n : ℕ)
    → n ≡ stmt_cost (stmt_data m.now) → Spent n v w
    → PreservesAnswer result (goes_by (stmt_form w.program (acts_at w) (stmt_data m.now)) w) u
    → PreservesAnswer result (comes_with (works.Stmt (stmt.Does m)) v) u
spent_does result v w u m n is spent after =
    keeps_at result _ _ u (does_move v m)
    (spent_goes result (stmt_cost (stmt_data m.now)) (λ (z : View). stmt_form z.program (acts_at z) (stmt_data m.now)) v w u
    (subst (λ k. Spent k v w) is spent) refl after)

pub unspent_does
    : (v : View) (m : Bor BoundStmt) (stop : Stop) (n : ℕ) → n ≡ stmt_cost (stmt_data m.now) → Unspent n v stop
    → StopsWith stop (comes_with (works.Stmt (stmt.Does m)) v)
unspent_does v m stop n is unspent =
    let P : Answer → Type 0 = λ a. StopsWith stop a in
    subst P (sym (does_move v m))
    (unspent_goes (stmt_cost (stmt_data m.now)) (stmt_form v.program (acts_at v) (stmt_data m.now)) v stop
    (subst (λ k. Unspent k v stop) is unspent))
