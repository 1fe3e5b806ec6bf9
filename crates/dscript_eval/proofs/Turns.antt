-- A work that is written in another way.
use Rattle.std.proofs.Common.{◌≡◌, Result, ap}
use Rattle.dscript_eval_frames.specs.Keeps.{PreservesAnswer}
use Rattle.dscript_eval_frames.specs.Views.{View}
use Rattle.dscript_eval_frames.specs.Works.{comes_with}
use Rattle.dscript_eval_frames.specs.declared.stop.Stop.{Stop}
use Rattle.dscript_eval_frames.specs.declared.work.Work.{Work}
use Rattle.dscript_eval_frames.proofs.Kept.{keeps_at}

pub done_as
    : (result : Result (Unit {0}) Stop) (v w : View) (x y : Work) → x ≡ y
    → PreservesAnswer result (comes_with y v) w → PreservesAnswer result (comes_with x v) w
done_as result v w x y is kept = keeps_at result _ _ w (ap (λ z. comes_with z v) is) kept
