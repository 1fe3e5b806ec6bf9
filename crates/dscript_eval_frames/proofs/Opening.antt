-- What opens a call.
use Rattle.std.proofs.Common.{◌≡◌, ℕ, zero, suc, ◌-◌, ◌<◌, ap, arith}
use Rattle.dscript_program.specs.ProgramData.{ProgramData}
use Rattle.dscript_eval_meaning.specs.declared.fault.EvalKind.TheVariants as kinds
use Rattle.dscript_eval_meaning.specs.Acts.{Act}
use Rattle.dscript_eval_meaning.specs.Evaluating.{fails}
use Rattle.dscript_eval_meaning.specs.Meaning.{acts, opened}
use Rattle.dscript_eval_meaning.specs.States.{State}
use Rattle.dscript_eval_frames.specs.Forms.{acts_at}
use Rattle.dscript_eval_frames.specs.Views.{View}
use Rattle.dscript_eval_frames.specs.Works.{comes_by}

pub acts_open
    : (p : ProgramData) (n : ℕ) (a : Act) (s : State) → 0 < n → acts p n a s ≡ opened p (acts p (n - 1)) a s
unfolding acts
acts_open p zero a s some = absurd (omega (arith, some))
acts_open p (suc n) a s some = let e : n ≡ suc n - 1 = omega arith in ap (λ k. opened p (acts p k) a s) e

pub none_openable : (v : View) (a : Act) → v.openable ≡ 0 → comes_by (acts_at v a) v ≡ comes_by (fails kinds.Depth) v
unfolding acts
none_openable v a none = ap (λ n. comes_by (acts v.program n a) v) none
