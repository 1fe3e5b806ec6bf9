-- A fault in place of what was to come.
use Rattle.std.proofs.Common.{◌≡◌, ℕ, None, Err, ap, sym, subst}
use Rattle.dscript_sdk_values.specs.Outcomes.{Outcome, Refuses}
use Rattle.dscript_sdk_values.specs.declared.fault.SdkFault.{SdkFault}
use Rattle.dscript_sdk_values.specs.declared.fault.SdkFault.TheVariants as sdk_faults
use Rattle.dscript_eval_meaning.specs.Evaluating.{Fault, Gives, answered, followed}
use Rattle.dscript_eval_meaning.specs.declared.fault.EvalKind.{EvalKind}
use Rattle.dscript_eval_meaning.specs.States.{State}
use Rattle.dscript_eval_frames.specs.Faults.{stop_in}
use Rattle.dscript_eval_frames.specs.Keeps.{StopsWith}
use Rattle.dscript_eval_frames.specs.Works.{Answer}
use Rattle.dscript_eval_frames.specs.declared.stop.Stop.{Stop}
use Rattle.dscript_eval_frames.specs.declared.stop.Stop.TheVariants as stops

refused_first
    : {A B : Type 0} (o : Outcome A) (fault : SdkFault) (m : A → Gives B) (k : B → Gives (Unit {0})) (s : State)
    → Refuses fault o → StopsWith (stop_in s.frame.file fault) (followed (followed (answered o s) m) k)
refused_first o sdk_faults.Kind m k s h = ap (λ r. followed (followed (answered r s) m) k) (h (λ e. cc))
refused_first o sdk_faults.Missing m k s h = ap (λ r. followed (followed (answered r s) m) k) (h (λ e. cc))
refused_first o sdk_faults.Range m k s h = ap (λ r. followed (followed (answered r s) m) k) (h (λ e. cc))
refused_first o sdk_faults.BadPath m k s h = ap (λ r. followed (followed (answered r s) m) k) (h (λ e. cc))
refused_first o sdk_faults.BadArgument m k s h = ap (λ r. followed (followed (answered r s) m) k) (h (λ e. cc))
refused_first o (sdk_faults.User message) m k s h = ap (λ r. followed (followed (answered r s) m) k) (h (λ e. cc))
refused_first o sdk_faults.Memory m k s h = tt

-- what needs an outcome stops with its fault
pub stops_first
    : {A B : Type 0} (stop : Stop) (o : Outcome A) (fault : SdkFault) (m : A → Gives B) (k : B → Gives (Unit {0}))
    (s : State) → stop ≡ stop_in s.frame.file fault → Refuses fault o
    → StopsWith stop (followed (followed (answered o s) m) k)
stops_first stop o fault m k s is h =
    let P : Stop → Type 0 = λ e. StopsWith e (followed (followed (answered o s) m) k) in
    subst P (sym is) (refused_first o fault m k s h)

-- a fault in the place of what was to come
pub faulted
    : (stop : Stop) (before : Answer) (kind : EvalKind) (file : ℕ) → stop ≡ stops.Fault kind file None
    → before ≡ Err (Fault kind file None) → StopsWith stop before
faulted stop before kind file is fault =
    let P : Stop → Type 0 = λ e. StopsWith e before in subst P (sym is) fault
