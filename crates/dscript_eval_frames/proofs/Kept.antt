-- What keeps what is to come.
use Rattle.std.proofs.Common.{◌≡◌, ◌≢◌, ℕ, List, Option, Some, None, MatchResult, Result, Ok, Err, refl, ap, sym, ◌∙◌, subst}
use Rattle.dscript_value.specs.Plain as plain
use Rattle.dscript_value.specs.Plain.{Plain, plain_of}
use Rattle.dscript_value.specs.declared.value.Value.{Value}
use Rattle.dscript_sdk_values.specs.Outcomes.{Outcome, Refuses}
use Rattle.dscript_sdk_values.specs.declared.fault.SdkFault.{SdkFault}
use Rattle.dscript_sdk_values.specs.declared.fault.SdkFault.TheVariants as sdk_faults
use Rattle.dscript_eval_meaning.specs.Evaluating.{Gives, answered, followed, gives, spend, ◌>>◌}
use Rattle.dscript_eval_meaning.specs.Meaning.{acts}
use Rattle.dscript_eval_meaning.specs.States.{State}
use Rattle.dscript_eval_meaning.specs.Statements.{Way, On}
use Rattle.dscript_eval_frames.specs.Faults.{stop_in}
use Rattle.dscript_program.specs.BoundTree.{ExprData}
use Rattle.dscript_eval_frames.specs.Forms.{rest_at, rest_of, value_at}
use Rattle.dscript_eval_frames.specs.Costs.{expr_cost}
use Rattle.dscript_eval_frames.specs.Made.{Answers}
use Rattle.dscript_eval_frames.proofs.Forms.{value_begins}
use Rattle.dscript_eval_frames.specs.Keeps.{PreservesAnswer, StopsWith}
use Rattle.dscript_eval_frames.specs.Steps.{Spent, Unspent}
use Rattle.dscript_eval_frames.specs.Views.{View}
use Rattle.dscript_eval_frames.specs.Works.{Answer, Continuation, comes, comes_by, goes_by, run, with_value, with_way}
use Rattle.dscript_eval_frames.specs.declared.stop.Stop.{Stop}
use Rattle.dscript_eval_frames.specs.declared.stop.Stop.TheVariants as stops

-- what was pushed or put keeps what comes
pub kept
    : (result : Result (Unit {0}) Stop) (before : Answer) (v w : View)
    → MatchResult result (λ _. w ≡ v) (λ stop. stop ≡ stops.Memory) → before ≡ comes v → PreservesAnswer result before w
kept (Ok done) before v w is move = move ∙ ap comes (sym is)
kept (Err stop) before v w is move = let P : Stop → Type 0 = λ e. StopsWith e before in subst P (sym is) tt

-- what comes may be written in another way
pub keeps_at
    : (result : Result (Unit {0}) Stop) (before now : Answer) (w : View)
    → before ≡ now → PreservesAnswer result now w → PreservesAnswer result before w
keeps_at result before now w is kept = let P : Answer → Type 0 = λ a. PreservesAnswer result a w in subst P (sym is) kept

-- a fault is that of what was to come
pub refused
    : (o : Outcome Plain) (fault : SdkFault) (k : Continuation) (openable : ℕ) (s : State) → Refuses fault o
    → StopsWith (stop_in s.frame.file fault) (with_value k openable (answered o) s)
refused o sdk_faults.Kind k openable s h = ap (λ r. with_value k openable (answered r) s) (h (λ e. cc))
refused o sdk_faults.Missing k openable s h = ap (λ r. with_value k openable (answered r) s) (h (λ e. cc))
refused o sdk_faults.Range k openable s h = ap (λ r. with_value k openable (answered r) s) (h (λ e. cc))
refused o sdk_faults.BadPath k openable s h = ap (λ r. with_value k openable (answered r) s) (h (λ e. cc))
refused o sdk_faults.BadArgument k openable s h = ap (λ r. with_value k openable (answered r) s) (h (λ e. cc))
refused o (sdk_faults.User message) k openable s h = ap (λ r. with_value k openable (answered r) s) (h (λ e. cc))
refused o sdk_faults.Memory k openable s h = tt

-- steps before what comes
pub spent_first
    : (result : Result (Unit {0}) Stop) (n : ℕ) (m : Gives Plain) (v w u : View) → Spent n v w
    → PreservesAnswer result (comes_by m w) u → PreservesAnswer result (comes_by (spend n >> m) v) u
spent_first result n m v w u spent after =
    keeps_at result _ _ u
    (ap (λ r. followed (followed r (λ x. m)) (λ x later. run v.program v.work On v.openable x later)) spent.state
    ∙ ap (λ (z : View). with_value (run z.program z.work) z.openable m w.state) (sym spent.others))
    after

pub unspent_first
    : (n : ℕ) (m : Gives Plain) (v : View) (stop : Stop) → Unspent n v stop
    → StopsWith stop (comes_by (spend n >> m) v)
unspent_first n m v stop unspent =
    let P : Stop → Type 0 = λ e. StopsWith e (comes_by (spend n >> m) v) in
    subst P (sym unspent.fault)
    (ap (λ r. followed (followed r (λ x. m)) (λ x later. run v.program v.work On v.openable x later)) unspent.state)

-- the steps of an expression before the rest of it
same_rest : (v w : View) (e : ExprData) (n : ℕ) → Spent n v w → rest_at w e ≡ rest_at v e
same_rest v w e n spent = ap (λ (z : View). rest_of z.program (acts z.program z.openable) e) spent.others

begins : (v : View) (e : ExprData) → comes_by (value_at v e) v ≡ comes_by (spend (expr_cost e) >> rest_at v e) v
begins v e = ap (λ r. followed r (λ x later. run v.program v.work On v.openable x later)) (value_begins v.program (acts v.program v.openable) e v.state)

pub spent_rest
    : (result : Result (Unit {0}) Stop) (v w u : View) (e : ExprData) (n : ℕ) → n ≡ expr_cost e → Spent n v w
    → PreservesAnswer result (comes_by (rest_at w e) w) u → PreservesAnswer result (comes_by (value_at v e) v) u
spent_rest result v w u e n is spent after =
    keeps_at result _ _ u (begins v e)
    (spent_first result (expr_cost e) (rest_at v e) v w u (subst (λ k. Spent k v w) is spent)
    (keeps_at result _ _ u (ap (λ m. comes_by m w) (sym (same_rest v w e n spent))) after))

pub unspent_rest
    : (v : View) (e : ExprData) (stop : Stop) (n : ℕ) → n ≡ expr_cost e → Unspent n v stop
    → StopsWith stop (comes_by (value_at v e) v)
unspent_rest v e stop n is unspent =
    let P : Answer → Type 0 = λ a. StopsWith stop a in
    subst P (sym (begins v e)) (unspent_first (expr_cost e) (rest_at v e) v stop (subst (λ k. Unspent k v stop) is unspent))

-- a value, or the fault in its place
pub finished
    : (result : Result (Unit {0}) Stop) (o : Outcome Plain) (x : Plain) (v w : View) → o ≡ Ok x
    → PreservesAnswer result (comes_by (gives x) v) w → PreservesAnswer result (comes_by (answered o) v) w
finished result o x v w is after = keeps_at result _ _ w (ap (λ r. comes_by (answered r) v) is) after

pub unfinished
    : (stop : Stop) (o : Outcome Plain) (fault : SdkFault) (v : View) → Refuses fault o
    → stop ≡ stop_in v.state.frame.file fault → StopsWith stop (comes_by (answered o) v)
unfinished stop o fault v h is =
    let P : Stop → Type 0 = λ e. StopsWith e (comes_by (answered o) v) in
    subst P (sym is) (refused o fault (run v.program v.work) v.openable v.state h)

-- steps before what the view after them says
pub spent_then
    : (result : Result (Unit {0}) Stop) (n : ℕ) (f : View → Gives Plain) (v w u : View) → Spent n v w
    → f (record v { state = w.state }) ≡ f v
    → PreservesAnswer result (comes_by (f w) w) u → PreservesAnswer result (comes_by (spend n >> f v) v) u
spent_then result n f v w u spent same after =
    spent_first result n (f v) v w u spent
    (keeps_at result _ _ u (ap (λ m. comes_by m w) (sym (ap f spent.others ∙ same))) after)

-- steps before what the view after them says of a statement
pub spent_goes
    : (result : Result (Unit {0}) Stop) (n : ℕ) (f : View → Gives Way) (v w u : View) → Spent n v w
    → f (record v { state = w.state }) ≡ f v
    → PreservesAnswer result (goes_by (f w) w) u → PreservesAnswer result (goes_by (spend n >> f v) v) u
spent_goes result n f v w u spent same after =
    keeps_at result _ _ u
    (ap (λ r. followed (followed r (λ x. f v)) (λ way later. run v.program v.work way v.openable plain.Undefined later)) spent.state
    ∙ ap (λ (z : View). with_way (run z.program z.work) z.openable (f v) w.state) (sym spent.others)
    ∙ ap (λ m. goes_by m w) (sym (ap f spent.others ∙ same)))
    after

pub unspent_goes
    : (n : ℕ) (m : Gives Way) (v : View) (stop : Stop) → Unspent n v stop
    → StopsWith stop (goes_by (spend n >> m) v)
unspent_goes n m v stop unspent =
    let P : Stop → Type 0 = λ e. StopsWith e (goes_by (spend n >> m) v) in
    subst P (sym unspent.fault)
    (ap (λ r. followed (followed r (λ x. m)) (λ way later. run v.program v.work way v.openable plain.Undefined later)) unspent.state)

pub memory_stops : (stop : Stop) (before : Answer) → stop ≡ stops.Memory → StopsWith stop before
memory_stops stop before is = let P : Stop → Type 0 = λ e. StopsWith e before in subst P (sym is) tt

-- a call each of whose faults is the one that is defined
pub exact
    : (r : Result Value SdkFault) (o : Outcome Plain) → MatchResult r (λ x. o ≡ Ok (plain_of x)) (λ f. o ≡ Err f)
    → Answers r o
exact (Ok x) o h = h
exact (Err f) o h = λ n. h
