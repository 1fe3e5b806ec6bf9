-- From the machine's end to the answer.
use Rattle.std.proofs.Common.{◌≡◌, ℕ, ◌+◌, List, [], ◌∷◌, drop, Result, Ok, Err, refl, ap, sym, ◌∙◌}
use Rattle.std.specs.Prelude.{slice_get}
use Rattle.bx_tree.specs.Trees.{Files}
use Rattle.dscript_sdk_calls.specs.Sources.{Answers, tree_answers}
use Rattle.dscript_program.specs.ProgramData.{FileData, FunctionData, ProgramData}
use Rattle.dscript_value.specs.Plain as plain
use Rattle.dscript_eval_meaning.specs.Acts.{Acts}
use Rattle.dscript_eval_meaning.specs.Answers.{Stops}
use Rattle.dscript_eval_meaning.specs.Evaluating.{Stop, followed, gives, ◌>>◌}
use Rattle.dscript_eval_meaning.specs.Lookups.{path_at}
use Rattle.dscript_eval_meaning.specs.Meaning.{Refused, Unnumbered, acts, answered_meaning, demand_decls, demand_files, evaluated, made_or_refusal}
use Rattle.dscript_eval_meaning.specs.Meaning.{meaning, pips_or_refusal, start}
use Rattle.dscript_sdk_pips.specs.States.{State as Calls, no_calls}
use Rattle.dscript_value.specs.Plain.{Plain}
use Rattle.dscript_eval_meaning.specs.Constants.{Table, all_waiting}
use Rattle.dscript_eval_meaning.specs.Frames.{constant_frame}
use Rattle.dscript_eval_meaning.specs.States as states
use Rattle.dscript_eval_meaning.specs.States.{State}
use Rattle.dscript_eval_frames.specs.declared.work.Work.{Work}
use Rattle.dscript_eval_meaning.specs.Statements.{On}
use Rattle.dscript_eval_meaning.specs.declared.fault.EvalFault.{EvalFault}
use Rattle.dscript_eval_meaning.specs.declared.fault.EvalFault.TheVariants as eval_faults
use Rattle.dscript_eval_meaning.specs.declared.limits.TheConstants.{MAX_OPEN_CALLS}
use Rattle.dscript_eval_frames.specs.Keeps.{StopsWith}
use Rattle.dscript_eval.specs.Tops.{IsAnsweredAs, first_view}
use Rattle.dscript_eval_frames.specs.Views.{View}
use Rattle.dscript_eval_frames.specs.Works.{comes, decls_of, run}
use Rattle.dscript_eval_frames.specs.declared.work.StmtWork.TheVariants as stmt
use Rattle.dscript_eval_frames.specs.declared.work.Work.TheVariants as works
use Rattle.dscript_eval_frames.specs.declared.stop.Stop.{Stop as MachineStop}
use Rattle.dscript_eval_frames.specs.declared.stop.Stop.TheVariants as stops
use Rattle.dscript_eval_frames.proofs.Followed.{followed-followed, followed-same}

followed-unit
    : (r : Result (Unit {0} × State) Stop)
    → followed (followed r (λ u s. Ok (On, s))) (λ way s. Ok (tt, s)) ≡ r
followed-unit (Ok r) = refl
followed-unit (Err stop) = refl

all_demands
    : (act : Acts) (files : List FileData) (s : State)
    → followed ((demand_decls act 0 0 (drop 0 (decls_of (slice_get files 0))) >> demand_files act (0 + 1) (drop (0 + 1) files) >> gives On) s)
    (λ way later. Ok (tt, later))
    ≡ demand_files act 0 files s
all_demands act [] s = refl
all_demands act (f ∷ fs) s =
    followed-followed (demand_decls act 0 0 f.decls s) _ _
    ∙ followed-same (demand_decls act 0 0 f.decls s) _ _ (λ x s1. followed-unit (demand_files act 1 fs s1))

pub evaluated-comes
    : (p : ProgramData) (answers : Answers) (budget : ℕ)
    → evaluated p answers budget ≡ comes (first_view p answers budget)
unfolding evaluated
evaluated-comes p answers budget = sym (all_demands (acts p MAX_OPEN_CALLS) p.files (start p answers budget))

-- the pips at the end are those of the program
pub built
    : (p : ProgramData) (sources : Files) (budget : ℕ) (end : State)
    → comes (first_view p (tree_answers sources) budget) ≡ Ok (tt, end) → meaning p sources budget ≡ Ok end.calls.pips
unfolding meaning
built p sources budget end is = ap (pips_or_refusal p) (evaluated-comes p (tree_answers sources) budget ∙ is)

-- the pips and the asks at the end are those of the program
pub asked
    : (p : ProgramData) (answers : Answers) (budget : ℕ) (end : State)
    → comes (first_view p answers budget) ≡ Ok (tt, end)
    → answered_meaning p answers budget ≡ Ok (end.calls.pips, end.calls.asks)
unfolding answered_meaning
asked p answers budget end is = ap (made_or_refusal p) (evaluated-comes p answers budget ∙ is)

-- why the machine stopped is why the program is refused
pub answered_as
    : (p : ProgramData) (sources : Files) (budget : ℕ) (stop : MachineStop) (fault : EvalFault)
    → StopsWith stop (comes (first_view p (tree_answers sources) budget)) → IsAnsweredAs p stop fault → Stops p sources budget fault
unfolding meaning
answered_as p sources budget stop eval_faults.Memory is as' = tt
answered_as p sources budget (stops.Fault kind file message) (eval_faults.Fault k path m) is as' =
    ap (pips_or_refusal p) (evaluated-comes p (tree_answers sources) budget ∙ is)
    ∙ ap (λ x. Err (Refused x (path_at p file) message)) (sym as'.0)
    ∙ ap (λ x. Err (Refused k x message)) (sym as'.1)
    ∙ ap (λ x. Err (Refused k path x)) (sym as'.2)
answered_as p sources budget stops.Memory (eval_faults.Fault k path m) is as' = absurd as'

-- a program that makes more pips than can be numbered is refused as out of memory
pub unnumbered_is
    : (p : ProgramData) (sources : Files) (budget : ℕ) (fault : EvalFault) → Stops p sources budget fault
    → meaning p sources budget ≡ Err Unnumbered → fault ≡ eval_faults.Memory
unnumbered_is p sources budget (eval_faults.Fault kind file message) stops none = cc
unnumbered_is p sources budget eval_faults.Memory stops none = refl

-- where nothing is left to be done, the machine is at the end
pub ended : (v : View) → v.work ≡ [] → comes v ≡ Ok (tt, v.state)
ended v none = ap (λ ws. run v.program ws On v.openable v.given v.state) none

abbrev view_at : ProgramData → List Work → Plain → State → View
view_at p work given s = record { program = p; work = work; given = given; openable = MAX_OPEN_CALLS; state = s }

abbrev state_at : ℕ → states.Frame → Table → Calls → State
state_at budget frame table calls = record { left = budget; frame = frame; constants = table; calls = calls }

-- the machine before the first step, part by part
pub first_is
    : (p : ProgramData) (functions : List FunctionData) (answers : Answers) (budget : ℕ) (work : List Work) (given : Plain)
    (frame : states.Frame) (table : Table) (calls : Calls) → functions ≡ p.functions
    → work ≡ works.Stmt (stmt.Demands 0 0) ∷ [] → given ≡ plain.Undefined
    → frame ≡ constant_frame 0 → table ≡ all_waiting p → calls ≡ no_calls answers
    → view_at (record { files = p.files; functions = functions }) work given (state_at budget frame table calls)
    ≡ first_view p answers budget
first_is p functions answers budget work given frame table calls functions_are work_is given_is frame_is table_is calls_is =
    let first : List Work = works.Stmt (stmt.Demands 0 0) ∷ [] in
    ap (λ fs. view_at (record { files = p.files; functions = fs }) work given (state_at budget frame table calls)) functions_are
    ∙ ap (λ w. view_at p w given (state_at budget frame table calls)) work_is
    ∙ ap (λ x. view_at p first x (state_at budget frame table calls)) given_is
    ∙ ap (λ f. view_at p first plain.Undefined (state_at budget f table calls)) frame_is
    ∙ ap (λ t. view_at p first plain.Undefined (state_at budget (constant_frame 0) t calls)) table_is
    ∙ ap (λ k. view_at p first plain.Undefined (state_at budget (constant_frame 0) (all_waiting p) k)) calls_is
