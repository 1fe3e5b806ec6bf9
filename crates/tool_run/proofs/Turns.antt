-- Runs, one step after the other.
use Rattle.std.proofs.Common.{◌≡◌, ℕ, ◌+◌, ◌-◌, ◌<◌, zero, suc, List, [], ◌∷◌, ◌++◌, Option, Some, None, refl, ap, sym, ◌∙◌, subst, append_assoc, add_assoc, zero-add, arith}
use Rattle.std.specs.Prelude.{slice_get}
use Rattle.observed.specs.declared.ask.Ask.{Ask}
use Rattle.observed.specs.declared.access.Access.{Access}
use Rattle.observed.specs.declared.access.Access.TheVariants.{Asked}
use Rattle.observed.specs.declared.access.Answer.{Answer}
use Rattle.observed.specs.declared.access.End.{End}
use Rattle.observed.specs.declared.access.End.TheVariants as ends
use Rattle.tool_text.specs.declared.tool.Instr.{Instr}
use Rattle.tool_run.specs.declared.effect.Effect.{Effect}
use Rattle.tool_run.specs.declared.effect.Effect.TheVariants as effects
use Rattle.tool_run.specs.Description.{Description, answer_of}
use Rattle.tool_run.specs.Instructions.{act, with_answer}
use Rattle.tool_run.specs.Machine.{Machine, start}
use Rattle.tool_run.specs.Run.{Run, Turn, asked, ended, onward, run_after, run_from, run_of, run_tool, turn, turned}
use Rattle.tool_run.specs.Seen.{Turns}

-- past the last line
pub over : (d : Description) (a : Ask → Answer) (tool : List Instr) (left : ℕ) (m : Machine) → slice_get tool m.place ≡ None
    → run_from d a tool left m ≡ ended m (ends.Exit 0)
over d a tool zero m none = rw none refl
over d a tool (suc left) m none = rw none refl

-- no step is left
pub spent : (d : Description) (a : Ask → Answer) (tool : List Instr) (left : ℕ) (m : Machine) (i : Instr) → slice_get tool m.place ≡ Some i → left ≡ 0
    → run_from d a tool left m ≡ ended m ends.Budget
spent d a tool zero m i is none = rw is refl
spent d a tool (suc left) m i is none = absurd (omega arith)

one_more : (d : Description) (a : Ask → Answer) (tool : List Instr) (left : ℕ) (m : Machine) (i : Instr) → slice_get tool m.place ≡ Some i
    → run_from d a tool (suc left) m ≡ onward (run_from d a tool left) (turn d a m i) (turn d a m i).end
one_more d a tool left m i is = rw is refl

-- accesses and steps before a run are put before it in two parts or in one
twice : (before xs : List Access) (steps : ℕ) (r : Run) → run_after (before ++ xs) (steps + 1) r ≡ run_after before steps (run_after xs 1 r)
twice before xs steps r =
    ap (λ ys. record r { accesses = ys; steps = (steps + 1) + r.steps }) (append_assoc before xs r.accesses)
    ∙ ap (λ n. record r { accesses = before ++ (xs ++ r.accesses); steps = n }) (add_assoc steps 1 r.steps)

-- what the next step leads to
at_turn : (d : Description) (a : Ask → Answer) (tool : List Instr) (left : ℕ) (m : Machine) (i : Instr) (before : List Access) (steps : ℕ) (meant : Run)
    → slice_get tool m.place ≡ Some i → 0 < left → run_after before steps (run_from d a tool left m) ≡ meant
    → run_after before steps (onward (run_from d a tool (left - 1)) (turn d a m i) (turn d a m i).end) ≡ meant
at_turn d a tool left m i before steps meant is some comes =
    let one : left ≡ suc (left - 1) = omega arith in
    ap (run_after before steps) (sym (ap (λ n. run_from d a tool n m) one ∙ one_more d a tool (left - 1) m i is)) ∙ comes

-- a step leaves this machine, its accesses are recorded, and it is counted
pub goes_on : (d : Description) (a a' : Ask → Answer) (tool : List Instr) (left : ℕ) (m m' : Machine) (i : Instr)
    (before now : List Access) (steps steps' : ℕ) (meant : Run)
    → a' ≡ a → slice_get tool m.place ≡ Some i → 0 < left → Turns (turn d a' m i) m' before now None → steps' ≡ steps + 1
    → run_after before steps (run_from d a tool left m) ≡ meant
    → run_after now steps' (run_from d a tool (left - 1) m') ≡ meant
goes_on d a a' tool left m m' i before now steps steps' meant same is some turns counted comes =
    let mine : Turns (turn d a m i) m' before now None = subst (λ (f : Ask → Answer). Turns (turn d f m i) m' before now None) same turns in
    let rest : Machine → Run = run_from d a tool (left - 1) in
    ap (λ n. run_after now n (rest m')) counted
    ∙ ap (λ xs. run_after xs (steps + 1) (rest m')) mine.recorded
    ∙ ap (λ (x : Machine). run_after (before ++ (turn d a m i).accesses) (steps + 1) (rest x)) mine.machine_is
    ∙ twice before (turn d a m i).accesses steps (rest (turn d a m i).machine)
    ∙ ap (λ (e : Option End). run_after before steps (onward rest (turn d a m i) e)) mine.end_is
    ∙ at_turn d a tool left m i before steps meant is some comes

-- what a turn comes to where the run ends with it
pub ends_there : (d : Description) (a a' : Ask → Answer) (tool : List Instr) (left : ℕ) (m m' : Machine) (i : Instr)
    (before now : List Access) (steps steps' : ℕ) (meant : Run) (end : End)
    → a' ≡ a → slice_get tool m.place ≡ Some i → 0 < left → Turns (turn d a' m i) m' before now (Some end) → steps' ≡ steps + 1
    → run_after before steps (run_from d a tool left m) ≡ meant
    → run_after now steps' (ended m' end) ≡ meant
ends_there d a a' tool left m m' i before now steps steps' meant end same is some turns counted comes =
    let mine : Turns (turn d a m i) m' before now (Some end) = subst (λ (f : Ask → Answer). Turns (turn d f m i) m' before now (Some end)) same turns in
    ap (λ n. run_after now n (ended m' end)) counted
    ∙ ap (λ xs. run_after xs (steps + 1) (ended m' end)) mine.recorded
    ∙ ap (λ (x : Machine). run_after (before ++ (turn d a m i).accesses) (steps + 1) (ended x end)) mine.machine_is
    ∙ twice before (turn d a m i).accesses steps (ended (turn d a m i).machine end)
    ∙ ap (λ (e : Option End). run_after before steps (onward (run_from d a tool (left - 1)) (turn d a m i) e)) mine.end_is
    ∙ at_turn d a tool left m i before steps meant is some comes

-- the run of a tool that an executable is
pub run_is : (d : Description) (a : Ask → Answer) (tool : List Instr) → d.tool ≡ Some tool → run_from d a tool d.budget start ≡ run_of d a
run_is d a tool is = sym (ap (run_tool d a) is)

pub begins : (r : Run) (steps : ℕ) → steps ≡ 0 → run_after [] steps r ≡ r
begins r steps none = ap (λ n. record r { steps = n }) (ap (λ n. n + r.steps) none ∙ zero-add r.steps)

-- a step that put an ask and was answered
pub asked_turn : (d : Description) (a : Ask → Answer) (m : Machine) (i : Instr) (ask : Ask) (answer : Answer) (effect : Effect) (m' now' : Machine) (end : Option End)
    (before now : List Access)
    → (m', effect) ≡ act d m i → effect ≡ effects.Asks ask → answer ≡ answer_of d a ask → (now', end) ≡ with_answer m' i ask answer → now ≡ before ++ Asked ask answer ∷ []
    → Turns (turn d a m i) now' before now end
asked_turn d a m i ask answer effect m' now' end before now did asks is next recorded =
    let answered : Machine × Option End = with_answer m' i ask answer in
    let meant : turn d a m i ≡ asked answered ask answer =
    sym (ap (turned (answer_of d a) i) (ap (λ (x : Effect). (m', x)) (sym asks) ∙ did)) ∙ ap (λ x. asked (with_answer m' i ask x) ask x) (sym is) in
    record {
      machine_is = ap (λ (t : Machine × Option End). t.0) next ∙ ap (λ (t : Turn). t.machine) (sym meant);
      recorded = recorded ∙ ap (λ (t : Turn). before ++ t.accesses) (sym meant);
      end_is = ap (λ (t : Machine × Option End). t.1) next ∙ ap (λ (t : Turn). t.end) (sym meant);
    }
