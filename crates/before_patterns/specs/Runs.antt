-- Runs and their path sets as they were before there were listings with a pattern. What instructions do to values, and what writes do,
-- is as it is now.
use Rattle.std.specs.Prelude.{ℕ, Bool, zero, suc, List, [], ◌∷◌, ◌++◌, length, take, drop, Option, Some, None, if◌then◌else◌, slice_get}
use Rattle.std.specs.Fmt.{decimal}
use Rattle.std.specs.Str.{bytes_eq}
use Rattle.bx_tree.specs.Paths.{Atoms}
use Rattle.bx_tree.specs.Trees.{Files, file_at}
use Rattle.observed.specs.declared.ask.AskKind.{AskKind}
use Rattle.observed.specs.declared.ask.AskKind.TheVariants as kinds
use Rattle.observed.specs.declared.ask.Ask.{Ask}
use Rattle.observed.specs.declared.access.Access.{Access}
use Rattle.observed.specs.declared.access.Access.TheVariants.{Asked, Wrote, WriteDenied}
use Rattle.observed.specs.declared.access.Answer.{Answer}
use Rattle.observed.specs.declared.access.Answer.TheVariants as answers
use Rattle.observed.specs.declared.access.End.{End}
use Rattle.observed.specs.declared.access.End.TheVariants as ends
use Rattle.pip_model_types.specs.declared.desc.Desc.{Desc}
use Rattle.tool_text.specs.declared.tool.Instr.{Instr}
use Rattle.tool_text.specs.declared.tool.Instr.TheVariants as instrs
use Rattle.tool_run.specs.declared.effect.Effect.{Effect}
use Rattle.tool_run.specs.declared.effect.Effect.TheVariants as effects
use Rattle.tool_run.specs.Described.{described as described_now}
use Rattle.tool_run.specs.Description.{Description, declared_at, or_else, resolved}
use Rattle.tool_run.specs.Instructions.{names_of, or_jump, probe_with, read_with, value, with_number, writes_at}
use Rattle.tool_run.specs.Listings.{listed}
use Rattle.tool_run.specs.Machine.{Machine, at_place, effect_of, fitting, fitting_two, next, said, start}
use Rattle.tool_run.specs.Run.{Run, Turn, asked, at_end_or, ended, onward, with_ask}
use Rattle.tool_run.specs.Values.{number_of, split_parts, variable}
use Rattle.tool_run_writes.specs.Writes.{has_below, own_names}
use Rattle.before_patterns.specs.Asks.{set_of}
use Rattle.before_patterns.specs.Tools.{tool_of}

-- the description of a process, with the tool that its executable was
abbrev pub described : Desc → Description
described d = record (described_now d) { tool = tool_of d.exe }

-- ## Asks

-- what a written file, or one that was written below the path, answers
abbrev pub own_file : AskKind → Option (List ℕ) → Bool → Option Answer
own_file kinds.Read (Some bytes) below = Some (answers.Content bytes)
own_file kinds.Probe (Some bytes) below = Some answers.File
own_file kinds.List (Some bytes) below = Some (answers.Names [])
own_file kinds.Read None below = if below then Some answers.Directory else None
own_file kinds.Probe None below = if below then Some answers.Directory else None
own_file kinds.List None below = None
own_file (kinds.Match pattern) file below = None

-- what the run's own writes answer to an ask, if anything
abbrev pub own_answer : Files → Ask → Option Answer
own_answer writes ask = own_file ask.kind (file_at writes ask.path) (has_below writes ask.path)

-- what a declared file answers: a read and a probe, not a listing
abbrev pub file_answer : AskKind → Option (List ℕ) → Option Answer
file_answer kind None = None
file_answer kinds.Read (Some bytes) = Some (answers.Content bytes)
file_answer kinds.Probe (Some bytes) = Some answers.File
file_answer kinds.List (Some bytes) = None
file_answer (kinds.Match pattern) (Some bytes) = None

abbrev pub given : Description → Ask → Option Answer
given d ask = file_answer ask.kind (declared_at d ask.path)

-- what an ask is answered: by the declared files first, and else by the view
abbrev pub answer_of : Description → (Ask → Answer) → Ask → Answer
answer_of d a ask = or_else (given d ask) (a ask)

-- ## Instructions

-- a listing is answered: the run's own writes add to the names
abbrev pub list_with : Machine → ℕ → Atoms → Answer → Machine × Option End
list_with m r path answer = fitting m r (listed (names_of answer) (own_names m.writes path))

-- an instruction that looked at a path gets its answer
abbrev pub with_answer : Machine → Instr → Ask → Answer → Machine × Option End
with_answer m (instrs.Read r x label) ask answer = read_with m r label answer
with_answer m (instrs.Probe r x) ask answer = probe_with m r answer
with_answer m (instrs.List r x) ask answer = list_with m r ask.path answer
with_answer m (instrs.Set r x) ask answer = (m, None)
with_answer m (instrs.Cat r x y) ask answer = (m, None)
with_answer m (instrs.Len r x) ask answer = (m, None)
with_answer m (instrs.Head r x n) ask answer = (m, None)
with_answer m (instrs.Tail r x n) ask answer = (m, None)
with_answer m (instrs.Split r s x y) ask answer = (m, None)
with_answer m (instrs.Arg r n label) ask answer = (m, None)
with_answer m (instrs.Args r) ask answer = (m, None)
with_answer m (instrs.Env r x label) ask answer = (m, None)
with_answer m (instrs.Eq x y label) ask answer = (m, None)
with_answer m (instrs.Jump label) ask answer = (m, None)
with_answer m (instrs.Exit n) ask answer = (m, None)
with_answer m (instrs.Say x) ask answer = (m, None)
with_answer m (instrs.Write x y) ask answer = (m, None)
with_answer m (instrs.Match r x y) ask answer = (m, None)

-- the run's own writes answer, or the ask is put
abbrev pub look_up : Machine → Instr → Ask → Option Answer → Machine × Effect
look_up m i ask None = (m, effects.Asks ask)
look_up m i ask (Some answer) = effect_of (with_answer m i ask answer)

-- an instruction looks at a path, which a text may not name
abbrev pub looks : Machine → Instr → AskKind → Option Atoms → Machine × Effect
looks m i kind None = (m, effects.Stops ends.BadPath)
looks m i kind (Some path) =
    look_up m i (record { kind = kind; path = path })
    (own_answer m.writes (record { kind = kind; path = path }))

-- ## All instructions

-- an instruction, up to an ask
abbrev pub act : Description → Machine → Instr → Machine × Effect
act d m (instrs.Set r x) = effect_of (fitting m r (value m x))
act d m (instrs.Cat r x y) = effect_of (fitting m r (value m x ++ value m y))
act d m (instrs.Len r x) = effect_of (fitting m r (decimal (length (value m x))))
act d m (instrs.Head r x n) =
    with_number m (number_of (value m n)) (λ k. effect_of (fitting m r (take k (value m x))))
act d m (instrs.Tail r x n) =
    with_number m (number_of (value m n)) (λ k. effect_of (fitting m r (drop k (value m x))))
act d m (instrs.Split r s x y) =
    effect_of (fitting_two m r s (split_parts (value m y) (value m x)).0
    (split_parts (value m y) (value m x)).1)
act d m (instrs.Arg r n label) =
    with_number m (number_of (value m n)) (λ k. or_jump m r label (slice_get d.args k))
act d m (instrs.Args r) = effect_of (fitting m r (decimal (length d.args)))
act d m (instrs.Env r x label) = or_jump m r label (variable d.env (value m x))
act d m (instrs.Eq x y label) =
    (if bytes_eq (value m x) (value m y) then at_place m label else next m, effects.Goes)
act d m (instrs.Jump label) = (at_place m label, effects.Goes)
act d m (instrs.Exit n) = (m, effects.Stops (ends.Exit n))
act d m (instrs.Say x) = said m (value m x)
act d m (instrs.Read r x label) = looks m (instrs.Read r x label) kinds.Read (resolved d.dir (value m x))
act d m (instrs.Probe r x) = looks m (instrs.Probe r x) kinds.Probe (resolved d.dir (value m x))
act d m (instrs.List r x) = looks m (instrs.List r x) kinds.List (resolved d.dir (value m x))
act d m (instrs.Write x y) = writes_at d m (value m y) (resolved d.dir (value m x))
-- (an instruction that there was not)
act d m (instrs.Match r x y) = (m, effects.Stops ends.BadProgram)

-- ## Turns

abbrev pub turned : (Ask → Answer) → Instr → Machine × Effect → Turn
turned see i (m, effects.Goes) = record { machine = m; accesses = []; end = None }
turned see i (m, effects.Asks ask) = asked (with_answer m i ask (see ask)) ask (see ask)
turned see i (m, effects.Wrote path) = record { machine = m; accesses = Wrote path ∷ []; end = None }
turned see i (m, effects.Refused path) =
    record { machine = m; accesses = WriteDenied path ∷ []; end = Some ends.Denied }
turned see i (m, effects.Stops end) = record { machine = m; accesses = []; end = Some end }

abbrev pub turn : Description → (Ask → Answer) → Machine → Instr → Turn
turn d a m i = turned (answer_of d a) i (act d m i)

-- ## Runs

-- The run of a tool from a machine on, with a number of steps left.
abbrev pub run_from : Description → (Ask → Answer) → List Instr → ℕ → Machine → Run
run_from d a tool zero m = at_end_or m (slice_get tool m.place) (λ i. ended m ends.Budget)
run_from d a tool (suc left) m =
    at_end_or m (slice_get tool m.place)
    (λ i. onward (run_from d a tool left) (turn d a m i) (turn d a m i).end)

-- an executable that is no tool ends at once
abbrev pub run_tool : Description → (Ask → Answer) → Option (List Instr) → Run
run_tool d a None = ended start ends.BadProgram
run_tool d a (Some tool) = run_from d a tool d.budget start

-- The run of a description, where asks are answered so.
abbrev pub run_of : Description → (Ask → Answer) → Run
run_of d a = run_tool d a d.tool

-- ## The path set

-- the asks among accesses, but for reads and probes of the executable and the declared files
abbrev pub asks_of : Description → List Access → List Ask
asks_of d [] = []
asks_of d (Asked ask answer ∷ rest) = with_ask (given d ask) ask (asks_of d rest)
asks_of d (Wrote path ∷ rest) = asks_of d rest
asks_of d (WriteDenied path ∷ rest) = asks_of d rest

-- the path set of accesses
abbrev pub path_set : Description → List Access → List Ask
path_set d accesses = set_of (asks_of d accesses)
