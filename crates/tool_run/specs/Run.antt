-- The run of a tool.
use Rattle.std.specs.Prelude.{ℕ, zero, suc, ◌+◌, List, [], ◌∷◌, ◌++◌, Option, Some, None, slice_get}
use Rattle.bx_tree.specs.Trees.{Files}
use Rattle.observed.specs.declared.ask.Ask.{Ask}
use Rattle.observed.specs.declared.access.Access.{Access}
use Rattle.observed.specs.declared.access.Access.TheVariants.{Asked, Wrote, WriteDenied}
use Rattle.observed.specs.declared.access.Answer.{Answer}
use Rattle.observed.specs.declared.access.End.{End}
use Rattle.observed.specs.declared.access.End.TheVariants as ends
use Rattle.observed.specs.PathSets.{set_of}
use Rattle.tool_text.specs.declared.tool.Instr.{Instr}
use Rattle.tool_run.specs.declared.effect.Effect.{Effect}
use Rattle.tool_run.specs.declared.effect.Effect.TheVariants as effects
use Rattle.tool_run.specs.Description.{Description, answer_of, given}
use Rattle.tool_run.specs.Machine.{Machine, start}
use Rattle.tool_run.specs.Instructions.{act, with_answer}

-- ## One step

-- what one instruction leaves and records, and whether the run ends there
pub record Turn : Type 0 where
  pub machine : Machine
  pub accesses : List Access
  pub end : Option End

abbrev pub asked : Machine × Option End → Ask → Answer → Turn
asked t ask answer = record { machine = t.0; accesses = Asked ask answer ∷ []; end = t.1 }

abbrev pub turned : (Ask → Answer) → Instr → Machine × Effect → Turn
turned see i (m, effects.Goes) = record { machine = m; accesses = []; end = None }
turned see i (m, effects.Asks ask) = asked (with_answer m i ask (see ask)) ask (see ask)
turned see i (m, effects.Wrote path) = record { machine = m; accesses = Wrote path ∷ []; end = None }
turned see i (m, effects.Refused path) =
    record { machine = m; accesses = WriteDenied path ∷ []; end = Some ends.Denied }
turned see i (m, effects.Stops end) = record { machine = m; accesses = []; end = Some end }

abbrev pub turn : Description → (Ask → Answer) → Machine → Instr → Turn
turn d a m i = turned (answer_of d a) i (act d m i)

-- ## All steps

-- what a run did
pub record Run : Type 0 where
  pub accesses : List Access
  pub writes : Files
  pub console : List ℕ
  pub end : End
  pub steps : ℕ

abbrev pub ended : Machine → End → Run
ended m end = record { accesses = []; writes = m.writes; console = m.console; end = end; steps = 0 }

-- a run with these accesses and steps before it
abbrev pub run_after : List Access → ℕ → Run → Run
run_after accesses steps r = record r { accesses = accesses ++ r.accesses; steps = steps + r.steps }

-- the rest of a run after a step, unless the step ended it
abbrev pub onward : (Machine → Run) → Turn → Option End → Run
onward rest t None = run_after t.accesses 1 (rest t.machine)
onward rest t (Some end) = run_after t.accesses 1 (ended t.machine end)

-- past the last line the run ends, at no step
abbrev pub at_end_or : Machine → Option Instr → (Instr → Run) → Run
at_end_or m None rest = ended m (ends.Exit 0)
at_end_or m (Some i) rest = rest i

-- The run of a tool from a machine on, with a number of steps left.
abbrev pub run_from : Description → (Ask → Answer) → List Instr → ℕ → Machine → Run
run_from d a tool zero m = at_end_or m (slice_get tool m.place) (λ i. ended m ends.Budget)
run_from d a tool (suc left) m =
    at_end_or m (slice_get tool m.place)
    (λ i. onward (run_from d a tool left) (turn d a m i) (turn d a m i).end)

-- an executable that is no tool ends at once
abbrev pub run_tool : Description → (Ask → Answer) → Option (List Instr) → Run
run_tool d a None = ended start ends.BadProgram
run_tool d a (Some tool) = run_from d a tool d.budget start

-- The run of a description, where asks are answered so.
abbrev pub run_of : Description → (Ask → Answer) → Run
run_of d a = run_tool d a d.tool

-- ## The path set

abbrev pub with_ask : Option Answer → Ask → List Ask → List Ask
with_ask None ask asks = ask ∷ asks
with_ask (Some answer) ask asks = asks

-- the asks among accesses, but for reads and probes of the executable and the declared files
abbrev pub asks_of : Description → List Access → List Ask
asks_of d [] = []
asks_of d (Asked ask answer ∷ rest) = with_ask (given d ask) ask (asks_of d rest)
asks_of d (Wrote path ∷ rest) = asks_of d rest
asks_of d (WriteDenied path ∷ rest) = asks_of d rest

-- the path set of accesses
abbrev pub path_set : Description → List Access → List Ask
path_set d accesses = set_of (asks_of d accesses)
