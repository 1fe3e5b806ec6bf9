-- What each instruction does.
use Rattle.std.specs.Prelude.{ℕ, List, [], ◌++◌, codes, length, take, drop, Option, Some, None, if◌then◌else◌}
use Rattle.std.specs.Prelude.{slice_get}
use Rattle.std.specs.Fmt.{decimal}
use Rattle.std.specs.Str.{bytes_eq}
use Rattle.bx_tree.specs.Paths.{Atoms}
use Rattle.bx_path.specs.Globbing.{is_pattern}
use Rattle.observed.specs.Asks.{asked_names}
use Rattle.observed.specs.declared.ask.AskKind.{AskKind}
use Rattle.observed.specs.declared.ask.AskKind.TheVariants as kinds
use Rattle.observed.specs.declared.ask.Ask.{Ask}
use Rattle.observed.specs.declared.access.Answer.{Answer}
use Rattle.observed.specs.declared.access.Answer.TheVariants as answers
use Rattle.observed.specs.declared.access.End.{End}
use Rattle.observed.specs.declared.access.End.TheVariants as ends
use Rattle.tool_text.specs.declared.tool.Operand.{Operand}
use Rattle.tool_text.specs.declared.tool.Instr.{Instr}
use Rattle.tool_text.specs.declared.tool.Instr.TheVariants as instrs
use Rattle.tool_run.specs.declared.effect.Effect.{Effect}
use Rattle.tool_run.specs.declared.effect.Effect.TheVariants as effects
use Rattle.tool_run.specs.Description.{Description, permits, resolved}
use Rattle.tool_run.specs.Values.{number_of, split_parts, value_of, variable}
use Rattle.tool_run_writes.specs.Writes.{clashes, own_answer, own_names}
use Rattle.tool_run.specs.Listings.{listed}
use Rattle.tool_run.specs.Machine.{Machine, at_place, effect_of, fitting, fitting_two, next, said, written}

abbrev pub value : Machine → Operand → List ℕ
value m x = value_of m.registers x

-- ## Values

-- what is done with a number, which a text may not be
abbrev pub with_number : Machine → Option ℕ → (ℕ → Machine × Effect) → Machine × Effect
with_number m None f = (m, effects.Stops ends.BadProgram)
with_number m (Some n) f = f n

-- a register becomes a value that may be wanting; then the run jumps
abbrev pub or_jump : Machine → ℕ → ℕ → Option (List ℕ) → Machine × Effect
or_jump m r label None = (at_place m label, effects.Goes)
or_jump m r label (Some bytes) = effect_of (fitting m r bytes)

-- ## Looking at the files

-- a read is answered: content goes into the register, a refusal ends the run, all else jumps
abbrev pub read_with : Machine → ℕ → ℕ → Answer → Machine × Option End
read_with m r label (answers.Content bytes) = fitting m r bytes
read_with m r label answers.Denied = (m, Some ends.Denied)
read_with m r label answers.Absent = (at_place m label, None)
read_with m r label answers.File = (at_place m label, None)
read_with m r label answers.Directory = (at_place m label, None)
read_with m r label (answers.Names names) = (at_place m label, None)

-- a probe is answered: content counts as a file, and names as nothing there
abbrev pub probe_with : Machine → ℕ → Answer → Machine × Option End
probe_with m r (answers.Content bytes) = fitting m r (codes "file")
probe_with m r answers.Denied = (m, Some ends.Denied)
probe_with m r answers.Absent = fitting m r (codes "absent")
probe_with m r answers.File = fitting m r (codes "file")
probe_with m r answers.Directory = fitting m r (codes "directory")
probe_with m r (answers.Names names) = fitting m r (codes "absent")

-- the names of an answer, none where it has none
abbrev pub names_of : Answer → List ℕ
names_of (answers.Names names) = names
names_of (answers.Content bytes) = []
names_of answers.Denied = []
names_of answers.Absent = []
names_of answers.File = []
names_of answers.Directory = []

-- a listing is answered: the run's own writes add those of their names that were asked for
abbrev pub list_with : Machine → ℕ → Ask → Answer → Machine × Option End
list_with m r ask answer =
    fitting m r (listed (names_of answer) (asked_names ask.kind (own_names m.writes ask.path)))

-- an instruction that looked at a path gets its answer
abbrev pub with_answer : Machine → Instr → Ask → Answer → Machine × Option End
with_answer m (instrs.Read r x label) ask answer = read_with m r label answer
with_answer m (instrs.Probe r x) ask answer = probe_with m r answer
with_answer m (instrs.List r x) ask answer = list_with m r ask answer
with_answer m (instrs.Match r x y) ask answer = list_with m r ask answer
with_answer m (instrs.Set r x) ask answer = (m, None)
with_answer m (instrs.Cat r x y) ask answer = (m, None)
with_answer m (instrs.Len r x) ask answer = (m, None)
with_answer m (instrs.Head r x n) ask answer = (m, None)
with_answer m (instrs.Tail r x n) ask answer = (m, None)
with_answer m (instrs.Split r s x y) ask answer = (m, None)
with_answer m (instrs.Arg r n label) ask answer = (m, None)
with_answer m (instrs.Args r) ask answer = (m, None)
with_answer m (instrs.Env r x label) ask answer = (m, None)
with_answer m (instrs.Eq x y label) ask answer = (m, None)
with_answer m (instrs.Jump label) ask answer = (m, None)
with_answer m (instrs.Exit n) ask answer = (m, None)
with_answer m (instrs.Say x) ask answer = (m, None)
with_answer m (instrs.Write x y) ask answer = (m, None)

-- the run's own writes answer, or the ask is put
abbrev pub look_up : Machine → Instr → Ask → Option Answer → Machine × Effect
look_up m i ask None = (m, effects.Asks ask)
look_up m i ask (Some answer) = effect_of (with_answer m i ask answer)

-- an instruction looks at a path, which a text may not name
abbrev pub looks : Machine → Instr → AskKind → Option Atoms → Machine × Effect
looks m i kind None = (m, effects.Stops ends.BadPath)
looks m i kind (Some path) =
    look_up m i (record { kind = kind; path = path })
    (own_answer m.writes (record { kind = kind; path = path }))

-- a listing by a pattern, which a text may not be; that is judged before the path is
abbrev pub looks_by : Machine → Instr → List ℕ → Option Atoms → Machine × Effect
looks_by m i pattern path =
    if is_pattern pattern then looks m i (kinds.Match pattern) path else (m, effects.Stops ends.BadProgram)

-- ## Writing

-- A write is refused where its path is none, is not permitted, or is a directory of a written file or lies
-- below one, or where it does not fit, in this order.
abbrev pub writes_at : Description → Machine → List ℕ → Option Atoms → Machine × Effect
writes_at d m bytes None = (m, effects.Stops ends.BadPath)
writes_at d m bytes (Some path) =
    if permits d path
    then (if clashes m.writes path then (m, effects.Stops ends.NotADirectory) else written m path bytes)
    else (m, effects.Refused path)

-- ## All instructions

-- an instruction, up to an ask
abbrev pub act : Description → Machine → Instr → Machine × Effect
act d m (instrs.Set r x) = effect_of (fitting m r (value m x))
act d m (instrs.Cat r x y) = effect_of (fitting m r (value m x ++ value m y))
act d m (instrs.Len r x) = effect_of (fitting m r (decimal (length (value m x))))
act d m (instrs.Head r x n) =
    with_number m (number_of (value m n)) (λ k. effect_of (fitting m r (take k (value m x))))
act d m (instrs.Tail r x n) =
    with_number m (number_of (value m n)) (λ k. effect_of (fitting m r (drop k (value m x))))
act d m (instrs.Split r s x y) =
    effect_of (fitting_two m r s (split_parts (value m y) (value m x)).0
    (split_parts (value m y) (value m x)).1)
act d m (instrs.Arg r n label) =
    with_number m (number_of (value m n)) (λ k. or_jump m r label (slice_get d.args k))
act d m (instrs.Args r) = effect_of (fitting m r (decimal (length d.args)))
act d m (instrs.Env r x label) = or_jump m r label (variable d.env (value m x))
act d m (instrs.Eq x y label) =
    (if bytes_eq (value m x) (value m y) then at_place m label else next m, effects.Goes)
act d m (instrs.Jump label) = (at_place m label, effects.Goes)
act d m (instrs.Exit n) = (m, effects.Stops (ends.Exit n))
act d m (instrs.Say x) = said m (value m x)
act d m (instrs.Read r x label) = looks m (instrs.Read r x label) kinds.Read (resolved d.dir (value m x))
act d m (instrs.Probe r x) = looks m (instrs.Probe r x) kinds.Probe (resolved d.dir (value m x))
act d m (instrs.List r x) = looks m (instrs.List r x) kinds.List (resolved d.dir (value m x))
act d m (instrs.Match r x y) =
    looks_by m (instrs.Match r x y) (value m y) (resolved d.dir (value m x))
act d m (instrs.Write x y) = writes_at d m (value m y) (resolved d.dir (value m x))
