-- The machine that runs a tool.
use Rattle.std.specs.Prelude.{ℕ, ◌+◌, ◌||◌, nat_lt, List, [], ◌++◌, length, codes, replicate, Option, Some}
use Rattle.std.specs.Prelude.{None, if◌then◌else◌, slice_set}
use Rattle.bx_tree.specs.Paths.{Atoms}
use Rattle.bx_tree.specs.Trees.{Files}
use Rattle.observed.specs.declared.access.End.{End}
use Rattle.observed.specs.declared.access.End.TheVariants as ends
use Rattle.tool_text.specs.declared.limits.TheConstants.{REGISTERS}
use Rattle.tool_run.specs.declared.limits.TheConstants.{MAX_REGISTER, MAX_OUTPUT}
use Rattle.tool_run.specs.declared.effect.Effect.{Effect}
use Rattle.tool_run.specs.declared.effect.Effect.TheVariants as effects
use Rattle.tool_run_writes.specs.Writes.{with_file}

-- A machine: the place of its next instruction, its registers, the files that it wrote, in the order of
-- paths, what it said, and how many bytes it wrote and said in all.
pub record Machine : Type 0 where
  pub place : ℕ
  pub registers : List (List ℕ)
  pub writes : Files
  pub console : List ℕ
  pub spent : ℕ

-- a machine before its first instruction: registers are empty
abbrev pub start : Machine
start = record { place = 0; registers = replicate REGISTERS []; writes = []; console = []; spent = 0 }

abbrev pub at_place : Machine → ℕ → Machine
at_place m place = record m { place = place }

abbrev pub next : Machine → Machine
next m = at_place m (m.place + 1)

-- a register becomes these bytes, and the machine goes on
abbrev pub with_register : Machine → ℕ → List ℕ → Machine
with_register m r bytes = record m { place = m.place + 1; registers = slice_set m.registers r bytes }

-- a register becomes these bytes where they fit it, and the machine goes on; else the run ends
abbrev pub fitting : Machine → ℕ → List ℕ → Machine × Option End
fitting m r bytes =
    if nat_lt MAX_REGISTER (length bytes) then (m, Some ends.TooLong) else (with_register m r bytes, None)

abbrev pub effect_of : Machine × Option End → Machine × Effect
effect_of (m, None) = (m, effects.Goes)
effect_of (m, Some end) = (m, effects.Stops end)

-- two registers become these bytes, the second after the first, where each fits
abbrev pub fitting_two : Machine → ℕ → ℕ → List ℕ → List ℕ → Machine × Option End
fitting_two m r s first second =
    if nat_lt MAX_REGISTER (length first) || nat_lt MAX_REGISTER (length second) then (m, Some ends.TooLong)
    else (
      record m {
        place = m.place + 1;
        registers = slice_set (slice_set m.registers r first) s second;
      },
      None,
    )

-- bytes and a newline are said, where they fit the limit of all output
abbrev pub said : Machine → List ℕ → Machine × Effect
said m bytes =
    if nat_lt MAX_OUTPUT (m.spent + length bytes + 1) then (m, effects.Stops ends.TooLong)
    else (
      record m {
        place = m.place + 1;
        console = m.console ++ bytes ++ codes "\n";
        spent = m.spent + length bytes + 1;
      },
      effects.Goes,
    )

-- a file is written, where it fits the limit of all output
abbrev pub written : Machine → Atoms → List ℕ → Machine × Effect
written m path bytes =
    if nat_lt MAX_OUTPUT (m.spent + length bytes) then (m, effects.Stops ends.TooLong)
    else (
      record m {
        place = m.place + 1;
        writes = with_file m.writes path bytes;
        spent = m.spent + length bytes;
      },
      effects.Wrote path,
    )
