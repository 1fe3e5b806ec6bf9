-- The bundle of a seed and a number of pips.
use Rattle.std.specs.Prelude.{ℕ, zero, suc, ◌+◌, ◌*◌, ◌/◌, ◌%◌, ◌^◌, ◌==◌, if◌then◌else◌, List, [], ◌∷◌, ◌++◌, codes}
use Rattle.std.specs.Fmt.{decimal}
use Rattle.bx_tree.specs.Bundle.{bundle}
use Rattle.bx_tree.specs.Paths.{Atoms}

-- ## Numbers

-- the state after this one
abbrev pub next_state : ℕ → ℕ
next_state x = (x * 6364136223846793005 + 1442695040888963407) % 2 ^ 64

-- the number that is drawn of a state: its upper 31 bits
abbrev pub drawn : ℕ → ℕ
drawn x = x / 2 ^ 33

-- ## Lines

-- a pip that writes a number
abbrev pub write_line : ℕ → ℕ → List ℕ
write_line pip number =
    codes "const v" ++ decimal pip ++ codes " = Transformer.writeAllText({outputPath: p`out/" ++ decimal pip
    ++ codes "`, text: \"" ++ decimal number ++ codes "\"});\n"

-- a pip that runs the tool on what two earlier ones made
abbrev pub join_line : ℕ → ℕ → ℕ → List ℕ
join_line pip first second =
    codes "const v" ++ decimal pip
    ++ codes " = Transformer.execute({tool: {exe: f`cat.tool`}, arguments: [Cmd.argument(Artifact.output(p`out/" ++ decimal pip
    ++ codes "`)), Cmd.argument(Artifact.input(v" ++ decimal first ++ codes ")), Cmd.argument(Artifact.input(v" ++ decimal second
    ++ codes "))]}).getOutputFile(p`out/" ++ decimal pip ++ codes "`);\n"

-- The line of a pip, by the state before it: one draw where it writes, as every fourth pip does, and else two, each for
-- a smaller pip.
abbrev pub line_at : ℕ → ℕ → List ℕ
line_at pip x =
    if (pip % 4) == 0 then write_line pip (drawn (next_state x))
    else join_line pip (drawn (next_state x) % pip) (drawn (next_state (next_state x)) % pip)

-- the state after it
abbrev pub state_after : ℕ → ℕ → ℕ
state_after pip x = if (pip % 4) == 0 then next_state x else next_state (next_state x)

-- the lines of that many pips, from this one on
unfoldable pub lines_from : ℕ → ℕ → ℕ → List ℕ
lines_from zero pip x = []
lines_from (suc count) pip x = line_at pip x ++ lines_from count (pip + 1) (state_after pip x)

-- ## The bundle

-- the tool of each pip that joins
unfoldable pub tool_text : List ℕ
tool_text =
    codes "tool 1\narg r0, 0, bad\narg r1, 1, bad\narg r2, 2, bad\nread r3, r1, bad\nread r4, r2, bad\nhead r3, r3, 16\nhead r4, r4, 16\ncat r5, r3, r4\nwrite r0, r5\nexit 0\nbad: exit 1\n"

abbrev pub specification_path : Atoms
specification_path = codes "build.dsc" ∷ []

abbrev pub tool_path : Atoms
tool_path = codes "cat.tool" ∷ []

-- the bundle of that many pips, with the numbers of a seed
abbrev pub generated : ℕ → ℕ → List ℕ
generated seed pips = bundle ((specification_path, lines_from pips 0 seed) ∷ (tool_path, tool_text) ∷ [])
