-- The notes of a build that was gone through.
use Rattle.std.specs.Prelude.{ℕ, ◌<◌, ◌^◌, List, [], ◌++◌, codes, Option, Some, None}
use Rattle.std.specs.Fmt.{decimal}
use Rattle.build_report.specs.declared.counts.Counts.{Counts}
use Rattle.build_report.specs.declared.counts.GraphLine.{GraphLine}
use Rattle.build_report.specs.declared.counts.GraphLine.TheVariants.{Hit, Ran, Fault}

abbrev pub count_line : List ℕ → ℕ → List ℕ
count_line name count = name ++ codes " " ++ decimal count ++ codes "\n"

-- where the pips came from, where that is told
abbrev pub graph_line : Option GraphLine → List ℕ
graph_line None = []
graph_line (Some Hit) = codes "graph hit\n"
graph_line (Some Ran) = codes "graph ran\n"
graph_line (Some Fault) = codes "graph fault\n"

-- a line for each count, and one for the pips
abbrev pub notes_text : Counts → List ℕ
notes_text c =
    count_line (codes "hits") c.hits ++ count_line (codes "ran") c.ran ++ count_line (codes "late") c.late
    ++ count_line (codes "store-faults") c.faults ++ count_line (codes "starved") c.starved
    ++ graph_line c.graph

-- Each count is a number of 64 bits.
pub record AreInRange (c : Counts) : Type 0 where
  pub hits : c.hits < 2 ^ 64
  pub ran : c.ran < 2 ^ 64
  pub late : c.late < 2 ^ 64
  pub faults : c.faults < 2 ^ 64
  pub starved : c.starved < 2 ^ 64
