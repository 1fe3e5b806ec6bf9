-- How the state is stored.
use Rattle.std.specs.Prelude.{ℕ}
use Rattle.std.specs.BTreeMap.{BTreeMap}
use Rattle.std.specs.Coded.{Coded, coded_ℕ, coded_list}
use Rattle.std.specs.FinMap as map
use Rattle.std.specs.FinMap.{from_entries}
use Rattle.bx_tree.specs.Paths.{Atoms}
use Rattle.dscript_sdk_pips.specs.States.{Counts}

abbrev pub counts_code : Coded Counts
counts_code = map.code (coded_list (coded_list coded_ℕ)) coded_ℕ

-- the numbers that a map keeps
abbrev pub counts_of : BTreeMap Atoms ℕ → Counts
counts_of kept = from_entries kept.entries
