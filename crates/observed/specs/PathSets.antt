-- Path sets: asks in order, each once.
use Rattle.std.specs.Prelude.{List, [], ◌∷◌}
use Rattle.std.specs.List.{AllByRecursion}
use Rattle.std.specs.List.Sorted.{IsStrictlySortedBy}
use Rattle.std.specs.BTreeSet.{insert_key}
use Rattle.bx_path.specs.Globbing.{IsPattern}
use Rattle.bx_tree.specs.Paths.{IsPath}
use Rattle.observed.specs.declared.ask.AskKind.{AskKind}
use Rattle.observed.specs.declared.ask.AskKind.TheVariants as kinds
use Rattle.observed.specs.declared.ask.Ask.{Ask}
use Rattle.observed.specs.Asks.{ask_cmp}

-- a listing by a pattern has a pattern
abbrev pub IsKind : AskKind → Type 0
IsKind kinds.Read = Unit {0}
IsKind kinds.Probe = Unit {0}
IsKind kinds.List = Unit {0}
IsKind (kinds.Match pattern) = IsPattern pattern

-- an ask of a path
pub record IsAsk (ask : Ask) : Type 0 where
  pub path : IsPath ask.path
  pub kind : IsKind ask.kind

-- a path set: asks, which strictly rise
pub record IsPathSet (set : List Ask) : Type 0 where
  pub order : IsStrictlySortedBy ask_cmp set
  pub asks : AllByRecursion IsAsk set

-- the asks of a list, in order and each once
abbrev pub set_of : List Ask → List Ask
set_of [] = []
set_of (a ∷ as') = insert_key ask_cmp (set_of as') a
