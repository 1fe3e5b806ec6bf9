-- Changes that are planned.
use Rattle.std.specs.Prelude.{List, string_bytes}
use Rattle.std.specs.List.{AllByRecursion}
use Rattle.bx_io.specs.Holdings.{Change, Drop, Makes, Put, StoreTold}
use Rattle.cache_care.specs.declared.planning.Planned.{Planned}
use Rattle.cache_care.specs.declared.planning.Planned.TheVariants as planned

-- what is planned, as a change
abbrev pub planned_change : Planned → Change
planned_change (planned.Put name bytes) = Put (string_bytes name) bytes.items
planned_change (planned.Drop name) = Drop (string_bytes name)

-- a change that drops a name
abbrev pub IsDrop : Change → Type 0
IsDrop (Put name bytes) = ⊥
IsDrop (Drop name) = Unit {0}

-- Nothing was done but that names were dropped.
pub record OnlyDrops (before now : StoreTold) : Type 0 where
  pub made : List Change
  pub drops : AllByRecursion IsDrop made
  pub makes : Makes before made now
