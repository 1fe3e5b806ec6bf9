-- What the data of an in-memory store means.
use Rattle.std.specs.Prelude.{ℕ, List, map, string_bytes, All, String, Vec}
use Rattle.std.specs.declared.alloc.Global.{Global}
use Rattle.std.specs.BTreeMap.{BTreeMap, keys}
use Rattle.std.specs.FinMap.{from_entries}
use Rattle.bx_io.specs.Holdings.{Holdings, Change, Put, Drop}
use Rattle.bx_io.specs.Names.{IsName}
use Rattle.bx_io.specs.declared.history.Change as stored
use Rattle.bx_io.specs.declared.history.Change.TheVariants as changes

-- the texts and bytes of a map's entries
abbrev pub contents : List (String Global × Vec ℕ Global) → List (List ℕ × List ℕ)
contents entries = map (λ entry. (string_bytes entry.0, entry.1.items)) entries

-- a map as what is held
abbrev pub holdings_of : BTreeMap (String Global) (Vec ℕ Global) → Holdings
holdings_of stored = from_entries (contents stored.entries)

-- each key is a name
abbrev pub HoldsNames : BTreeMap (String Global) (Vec ℕ Global) → Type 0
HoldsNames stored = All (λ key. IsName (string_bytes key)) (keys stored)

-- a change that is kept as data
abbrev pub change_of : stored.Change → Change
change_of (changes.Put name bytes) = Put (string_bytes name) bytes.items
change_of (changes.Drop name) = Drop (string_bytes name)
