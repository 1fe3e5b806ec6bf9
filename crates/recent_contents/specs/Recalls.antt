-- What is remembered of a store.
use Rattle.std.specs.Prelude.{◌≡◌, ℕ, List, Option, Some, string_bytes}
use Rattle.std.specs.FinMap.{get}
use Rattle.bx_io.specs.Holdings.{Holdings}
use Rattle.recent_contents.specs.declared.recent_reader.Recent.{Recent}

-- The store holds these bytes under a name, as far as it tells what it holds.
abbrev pub Tells : Option Holdings → List ℕ → List ℕ → Type 0
Tells told name bytes = (S : Holdings) → told ≡ Some S → get S name ≡ Some bytes

-- What is remembered is held, as far as the store tells what it holds.
abbrev pub IsHeldIn : Option Holdings → Recent → Type 0
IsHeldIn told r = Tells told (string_bytes r.name) r.bytes.items
