-- What the answers of a store say of what it is told to hold.
use Rattle.std.specs.Prelude.{◌≡◌, ℕ, List, map, All, IsSome, Option, Some, string_bytes, ⊤}
use Rattle.std.specs.Prelude as prelude
use Rattle.std.specs.Ordering.{nat_cmp}
use Rattle.std.specs.Cmp.Lexicographic.{slice_cmp}
use Rattle.std.specs.List.Sorted.{IsStrictlySortedBy}
use Rattle.std.specs.FinMap.{get, keys}
use Rattle.bx_io.specs.Holdings.{Holdings}
use Rattle.bx_io.specs.Names.{IsName}
use Rattle.bx_io.specs.declared.keeper.Got.{Got}
use Rattle.bx_io.specs.declared.keeper.Got.TheVariants as got
use Rattle.bx_io.specs.declared.keeper.Listed.{Listed}
use Rattle.bx_io.specs.declared.keeper.Listed.TheVariants as listed

-- The answer for a name: what was found is held under it, and None says that nothing is. The other answers
-- say nothing of the name.
abbrev pub IsAnswer : Holdings → List ℕ → Got → Type 0
IsAnswer held name (got.Found bytes) = get held name ≡ Some bytes.items
IsAnswer held name got.None = get held name ≡ prelude.None
IsAnswer held name got.Failed = ⊤
IsAnswer held name got.Memory = ⊤

-- The answer is that of what is told to be held.
abbrev pub Finds : Option Holdings → List ℕ → Got → Type 0
Finds told name answer = (held : Holdings) → told ≡ Some held → IsAnswer held name answer

-- The names that were listed are the held ones, each once, rising by bytes.
abbrev pub IsListing : Holdings → Listed → Type 0
IsListing held (listed.Names names) = map string_bytes names.items ≡ keys held
IsListing held listed.Failed = ⊤
IsListing held listed.Memory = ⊤

-- The listing is that of what is told to be held.
abbrev pub Lists : Option Holdings → Listed → Type 0
Lists told answer = (held : Holdings) → told ≡ Some held → IsListing held answer

-- Each text that was listed is a name, and each is below those after it, by their bytes.
abbrev pub ListsNames : Listed → Type 0
ListsNames (listed.Names names) =
    All (λ name. IsName (string_bytes name)) names.items
    × IsStrictlySortedBy (slice_cmp nat_cmp) (map string_bytes names.items)
ListsNames listed.Failed = ⊤
ListsNames listed.Memory = ⊤
