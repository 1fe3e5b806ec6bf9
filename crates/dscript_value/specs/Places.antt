-- Where fields are, by name.
use Rattle.std.specs.Prelude.{◌≡◌, ℕ, List, Option, Some, None, if◌then◌else◌}
use Rattle.std.specs.List.{position_from}
use Rattle.std.specs.Str.{bytes_eq}
use Rattle.std.specs.Ordering.{nat_cmp}
use Rattle.std.specs.Cmp.Lexicographic.{slice_cmp}
use Rattle.std.specs.BTreeMap.{BTreeMap, get_by}
use Rattle.std.specs.declared.vec.Vec.{Vec}
use Rattle.std.specs.declared.alloc.Global.{Global}
use Rattle.dscript_value.specs.Data.{PlainField}
use Rattle.bx_tree.specs.TextTables.{at_text}

-- the place of the first field with a name
abbrev pub first_place : List PlainField → List ℕ → Option ℕ
first_place fields name = position_from (λ (f : PlainField). bytes_eq f.0 name) 0 fields

-- for each name, the place of the first field with it is kept
abbrev pub KeepPlaces : BTreeMap (Vec ℕ Global) ℕ → List PlainField → Type 0
KeepPlaces places fields = (name : List ℕ) → at_text places name ≡ first_place fields name

-- after the change the place is kept for this name, and for others what was kept before
abbrev pub KeepsToo : BTreeMap (Vec ℕ Global) ℕ → BTreeMap (Vec ℕ Global) ℕ → List ℕ → ℕ → Type 0
KeepsToo before after name place =
    (other : List ℕ) → at_text after other
    ≡ (if bytes_eq name other then Some place else at_text before other)

-- no place is kept, or that of each name
abbrev pub MayKeepPlaces : Option (BTreeMap (Vec ℕ Global) ℕ) → List PlainField → Type 0
MayKeepPlaces None fields = Unit {0}
MayKeepPlaces (Some places) fields = KeepPlaces places fields
