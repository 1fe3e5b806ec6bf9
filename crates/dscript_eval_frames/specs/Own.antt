-- What contracts see of the own locals of a body.
use Rattle.std.specs.Prelude.{ℕ, zero, suc, ◌-◌, List, [], ◌∷◌, ◌++◌, length, map, unwrap_or}
use Rattle.std.specs.Option.{option_map}
use Rattle.std.specs.BTreeMap.{BTreeMap, get}
use Rattle.std.specs.Ordering.{nat_cmp}
use Rattle.dscript_value.specs.Plain.{Plain, Undefined, plain_of}
use Rattle.dscript_value.specs.declared.value.Value.{Value}

-- the value that is kept for a place, `undefined` where there is none
abbrev pub kept_at : BTreeMap ℕ Value → ℕ → Plain
kept_at far place = unwrap_or (option_map plain_of (get nat_cmp far place)) Undefined

-- the values that are kept for a number of places, from one on
abbrev pub far_values : BTreeMap ℕ Value → ℕ → ℕ → List Plain
far_values far place zero = []
far_values far place (suc n) = kept_at far place ∷ far_values far (suc place) n

-- the values of a list, and those that are kept for the places after it, up to a count
abbrev pub own_values : List Value → BTreeMap ℕ Value → ℕ → List Plain
own_values own far count = map plain_of own ++ far_values far (length own) (count - length own)
