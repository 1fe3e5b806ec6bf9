-- Lists in rising order, each element once.
use Rattle.std.specs.Prelude.{◌≡◌, ◌↔◌, Bool, true, List, Contains}
use Rattle.std.specs.List.Sorted.{IsStrictlySortedBy}
use Rattle.std.specs.declared.cmp.Ordering.{Ordering}

-- the set has just the elements of the given list, rising by R, and so each once
pub record IsSetOf {K : Type 0} (R : K → K → Ordering) (given set : List K) : Type 0 where
  pub rising : IsStrictlySortedBy R set
  pub members : (x : K) → Contains given x ↔ Contains set x

-- rising by R, the set has only given elements, and one that `E` counts as equal to each of them
pub record IsSetUpTo {K : Type 0} (E : K → K → Bool) (R : K → K → Ordering) (given set : List K)
    : Type 0 where
  pub rising : IsStrictlySortedBy R set
  pub kept : (x : K) → Contains set x → Contains given x
  pub all : (x : K) → Contains given x → (y : K) × Contains set y × (E x y ≡ true)
