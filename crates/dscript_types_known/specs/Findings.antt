-- What is found of something that may have a type.
use Rattle.std.specs.Prelude.{◌≡◌, ℕ, ◌+◌, ◌-◌, ◌<◌, ◌≤◌, Bool, true, false, Option, Some, None}

-- Something with its rank; that there is nothing; or that it hangs on what has not been found yet.
pub data Finding (X : Type 0) : Type 0 where
  Found : X → ℕ → Finding X
  Nothing : Finding X
  Open : Finding X

-- What a finding says of the answer of the rules where this many declarations and callbacks may be looked into, one for
-- another: from its rank on it is what was found, and before it there is none. What is open has no answer where nothing
-- has that is still open.
abbrev pub Tells : {X : Type 0} → Type 0 → ℕ → Finding X → Option X → Type 0
Tells closed n (Found x rank) answer = (rank ≤ n → answer ≡ Some x) × (n < rank → answer ≡ None)
Tells closed n Nothing answer = answer ≡ None
Tells closed n Open answer = closed → answer ≡ None

abbrev pub is_open : {X : Type 0} → Finding X → Bool
is_open (Found x rank) = false
is_open Nothing = false
is_open Open = true

-- what takes one more to look into
abbrev pub one_further : {X : Type 0} → Finding X → Finding X
one_further (Found x rank) = Found x (rank + 1)
one_further Nothing = Nothing
one_further Open = Open

-- What is found of a local outside of the body of a callback, in it: there one less is looked into.
abbrev pub inside : {X : Type 0} → Finding X → Finding X
inside (Found x rank) = Found x (rank - 1)
inside Nothing = Nothing
inside Open = Open

-- what is found of something that another gives
abbrev pub finding_map : {X Y : Type 0} → (X → Y) → Finding X → Finding Y
finding_map f (Found x rank) = Found (f x) rank
finding_map f Nothing = Nothing
finding_map f Open = Open
