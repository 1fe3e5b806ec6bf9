-- What an object of the outside tells, until an answer disagrees with it.
use Rattle.std.specs.Prelude.{◌≡◌, ℕ, List, [], ◌++◌, Option, Some}

-- What was told is still told, or nothing is told any more. What is lost does not come back.
abbrev pub Stays : {X : Type 0} → Option X → Option X → Type 0
Stays before now = (x : _) → now ≡ Some x → before ≡ Some x

-- What was told to be left is this piece and what is now told to be left, or nothing is told any more.
abbrev pub Moves : Option (List ℕ) → Option (List ℕ) → List ℕ → Type 0
Moves before now piece = (rest : List ℕ) → now ≡ Some rest → before ≡ Some (piece ++ rest)

-- It is told that nothing is left, or nothing is told any more.
abbrev pub NoneLeft : Option (List ℕ) → Type 0
NoneLeft told = (rest : List ℕ) → told ≡ Some rest → rest ≡ []
