-- Parts of which the first word says what they are.
use Rattle.std.specs.Prelude.{ℕ, List, [], ◌++◌, Option, Some, None}
use Rattle.observed.specs.Texts.{after_prefix}
use Rattle.prints.specs.Reading.{Taken, as_at}

abbrev pub by_word : {X : Type 0} → Option (List ℕ) → (List ℕ → Taken X) → Taken X → Taken X
by_word (Some rest) part other = part rest
by_word None part other = other

-- a part after its word, or where the text does not begin with the word, another part
abbrev pub first_of : {X : Type 0} → List ℕ → (List ℕ → Taken X) → (List ℕ → Taken X) → List ℕ → Taken X
first_of word part other text = by_word (after_prefix word text) part (other text)

abbrev pub nothing_at : {X : Type 0} → List ℕ → Taken (Option X)
nothing_at text = Some (None, text)

-- a part after its word, or nothing where the text does not begin with the word
abbrev pub maybe_at : {X : Type 0} → List ℕ → (List ℕ → Taken X) → List ℕ → Taken (Option X)
maybe_at word part = first_of word (as_at Some part) nothing_at

abbrev pub maybe_written : {X : Type 0} → List ℕ → (X → List ℕ) → Option X → List ℕ
maybe_written word write None = []
maybe_written word write (Some x) = word ++ write x
