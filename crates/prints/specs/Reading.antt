-- Reading a text from its start, part by part.
use Rattle.std.specs.Prelude.{◌≡◌, ℕ, Bool, true, false, List, [], ◌∷◌, Option, Some, None, Result, Ok, Err, if◌then◌else◌}
use Rattle.std.proofs.Common.{Vec, Global}
use Rattle.std.specs.Borrow.{Bor}
use Rattle.observed.specs.Texts.{after_prefix}
use Rattle.prints.specs.declared.fault.PrintFault.{PrintFault}
use Rattle.prints.specs.declared.fault.PrintFault.TheVariants as faults

-- what was read at the start of a text, and the text after it, if it could be read
abbrev pub Taken : Type 0 → Type 0
Taken X = Option (X × List ℕ)

infixl 10 ◌>>=◌
abbrev pub ◌>>=◌ : {X Y : Type 0} → Option X → (X → Option Y) → Option Y
(Some x) >>= f = f x
None >>= f = None

-- a word, and a part after it
abbrev pub after_word : {X : Type 0} → List ℕ → (List ℕ → Taken X) → List ℕ → Taken X
after_word word part text = after_prefix word text >>= part

-- what follows one of two words: whether it is the first
abbrev pub by_word : Option (List ℕ) → Option (List ℕ) → Taken Bool
by_word (Some rest) other = Some (true, rest)
by_word None (Some rest) = Some (false, rest)
by_word None None = None

-- one of two words: whether it is the first
abbrev pub one_word : List ℕ → List ℕ → List ℕ → Taken Bool
one_word first second text = by_word (after_prefix first text) (after_prefix second text)

-- two parts, one after the other
abbrev pub both_at : {X Y : Type 0} → (List ℕ → Taken X) → (List ℕ → Taken Y) → List ℕ → Taken (X × Y)
both_at first second text = first text >>= λ x. second x.1 >>= λ y. Some ((x.0, y.0), y.1)

-- a part, read as another value
abbrev pub as_at : {X Y : Type 0} → (X → Y) → (List ℕ → Taken X) → List ℕ → Taken Y
as_at f part text = part text >>= λ x. Some (f x.0, x.1)

-- a part of which the value passes a test
abbrev pub only_at : {X : Type 0} → (X → Bool) → (List ℕ → Taken X) → List ℕ → Taken X
only_at test part text = part text >>= λ x. if test x.0 then Some x else None

-- the value of a part that is the whole text
abbrev pub if_ended : {X : Type 0} → X → List ℕ → Option X
if_ended x [] = Some x
if_ended x (b ∷ bs) = None

abbrev pub whole_of : {X : Type 0} → (List ℕ → Taken X) → List ℕ → Option X
whole_of part text = part text >>= λ x. if_ended x.0 x.1

-- ## What a function of the program reads

-- A function of the program reads what the function on lists reads and leaves the rest, unless memory runs
-- out.
abbrev pub Takes : {X : Type 0} → Result X PrintFault → List ℕ → Taken X → Type 0
Takes (Ok x) rest taken = taken ≡ Some (x, rest)
Takes (Err faults.BadPrint) rest taken = taken ≡ None
Takes (Err faults.Memory) rest taken = Unit {0}

-- the items of a vector are what the function on lists reads, unless memory runs out
abbrev pub TakesItems : {X : Type 0} → Result (Vec X Global) PrintFault → List ℕ → Taken (List X) → Type 0
TakesItems (Ok xs) rest taken = taken ≡ Some (xs.items, rest)
TakesItems (Err faults.BadPrint) rest taken = taken ≡ None
TakesItems (Err faults.Memory) rest taken = Unit {0}

-- A function of the program gives what the function on lists gives, unless memory runs out.
abbrev pub Gives : {X : Type 0} → Result X PrintFault → Option X → Type 0
Gives (Ok x) read = read ≡ Some x
Gives (Err faults.BadPrint) read = read ≡ None
Gives (Err faults.Memory) read = Unit {0}

-- a piece of the text
abbrev pub TakesPart : Result (Bor (List ℕ)) PrintFault → List ℕ → Taken (List ℕ) → Type 0
TakesPart (Ok part) rest taken = taken ≡ Some (part.now, rest)
TakesPart (Err faults.BadPrint) rest taken = taken ≡ None
TakesPart (Err faults.Memory) rest taken = ⊥

-- the items of a vector are what the function on lists gives
abbrev pub GivesItems : {X : Type 0} → Result (Vec X Global) PrintFault → Option (List X) → Type 0
GivesItems (Ok xs) read = read ≡ Some xs.items
GivesItems (Err faults.BadPrint) read = read ≡ None
GivesItems (Err faults.Memory) read = Unit {0}

-- the text after a word
abbrev pub TakesWord : Result (Unit {0}) PrintFault → List ℕ → Option (List ℕ) → Type 0
TakesWord (Ok done) rest left = left ≡ Some rest
TakesWord (Err faults.BadPrint) rest left = left ≡ None
TakesWord (Err faults.Memory) rest left = ⊥

-- Nothing is left, or some byte is.
abbrev pub Ends : Result (Unit {0}) PrintFault → List ℕ → Type 0
Ends (Ok done) rest = rest ≡ []
Ends (Err faults.BadPrint) rest = (b : ℕ) × (bs : List ℕ) × (rest ≡ b ∷ bs)
Ends (Err faults.Memory) rest = ⊥
