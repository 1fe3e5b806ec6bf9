-- What is noted of the calls of the system.
use Rattle.std.specs.Prelude.{ℕ, zero, suc, Bool, true, false, List, [], ◌∷◌, ◌++◌, length, take, drop, bytes_eq, Option, Some, None}
use Rattle.bx_io.specs.Causes.{counted}
use Rattle.bx_io_disk.specs.declared.kind.Kind.{Kind}
use Rattle.bx_io_disk.specs.declared.kind.Kind.TheVariants as kinds

-- what happened, the name or path that it is of, and bytes
abbrev pub Event : Type 0
Event = Kind × List ℕ × List ℕ

-- texts one after another, each after its length
abbrev pub in_a_row : List (List ℕ) → List ℕ
in_a_row [] = []
in_a_row (text ∷ texts) = length text ∷ text ++ in_a_row texts

-- ## Faults

abbrev pub failures_next : Kind → ℕ → ℕ
failures_next kinds.Failed before = counted before
failures_next kinds.Started before = 0
failures_next _ before = before

-- how many calls failed since the last start, up to the last count; the events are the newest first
abbrev pub failures : List Event → ℕ
failures [] = 0
failures (e ∷ earlier) = failures_next e.0 (failures earlier)

-- ## The lock of a folder

abbrev pub alone_next : Kind → Bool → Bool
alone_next kinds.Alone before = true
alone_next kinds.Started before = false
alone_next _ before = before

-- whether it was granted, since the last start, that the folder is this store's alone
abbrev pub alone_of : List Event → Bool
alone_of [] = false
alone_of (e ∷ earlier) = alone_next e.0 (alone_of earlier)

-- ## Streams

abbrev pub taken_next : Kind → List ℕ → List ℕ → List ℕ
taken_next kinds.Took bytes before = before ++ bytes
taken_next _ bytes before = before

-- what a stream took of a piece with bytes; that it took none is a fault
abbrev pub took_bytes : List ℕ → Event
took_bytes [] = (kinds.Failed, [], [])
took_bytes (b ∷ bytes) = (kinds.Took, [], b ∷ bytes)

-- what a stream took of a piece of this many bytes
abbrev pub took : ℕ → List ℕ → Event
took zero bytes = (kinds.Took, [], bytes)
took (suc n) bytes = took_bytes bytes

-- the bytes that were taken
abbrev pub taken_of : List Event → List ℕ
taken_of [] = []
taken_of (e ∷ earlier) = taken_next e.0 e.2 (taken_of earlier)

abbrev pub given_next : Kind → List ℕ → List ℕ → List ℕ
given_next kinds.Gave bytes before = before ++ bytes
given_next _ bytes before = before

-- the bytes that were given
abbrev pub given_of : List Event → List ℕ
given_of [] = []
given_of (e ∷ earlier) = given_next e.0 e.2 (given_of earlier)

-- a piece was given; one without bytes says nothing
abbrev pub ended_at : List ℕ → Bool → Bool
ended_at [] before = before
ended_at (b ∷ bytes) before = false

abbrev pub ended_next : Kind → List ℕ → Bool → Bool
ended_next kinds.Gave bytes before = ended_at bytes before
ended_next kinds.Ended bytes before = true
ended_next _ bytes before = before

-- whether the end was answered last
abbrev pub ended_of : List Event → Bool
ended_of [] = false
ended_of (e ∷ earlier) = ended_next e.0 e.2 (ended_of earlier)

-- what a stream gave to a call for bytes
abbrev pub gave_bytes : List ℕ → Event
gave_bytes [] = (kinds.Ended, [], [])
gave_bytes (b ∷ bytes) = (kinds.Gave, [], b ∷ bytes)

-- what a stream gave to a call for this many bytes
abbrev pub gave : ℕ → List ℕ → Event
gave zero bytes = (kinds.Gave, [], bytes)
gave (suc n) bytes = gave_bytes bytes

abbrev pub keep_if : {X : Type 0} → Bool → X → Option X
keep_if true x = Some x
keep_if false x = None

abbrev pub is_nil : List ℕ → Bool
is_nil [] = true
is_nil (x ∷ xs) = false

-- what is left after an answer, where it agrees
abbrev pub left_step : Kind → List ℕ → List ℕ → Option (List ℕ)
left_step kinds.Gave bytes left = keep_if (bytes_eq (take (length bytes) left) bytes) (drop (length bytes) left)
left_step kinds.Ended bytes left = keep_if (is_nil left) left
left_step _ bytes left = Some left

abbrev pub left_next : Event → Option (List ℕ) → Option (List ℕ)
left_next e None = None
left_next e (Some left) = left_step e.0 e.2 left

-- what is left of the first bytes, as long as each answer agrees
abbrev pub left_of : List ℕ → List Event → Option (List ℕ)
left_of first [] = Some first
left_of first (e ∷ earlier) = left_next e (left_of first earlier)
