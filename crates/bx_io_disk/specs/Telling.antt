-- What a folder tells: its first contents with the changes, as long as each answer agrees with that.
use Rattle.std.specs.Prelude.{ℕ, Bool, true, false, List, [], ◌∷◌, ◌++◌, bytes_eq, Option, Some, None}
use Rattle.std.specs.FinMap.{get, insert, remove, keys}
use Rattle.bx_io.specs.Holdings.{Holdings, Change, Put, Drop}
use Rattle.bx_io_disk.specs.Events.{Event, in_a_row, keep_if}
use Rattle.bx_io_disk.specs.declared.kind.Kind.{Kind}
use Rattle.bx_io_disk.specs.declared.kind.Kind.TheVariants as kinds

-- these bytes are held
abbrev pub has_bytes : Option (List ℕ) → List ℕ → Bool
has_bytes None bytes = false
has_bytes (Some held) bytes = bytes_eq held bytes

-- none are held
abbrev pub is_absent : Option (List ℕ) → Bool
is_absent None = true
is_absent (Some held) = false

-- What is held after an answer or a change, where it agrees. A listing agrees where its names are those of all that
-- is held, in order.
abbrev pub step : Kind → List ℕ → List ℕ → Holdings → Option Holdings
step kinds.Found name bytes held = keep_if (has_bytes (get held name) bytes) held
step kinds.Absent name bytes held = keep_if (is_absent (get held name)) held
step kinds.Put name bytes held = Some (insert held name bytes)
step kinds.Dropped name bytes held = Some (remove held name)
step kinds.Listed name bytes held = keep_if (bytes_eq (in_a_row (keys held)) bytes) held
step _ name bytes held = Some held

abbrev pub next : Event → Option Holdings → Option Holdings
next e None = None
next e (Some held) = step e.0 e.1 e.2 held

-- the first contents with the changes of a record, as long as each answer agrees
abbrev pub seen : Holdings → List Event → Option Holdings
seen first [] = Some first
seen first (e ∷ earlier) = next e (seen first earlier)

abbrev pub tells : Option Holdings → Bool
tells None = false
tells (Some held) = true

abbrev pub gate : Bool → Option Holdings → Option Holdings
gate true told = told
gate false told = None

-- what is told after a record, where the records that were joined to it tell
abbrev pub told : Holdings → List Event → Bool → Option Holdings
told first events closed = gate closed (seen first events)

-- the change that an event is, if it is one
abbrev pub made_by : Kind → List ℕ → List ℕ → List Change
made_by kinds.Put name bytes = Put name bytes ∷ []
made_by kinds.Dropped name bytes = Drop name ∷ []
made_by _ name bytes = []

-- the changes of a record, in order
abbrev pub made_of : List Event → List Change
made_of [] = []
made_of (e ∷ earlier) = made_of earlier ++ made_by e.0 e.1 e.2
