-- What a frame has for a local, if it has something.
use Rattle.std.specs.Prelude.{ℕ, ◌-◌, ◌+◌, ◌<◌, ◌≤◌, ◌⊎◌, ◌==◌, nat_lt, if◌then◌else◌, slice_get, List, [], ◌∷◌, Option, Some, None}
use Rattle.bx_tree.specs.Members.{Has}
use Rattle.dscript_program.specs.ProgramData.{FunctionData}
use Rattle.dscript_value.specs.Plain.{Plain}
use Rattle.dscript_eval_meaning.specs.States.{Frame}

-- the value that is held for a captured local
abbrev pub held_at : List ℕ → List Plain → ℕ → Option Plain
held_at [] held n = None
held_at (c ∷ cs) [] n = None
held_at (c ∷ cs) (x ∷ xs) n = if c == n then Some x else held_at cs xs n

-- what the frame has for a local: nothing where the local is none of its body's
abbrev pub found_local : Frame → ℕ → Option Plain
found_local f n =
    if nat_lt n f.first then held_at f.captured f.held n else slice_get f.own (n - f.first)

-- the local is one that the function captures, or its own
abbrev pub IsLocalOf : FunctionData → ℕ → Type 0
IsLocalOf f n = Has f.captured n ⊎ ((f.first_local ≤ n) × (n < f.first_local + f.local_count))
