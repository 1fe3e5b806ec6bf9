-- Locals, and the frames that hold them.
use Rattle.std.specs.Prelude.{ℕ, zero, suc, ◌-◌, ◌==◌, nat_lt, if◌then◌else◌, unwrap_or, slice_get, slice_set}
use Rattle.std.specs.Prelude.{List, [], ◌∷◌, length, map, take, Ok}
use Rattle.dscript_value.specs.Plain.{Plain, Undefined}
use Rattle.dscript_program.specs.ProgramData.{FunctionData}
use Rattle.dscript_eval_meaning.specs.Evaluating.{Gives, followed}
use Rattle.dscript_eval_meaning.specs.States.{Frame, State}

-- the value that a captured local holds
abbrev pub captured_value : List ℕ → List Plain → ℕ → Plain
captured_value [] held n = Undefined
captured_value (c ∷ cs) [] n = Undefined
captured_value (c ∷ cs) (x ∷ xs) n = if c == n then x else captured_value cs xs n

-- What a local holds. A body captures locals from before its own.
abbrev pub local_value : Frame → ℕ → Plain
local_value f n =
    if nat_lt n f.first then captured_value f.captured f.held n
    else unwrap_or (slice_get f.own (n - f.first)) Undefined

-- an own local holds a value from now on
abbrev pub with_local : ℕ → Plain → Frame → Frame
with_local n x f = record f { own = slice_set f.own (n - f.first) x }

abbrev pub local : ℕ → Gives Plain
local n s = Ok (local_value s.frame n, s)

abbrev pub bind : ℕ → Plain → Gives (Unit {0})
bind n x s = Ok (tt, record s { frame = with_local n x s.frame })

-- the values that these locals hold now
abbrev pub captures : List ℕ → State → List Plain
captures locals s = map (λ n. local_value s.frame n) locals

-- values up to a count: these, and undefined in the places of those that are missing
abbrev pub filled : ℕ → List Plain → List Plain
filled zero xs = []
filled (suc n) [] = Undefined ∷ filled n []
filled (suc n) (x ∷ xs) = x ∷ filled n xs

-- The frame in which a function begins. Its parameters are its first locals, and further arguments are
-- dropped.
abbrev pub function_frame : FunctionData → List Plain → List Plain → Frame
function_frame f held args = record {
  file = f.file;
  captured = f.captured;
  held = held;
  first = f.first_local;
  own = filled f.local_count (take (length f.params) args);
}

-- the frame of a constant, which has no locals
abbrev pub constant_frame : ℕ → Frame
constant_frame file = record { file = file; captured = []; held = []; first = 0; own = [] }

-- a body in a frame of its own, and then the frame from before
abbrev pub within : {A : Type 0} → Frame → Gives A → Gives A
within frame body s =
    followed (body (record s { frame = frame })) (λ x after. Ok (x, record after { frame = s.frame }))
