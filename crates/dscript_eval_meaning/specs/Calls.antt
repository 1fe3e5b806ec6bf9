-- Ambient calls, members and calls of values.
--
-- A call pays one step before its arguments. It is in the file of the body that calls, also through a
-- value or as a callback. Calls of declared functions open a call (`Acts`), those of ambient functions and
-- members do not.
use Rattle.std.specs.Prelude.{ℕ, if◌then◌else◌, List, [], ◌∷◌, Result, Ok, Err}
use Rattle.dscript_sdk_values.specs.declared.fault.SdkFault.{SdkFault}
use Rattle.dscript_sdk_members.specs.Names.{member_named}
use Rattle.dscript_program.specs.declared.ambient.Ambient.{Ambient as AmbientCall}
use Rattle.dscript_value.specs.declared.parts.Callee.{Callee}
use Rattle.dscript_value.specs.declared.parts.Callee.TheVariants.{Place, Ambient, Member}
use Rattle.dscript_value.specs.Plain as plain
use Rattle.dscript_value.specs.Plain.{Plain, item_list}
use Rattle.dscript_program.specs.ProgramData.{ProgramData}
use Rattle.dscript_sdk.specs.Calls.{call_of}
use Rattle.dscript_sdk.specs.Members.{is_callback_named, is_function_named, member_of, method_of}
use Rattle.dscript_sdk_pips.specs.States.{State as Calls}
use Rattle.dscript_eval_meaning.specs.declared.fault.EvalKind.TheVariants as kinds
use Rattle.dscript_eval_meaning.specs.Acts.{Acts, Call}
use Rattle.dscript_eval_meaning.specs.Callbacks.{callbacks}
use Rattle.dscript_eval_meaning.specs.Evaluating.{Gives, Stop, answered, fails, gives, step, stop_of, ◌>>=◌, ◌>>◌}
use Rattle.dscript_eval_meaning.specs.Lookups.{path_at}
use Rattle.dscript_eval_meaning.specs.States.{State}

abbrev pub with_calls : State → Result (Plain × Calls) SdkFault → Result (Plain × State) Stop
with_calls s (Ok r) = Ok (r.0, record s { calls = r.1 })
with_calls s (Err fault) = Err (stop_of fault s.frame.file)

-- an ambient call, in the file of the running body
unfoldable pub ambient : ProgramData → AmbientCall → List Plain → Gives Plain
ambient p name args s = with_calls s (call_of name (path_at p s.frame.file) args s.calls)

-- a name after a value
unfoldable pub member : Plain → List ℕ → Gives Plain
member x name s = answered (member_of s.calls x name) s

abbrev pub items_of : Plain → List Plain
items_of (plain.Listed depth items) = item_list items
items_of _ = []

-- the call of a member that calls no functions, which changes nothing but the asks
abbrev pub plain_method : Plain → List ℕ → List Plain → Gives Plain
plain_method x name args s = with_calls s (method_of s.calls x name args)

-- the call of a member function of a value
unfoldable pub method : Acts → Plain → List ℕ → List Plain → Gives Plain
method act x name args =
    if is_callback_named name x then callbacks act (member_named name) (items_of x) args
    else plain_method x name args

-- a member function holds the value whose member it is
abbrev pub held_method : Acts → List Plain → List ℕ → List Plain → Gives Plain
held_method act [] name args = fails kinds.Kind
held_method act (x ∷ others) name args = method act x name args

-- The call of a function. A function with a body opens a call; ambient calls and members do not.
abbrev pub call_of_function : ProgramData → Acts → Callee → List Plain → List Plain → Gives Plain
call_of_function p act (Place number) held args = act (Call (Place number) held args)
call_of_function p act (Ambient name) held args = ambient p name args
call_of_function p act (Member name) held args = held_method act held name args

-- the call of a value, which must be a function
unfoldable pub applied : ProgramData → Acts → Plain → List Plain → Gives Plain
applied p act (plain.Function callee depth held) args = call_of_function p act callee (item_list held) args
applied p act _ args = fails kinds.Kind

-- What a part is applied to: a value, or a member of a value. A member function that is called at once is
-- never made a value.
pub data Subject : Type 0 where
  Whole : Plain → Subject
  Named : Plain → List ℕ → Subject

-- the subject as a value
abbrev pub whole : Subject → Gives Plain
whole (Whole x) = gives x
whole (Named x name) = member x name

-- A call with these arguments. A member function is called as it is; all else is found before the step of the
-- call, and called after the arguments.
unfoldable pub subject_call : ProgramData → Acts → Gives (List Plain) → Subject → Gives Plain
subject_call p act arguments (Whole f) = step >> arguments >>= λ xs. applied p act f xs
subject_call p act arguments (Named x name) = λ s.
    (if is_function_named s.calls x name
    then (step >> arguments >>= λ xs. method act x name xs)
    else (member x name >>= λ f. step >> arguments >>= λ xs. applied p act f xs)) s
