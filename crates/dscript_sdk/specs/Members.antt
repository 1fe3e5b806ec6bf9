-- The members of all values.
use Rattle.std.specs.Prelude.{ℕ, Bool, false, List, [], ◌∷◌, is_some, unwrap_or, ◌||◌}
use Rattle.std.specs.Prelude.{if◌then◌else◌, Option, Some, None, Ok, Err}
use Rattle.dscript_value.specs.declared.parts.Callee.TheVariants as callees
use Rattle.dscript_value.specs.Depths.{field_at}
use Rattle.dscript_value.specs.Plain as plain
use Rattle.dscript_value.specs.Plain.{Plain, item_list, member_list}
use Rattle.dscript_sdk_values.specs.declared.fault.SdkFault.TheVariants.{Kind, Missing}
use Rattle.dscript_sdk_values.specs.Answers.{function_answer}
use Rattle.dscript_sdk_values.specs.Outcomes.{Outcome, ◌>>=◌}
use Rattle.dscript_sdk_members.specs.Functions.{MemberFunction}
use Rattle.dscript_sdk_members.specs.ListMembers.{is_callback, list_function, list_property}
use Rattle.dscript_sdk_members.specs.Names.{member_named}
use Rattle.dscript_sdk_members.specs.PathMembers.{any_path_property, directory_function, file_property, path_function}
use Rattle.dscript_sdk_members.specs.TextMembers.{text_function, text_property}
use Rattle.dscript_sdk_members.specs.declared.member.Member.{Member}
use Rattle.dscript_sdk.specs.ProcessMembers.{process_function}
use Rattle.dscript_sdk.specs.StaticMembers.{static_function, static_function_ask, static_property}
use Rattle.dscript_sdk_calls.specs.declared.tree_ask.TreeAsk.{TreeAsk}
use Rattle.dscript_sdk_pips.specs.States.{Change, State, unchanged, with_ask}
use Rattle.bx_tree.specs.FileInputs.{input_path}

-- the member function of a value, without those that call functions
abbrev pub function_at : State → Member → Plain → Option MemberFunction
function_at s m (plain.Text text) = text_function m text
function_at s m (plain.Listed depth items) = list_function m (item_list items)
function_at s m (plain.Path path) = path_function m path
function_at s m (plain.File file) = path_function m (input_path file)
function_at s m (plain.Directory path) = directory_function m path
function_at s m (plain.Static dir) = static_function s m dir
function_at s m (plain.Process number) = process_function s m number
function_at s m _ = None

-- a member of a value that is no function
abbrev pub property_at : Member → Plain → Option (Outcome Plain)
property_at m (plain.Text text) = text_property m text
property_at m (plain.Listed depth items) = list_property m (item_list items)
property_at m (plain.Path path) = any_path_property m path
property_at m (plain.File file) = file_property m (input_path file)
property_at m (plain.Directory path) = any_path_property m path
property_at m (plain.Static dir) = static_property m dir
property_at m _ = None

-- whether a member of a value calls functions, which evaluation does
abbrev pub is_callback_of : Member → Plain → Bool
is_callback_of m (plain.Listed depth items) = is_callback m
is_callback_of m _ = false

abbrev pub is_callback_found : Plain → Option Member → Bool
is_callback_found v None = false
is_callback_found v (Some m) = is_callback_of m v

unfoldable pub is_callback_named : List ℕ → Plain → Bool
is_callback_named name v = is_callback_found v (member_named name)

-- whether a member of a value is a function
abbrev pub is_function_of : State → Member → Plain → Bool
is_function_of s m v = is_callback_of m v || is_some (function_at s m v)

-- whether a member of a value is a function, by the name of the member
abbrev pub is_function_found : State → Plain → Option Member → Bool
is_function_found s v None = false
is_function_found s v (Some m) = is_function_of s m v

unfoldable pub is_function_named : State → Plain → List ℕ → Bool
is_function_named s v name = is_function_found s v (member_named name)

abbrev pub property_or_missing : Option (Outcome Plain) → Outcome Plain
property_or_missing None = Err Missing
property_or_missing (Some answer) = answer

-- A member function is a function that holds the value.
abbrev pub member_answer : State → List ℕ → Plain → Option Member → Outcome Plain
member_answer s name v None = Err Missing
member_answer s name v (Some m) =
    if is_function_of s m v then function_answer (callees.Member name) (v ∷ [])
    else property_or_missing (property_at m v)

-- An object has its fields, and undefined for other names; undefined has no members at all.
abbrev pub own_member : Plain → List ℕ → Option (Outcome Plain)
own_member plain.Undefined name = Some (Err Kind)
own_member (plain.Object depth fields) name =
    Some (Ok (unwrap_or (field_at (member_list fields) name) plain.Undefined))
own_member _ name = None

abbrev pub or_else : Option (Outcome Plain) → Outcome Plain → Outcome Plain
or_else None other = other
or_else (Some answer) other = answer

-- what a name after a value comes to
unfoldable pub member_of : State → Plain → List ℕ → Outcome Plain
member_of s v name = or_else (own_member v name) (member_answer s name v (member_named name))

abbrev pub function_named : State → Plain → Option Member → Option MemberFunction
function_named s v None = None
function_named s v (Some m) = function_at s m v

-- what a member comes to when it is called, which only a function can be
abbrev pub call_of_member : State → Plain → List ℕ → List Plain → Option MemberFunction → Outcome Plain
call_of_member s v name args None = member_of s v name >>= λ _. Err Kind
call_of_member s v name args (Some function) = function args

-- what the call of a member function answers, where it does not call functions
unfoldable pub method_answer : State → Plain → List ℕ → List Plain → Outcome Plain
method_answer s v name args = call_of_member s v name args (function_named s v (member_named name))

-- ## What calls of members ask

abbrev pub function_ask : State → Member → Plain → Option TreeAsk
function_ask s m (plain.Static dir) = static_function_ask s m dir
function_ask s m _ = None

abbrev pub function_ask_named : State → Plain → Option Member → Option TreeAsk
function_ask_named s v None = None
function_ask_named s v (Some m) = function_ask s m v

-- the state with what was asked, if anything was
abbrev pub noted_if : Option TreeAsk → State → State
noted_if None s = s
noted_if (Some ask) s = with_ask ask s

-- an answer, and the state with what was asked for it
abbrev pub answer_with : Option TreeAsk → Outcome Plain → State → Change
answer_with None answer s = unchanged answer s
answer_with (Some ask) answer s = answer >>= λ value. Ok (value, with_ask ask s)

-- What the call of a member function comes to, where it does not call functions. It changes nothing but the
-- asks.
unfoldable pub method_of : State → Plain → List ℕ → List Plain → Change
method_of s v name args =
    answer_with (function_ask_named s v (member_named name)) (method_answer s v name args) s
