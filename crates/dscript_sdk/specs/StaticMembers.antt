-- The members of static directories.
use Rattle.std.specs.Prelude.{ℕ, List, find, map, Option, Some, None, Ok}
use Rattle.bx_tree.specs.Paths.{Atoms, same_path}
use Rattle.bx_tree.specs.declared.file_input.FileInput.{FileInput}
use Rattle.dscript_value.specs.Equality.{static_path}
use Rattle.dscript_value.specs.declared.parts.StaticDir.{StaticDir}
use Rattle.dscript_value.specs.declared.parts.StaticDir.TheVariants.{Seal, Opaque}
use Rattle.dscript_value.specs.Plain as plain
use Rattle.dscript_value.specs.Plain.{Plain}
use Rattle.dscript_sdk_values.specs.declared.fault.SdkFault.TheVariants.{BadArgument}
use Rattle.dscript_sdk_values.specs.Answers.{list_answer}
use Rattle.dscript_sdk_values.specs.Arguments.{one_of}
use Rattle.dscript_sdk_values.specs.Kinds.{path_in}
use Rattle.dscript_sdk_values.specs.Outcomes.{Outcome, ◌>>=◌, unless_none}
use Rattle.dscript_sdk_members.specs.Functions.{MemberFunction}
use Rattle.dscript_sdk_members.specs.declared.member.Member.{Member}
use Rattle.dscript_sdk_members.specs.declared.member.Member.TheVariants as members
use Rattle.dscript_sdk_calls.specs.declared.tree_ask.TreeAsk.{TreeAsk}
use Rattle.dscript_sdk.specs.SealMembers.{seal_ask, seal_members}
use Rattle.dscript_sdk_pips.specs.States.{State}
use Rattle.bx_tree.specs.FileInputs.{input_path}

-- the first of some files that has this path
abbrev pub file_with : Atoms → List FileInput → Option FileInput
file_with path files = find (λ file. same_path (input_path file) path) files

-- the member with this path
abbrev pub member_file : State → ℕ → MemberFunction
member_file s number args =
    one_of args >>= path_in >>= λ path.
    unless_none BadArgument (file_with path (seal_members s number)) >>= λ file.
    Ok (plain.File file)

-- all members, by path
abbrev pub content : State → ℕ → MemberFunction
content s number args = list_answer (map plain.File (seal_members s number))

abbrev pub seal_function : State → Member → ℕ → Option MemberFunction
seal_function s members.GetFile number = Some (member_file s number)
seal_function s members.GetContent number = Some (content s number)
seal_function s _ number = None

-- what the call of a member asks of the source tree: those of a seal's files alone ask
abbrev pub seal_function_ask : State → Member → ℕ → Option TreeAsk
seal_function_ask s members.GetFile number = seal_ask s number
seal_function_ask s members.GetContent number = seal_ask s number
seal_function_ask s _ number = None

abbrev pub static_function_ask : State → Member → StaticDir → Option TreeAsk
static_function_ask s member (Seal number path) = seal_function_ask s member number
static_function_ask s member (Opaque number path) = None

-- What an output directory will hold is not known when specifications are evaluated.
unfoldable pub static_function : State → Member → StaticDir → Option MemberFunction
static_function s member (Seal number path) = seal_function s member number
static_function s member (Opaque number path) = None

unfoldable pub static_property : Member → StaticDir → Option (Outcome Plain)
static_property members.Root dir = Some (Ok (plain.Directory (static_path dir)))
static_property _ dir = None
