-- The members of paths, files and directories.
use Rattle.std.specs.Prelude.{ℕ, Bool, ◌==◌, if◌then◌else◌, List, [], ◌∷◌, ◌++◌, Option, Some, None, Ok}
use Rattle.std.specs.Prelude.{option_and_then, unwrap_or}
use Rattle.std.specs.List.{last_or}
use Rattle.bx_tree.specs.Paths.{Atoms}
use Rattle.bx_path.specs.Joining.{if_short, is_atom, join_of, parent}
use Rattle.dscript_value.specs.Plain as plain
use Rattle.dscript_value.specs.Plain.{Plain}
use Rattle.dscript_sdk_values.specs.declared.fault.SdkFault.TheVariants.{BadPath, Range}
use Rattle.dscript_sdk_values.specs.Arguments.{one_of}
use Rattle.dscript_sdk_values.specs.Kinds.{text_in}
use Rattle.dscript_sdk_values.specs.Outcomes.{Outcome, ◌>>=◌, unless_none}
use Rattle.dscript_sdk_members.specs.declared.member.Member.{Member}
use Rattle.dscript_sdk_members.specs.declared.member.Member.TheVariants as members
use Rattle.dscript_sdk_members.specs.Functions.{MemberFunction}

-- the last atom; the root has none
abbrev pub last_atom : Atoms → Option (List ℕ)
last_atom path = last_or None path

abbrev pub name_answer : Atoms → Outcome Plain
name_answer path = unless_none Range (last_atom path) >>= λ atom. Ok (plain.Atom atom)

abbrev pub parent_answer : Atoms → Outcome Plain
parent_answer path = unless_none Range (parent path) >>= λ dir. Ok (plain.Directory dir)

-- the path to which the text leads
abbrev pub combine_path : Atoms → MemberFunction
combine_path path args =
    one_of args >>= text_in >>= λ text.
    unless_none BadPath (join_of path text) >>= λ to.
    Ok (plain.Path to)

abbrev pub is_dot : ℕ → Bool
is_dot b = b == 46

abbrev pub before_dot_or : ℕ → Option (List ℕ) → Option (List ℕ)
before_dot_or b None = if is_dot b then Some [] else None
before_dot_or b (Some bs) = Some (b ∷ bs)

-- the bytes before the last dot, if there is one
abbrev pub before_dot : List ℕ → Option (List ℕ)
before_dot [] = None
before_dot (b ∷ bs) = before_dot_or b (before_dot bs)

-- an atom without what begins at its last dot, which is not its first byte
abbrev pub stem : List ℕ → List ℕ
stem [] = []
stem (b ∷ bs) = b ∷ unwrap_or (before_dot bs) bs

-- the last atom replaced by another, if that is one, and the path short enough
abbrev pub with_last : Atoms → List ℕ → Option Atoms
with_last path atom =
    if is_atom atom then option_and_then (λ dir. if_short (dir ++ atom ∷ [])) (parent path) else None

-- the path whose last atom ends in this text in the place of its extension; the root leads to none
abbrev pub with_extension : Atoms → List ℕ → Option Atoms
with_extension path text = option_and_then (λ atom. with_last path (stem atom ++ text)) (last_atom path)

abbrev pub change_extension : Atoms → MemberFunction
change_extension path args =
    one_of args >>= text_in >>= λ text.
    unless_none BadPath (with_extension path text) >>= λ to.
    Ok (plain.Path to)

-- members that paths, files and directories have
unfoldable pub any_path_property : Member → Atoms → Option (Outcome Plain)
any_path_property members.Name path = Some (name_answer path)
any_path_property members.Parent path = Some (parent_answer path)
any_path_property _ path = None

unfoldable pub directory_function : Member → Atoms → Option MemberFunction
directory_function members.Combine path = Some (combine_path path)
directory_function _ path = None

-- a file has the member functions of a path
unfoldable pub path_function : Member → Atoms → Option MemberFunction
path_function members.Combine path = Some (combine_path path)
path_function members.ChangeExtension path = Some (change_extension path)
path_function _ path = None

unfoldable pub file_property : Member → Atoms → Option (Outcome Plain)
file_property members.Path path = Some (Ok (plain.Path path))
file_property members.Name path = any_path_property members.Name path
file_property members.Parent path = any_path_property members.Parent path
file_property _ path = None
