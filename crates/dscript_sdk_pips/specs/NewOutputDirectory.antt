-- `Context.getNewOutputDirectory`: a numbered directory below `out`, for a name in a specification file.
use Rattle.std.specs.Prelude.{ℕ, if◌then◌else◌, List, [], ◌∷◌, ◌++◌, codes, Ok, Err}
use Rattle.std.specs.Fmt.{decimal}
use Rattle.bx_tree.specs.Paths.{Atoms}
use Rattle.bx_path.specs.Joining.{if_short, is_atom}
use Rattle.dscript_value.specs.Plain as plain
use Rattle.dscript_value.specs.Plain.{Plain}
use Rattle.dscript_sdk_values.specs.declared.fault.SdkFault.TheVariants.{BadArgument, BadPath}
use Rattle.dscript_sdk_values.specs.Arguments.{one_of}
use Rattle.dscript_sdk_values.specs.Kinds.{text_in}
use Rattle.dscript_sdk_values.specs.Outcomes.{Outcome, ◌>>=◌, unless_none}
use Rattle.dscript_sdk_pips.specs.States.{Change, State, count_in, one_more}

abbrev pub atom_in : Plain → Outcome (List ℕ)
atom_in v = text_in v >>= λ text. if is_atom text then Ok text else Err BadArgument

-- the directory in which calls in a specification file make the output directories with this name
abbrev pub named_directory : Atoms → List ℕ → Atoms
named_directory spec name = codes "out" ∷ spec ++ name ∷ []

-- the next directory in this one, which is numbered by those before it
abbrev pub next_directory : Atoms → State → Change
next_directory dir s =
    unless_none BadPath (if_short (dir ++ decimal (count_in s.counts dir) ∷ [])) >>= λ path.
    Ok (plain.Directory path, record s { counts = one_more s.counts dir })

abbrev pub name_in_arguments : List Plain → Outcome (List ℕ)
name_in_arguments args = one_of args >>= atom_in

unfoldable pub new_output_directory : Atoms → List Plain → State → Change
new_output_directory spec args s =
    name_in_arguments args >>= λ name. next_directory (named_directory spec name) s
