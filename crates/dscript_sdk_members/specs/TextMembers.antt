-- The members of texts.
use Rattle.std.specs.Prelude.{ℕ, zero, suc, ◌-◌, Bool, nat_eq, if◌then◌else◌, List, [], ◌∷◌, length, map}
use Rattle.std.specs.Prelude.{Option, Some, None, Ok, Err}
use Rattle.std.specs.List.{starts_with, ends_with, onto_first}
use Rattle.bx_path.specs.Globbing.{some_suffix}
use Rattle.dscript_value.specs.Plain as plain
use Rattle.dscript_value.specs.Plain.{Plain}
use Rattle.dscript_sdk_values.specs.declared.fault.SdkFault.TheVariants.{BadArgument}
use Rattle.dscript_sdk_values.specs.Answers.{list_answer, number_answer}
use Rattle.dscript_sdk_values.specs.Arguments.{one_of}
use Rattle.dscript_sdk_values.specs.Kinds.{text_in}
use Rattle.dscript_sdk_values.specs.Outcomes.{Outcome, ◌>>=◌}
use Rattle.dscript_sdk_members.specs.declared.member.Member.{Member}
use Rattle.dscript_sdk_members.specs.declared.member.Member.TheVariants as members
use Rattle.dscript_sdk_members.specs.Functions.{MemberFunction}

-- a member function that tests the text by another
abbrev pub text_test : (List ℕ → List ℕ → Bool) → List ℕ → MemberFunction
text_test test text args = one_of args >>= text_in >>= λ other. Ok (plain.Flag (test text other))

-- whether another text occurs in the text
abbrev pub has_text : List ℕ → List ℕ → Bool
has_text text other = some_suffix (λ rest. starts_with nat_eq rest other) text

-- The pieces of the text between places of a separator, which are looked for from the left. A prefix of
-- this length belongs to a separator that began before the text, and to no piece.
abbrev pub pieces_after : (separator : List ℕ) → ℕ → List ℕ → List (List ℕ)
pieces_after separator skipped [] = [] ∷ []
pieces_after separator (suc skipped) (b ∷ bs) = pieces_after separator skipped bs
pieces_after separator zero (b ∷ bs) =
    if starts_with nat_eq (b ∷ bs) separator then [] ∷ pieces_after separator (length separator - 1) bs
    else onto_first b (pieces_after separator 0 bs)

-- the pieces of a text around a separator, which is not empty
abbrev pub split_by : List ℕ → List ℕ → Outcome Plain
split_by text [] = Err BadArgument
split_by text (b ∷ bs) = list_answer (map plain.Text (pieces_after (b ∷ bs) 0 text))

abbrev pub split_text : List ℕ → MemberFunction
split_text text args = one_of args >>= text_in >>= split_by text

unfoldable pub text_function : Member → List ℕ → Option MemberFunction
text_function members.Contains text = Some (text_test has_text text)
text_function members.StartsWith text = Some (text_test (starts_with nat_eq) text)
text_function members.EndsWith text = Some (text_test (ends_with nat_eq) text)
text_function members.Split text = Some (split_text text)
text_function _ text = None

unfoldable pub text_property : Member → List ℕ → Option (Outcome Plain)
text_property members.Length text = Some (number_answer (length text))
text_property _ text = None
