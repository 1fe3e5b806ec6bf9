-- The members of lists, without those that call functions.
use Rattle.std.specs.Prelude.{ℕ, Bool, true, false, List, [], ◌∷◌, ◌++◌, length, Option, Some, None, Ok, Err}
use Rattle.std.specs.List.{join_by}
use Rattle.dscript_value.specs.Equality.{equal_of}
use Rattle.dscript_value.specs.Plain as plain
use Rattle.dscript_value.specs.Plain.{Plain}
use Rattle.dscript_sdk_values.specs.declared.fault.SdkFault.TheVariants.{Kind}
use Rattle.dscript_sdk_values.specs.Answers.{list_answer, number_answer, text_answer}
use Rattle.dscript_sdk_values.specs.Arguments.{one_of}
use Rattle.dscript_sdk_values.specs.Kinds.{each_in, items_in, text_in}
use Rattle.dscript_sdk_values.specs.Outcomes.{Outcome, ◌>>=◌}
use Rattle.dscript_sdk_members.specs.declared.member.Member.{Member}
use Rattle.dscript_sdk_members.specs.declared.member.Member.TheVariants as members
use Rattle.dscript_sdk_members.specs.Functions.{MemberFunction}

abbrev pub concat_lists : List Plain → MemberFunction
concat_lists items args = one_of args >>= items_in >>= λ more. list_answer (items ++ more)

-- an equal item is found, an unequal one is followed by what is left, and a pair without an answer is refused
abbrev pub found_or : Option Bool → Outcome Bool → Outcome Bool
found_or None rest = Err Kind
found_or (Some true) rest = Ok true
found_or (Some false) rest = rest

-- whether an item equals the value; no item after the first equal one is looked at
abbrev pub has_equal : List Plain → Plain → Outcome Bool
has_equal [] x = Ok false
has_equal (item ∷ items) x = found_or (equal_of item x) (has_equal items x)

abbrev pub contains_item : List Plain → MemberFunction
contains_item items args = one_of args >>= has_equal items >>= λ found. Ok (plain.Flag found)

-- texts with a separator between them
abbrev pub separated_texts : List ℕ → List (List ℕ) → List ℕ
separated_texts separator texts = join_by (λ text. text) separator texts

-- The items must be texts, which is looked at after the argument.
abbrev pub join_items : List Plain → MemberFunction
join_items items args =
    one_of args >>= text_in >>= λ separator.
    each_in text_in items >>= λ texts.
    text_answer (separated_texts separator texts)

unfoldable pub list_function : Member → List Plain → Option MemberFunction
list_function members.Concat items = Some (concat_lists items)
list_function members.Contains items = Some (contains_item items)
list_function members.Join items = Some (join_items items)
list_function _ items = None

unfoldable pub list_property : Member → List Plain → Option (Outcome Plain)
list_property members.Length items = Some (number_answer (length items))
list_property _ items = None

-- whether a member of lists calls functions, which evaluation does
unfoldable pub is_callback : Member → Bool
is_callback members.Map = true
is_callback members.Filter = true
is_callback members.MapMany = true
is_callback members.Reduce = true
is_callback _ = false
