-- Worked examples: the limits, and the order of faults.
use Rattle.std.proofs.Common.{◌≡◌, List, [], ◌∷◌, None, Ok, Err, codes, refl, pos}
use Rattle.dscript_value.specs.Plain as plain
use Rattle.dscript_value.specs.Plain.{Plain, PlainField}
use Rattle.dscript_sdk_values.specs.declared.fault.SdkFault.TheVariants.{BadArgument, Kind, Range}
use Rattle.dscript_sdk_values.specs.declared.limits.TheConstants.{MAX_LIST_ITEMS, MAX_TEXT_BYTES}
use Rattle.dscript_sdk_values.specs.Answers.{number_answer}
use Rattle.dscript_sdk_values.specs.Arguments.{one_of, two_of}
use Rattle.dscript_sdk_values.specs.Kinds.{list_in, text_in}
use Rattle.dscript_sdk_values.specs.Objects.{field_in, fields_in, optional_in, optional_list_in}

-- ## Limits

longest_text : MAX_TEXT_BYTES ≡ 1048576
longest_text = refl

longest_list : MAX_LIST_ITEMS ≡ 1048576
longest_list = refl

greatest_number : number_answer 2147483647 ≡ Ok (plain.Number (pos 2147483647))
greatest_number = refl

one_above_the_greatest_number : number_answer 2147483648 ≡ Err Range
one_above_the_greatest_number = refl

-- ## Arguments

further_arguments_are_dropped : one_of (plain.Undefined ∷ plain.Number (pos 1) ∷ []) ≡ Ok plain.Undefined
further_arguments_are_dropped = refl

one_argument_is_too_few_for_two : two_of (plain.Undefined ∷ []) ≡ Err BadArgument
one_argument_is_too_few_for_two = refl

-- ## Objects

-- a field `a` with a value, and a field `b` with a number
abbrev a_and_b : Plain → Plain
a_and_b v = plain.Object 1 (plain.Next (codes "a") v (plain.Next (codes "b") (plain.Number (pos 1)) plain.Last))

an_unknown_field_is_refused : fields_in (codes "a" ∷ []) [] (a_and_b plain.Undefined) ≡ Err BadArgument
an_unknown_field_is_refused = refl

a_missing_field_is_refused
    : fields_in (codes "a" ∷ codes "c" ∷ []) (codes "b" ∷ []) (a_and_b plain.Undefined) ≡ Err BadArgument
a_missing_field_is_refused = refl

the_kind_comes_before_missing_fields : fields_in (codes "a" ∷ []) [] (plain.Listed 1 plain.End) ≡ Err Kind
the_kind_comes_before_missing_fields = refl

a_known_object_is_taken
    : fields_in (codes "a" ∷ []) (codes "b" ∷ codes "c" ∷ []) (a_and_b plain.Undefined)
    ≡ Ok ((codes "a", plain.Undefined) ∷ (codes "b", plain.Number (pos 1)) ∷ [])
a_known_object_is_taken = refl

-- ## Fields

-- one field `a` with a value
abbrev field_a : Plain → List PlainField
field_a v = (codes "a", v) ∷ []

a_field_that_holds_undefined_is_there : optional_in (field_a plain.Undefined) (codes "a") text_in ≡ Err Kind
a_field_that_holds_undefined_is_there = refl

a_field_may_be_missing : optional_in (field_a plain.Undefined) (codes "b") text_in ≡ Ok None
a_field_may_be_missing = refl

a_missing_list_is_empty : optional_list_in (field_a plain.Undefined) (codes "b") (list_in text_in) ≡ Ok []
a_missing_list_is_empty = refl

a_required_field_must_be_there : field_in (field_a plain.Undefined) (codes "b") text_in ≡ Err BadArgument
a_required_field_must_be_there = refl

-- ## Lists

undefined_is_no_text : list_in text_in (plain.Listed 1 (plain.More plain.Undefined plain.End)) ≡ Err Kind
undefined_is_no_text = refl

texts_are_taken
    : list_in text_in (plain.Listed 1 (plain.More (plain.Text (codes "x")) plain.End)) ≡ Ok (codes "x" ∷ [])
texts_are_taken = refl
