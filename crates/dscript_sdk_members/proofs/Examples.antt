-- Worked examples of members.
use Rattle.std.proofs.Common.{◌≡◌, ℕ, List, [], ◌∷◌, Some, Ok, Err, codes, refl, true}
use Rattle.dscript_value.specs.Plain as plain
use Rattle.dscript_value.specs.Plain.{Plain}
use Rattle.dscript_sdk_values.specs.declared.fault.SdkFault.TheVariants.{BadArgument, BadPath, Kind, Range}
use Rattle.dscript_sdk_members.specs.declared.member.Member.TheVariants as members
use Rattle.dscript_sdk_members.specs.Names.{member_named, written_name}
use Rattle.dscript_sdk_members.specs.TextMembers.{has_text, pieces_after, split_text}
use Rattle.dscript_sdk_members.specs.ListMembers.{contains_item, join_items}
use Rattle.dscript_sdk_members.specs.PathMembers.{change_extension, name_answer, parent_answer, stem, with_extension}

abbrev text : List ℕ → Plain
text bytes = plain.Text bytes

empty_text_is_one_piece : split_text [] (text (codes ",") ∷ []) ≡ Ok (plain.Listed 1 (plain.More (text []) plain.End))
empty_text_is_one_piece = refl

empty_separator_is_refused : split_text (codes "a") (text [] ∷ []) ≡ Err BadArgument
empty_separator_is_refused = refl

pieces_are_cut_from_the_left : pieces_after (codes "aa") 0 (codes "aaab") ≡ [] ∷ codes "ab" ∷ []
pieces_are_cut_from_the_left = refl

a_separator_at_the_end : pieces_after (codes ",") 0 (codes "a,") ≡ codes "a" ∷ [] ∷ []
a_separator_at_the_end = refl

every_text_has_the_empty_one : has_text [] [] ≡ true
every_text_has_the_empty_one = refl

a_text_in_the_middle : has_text (codes "abc") (codes "bc") ≡ true
a_text_in_the_middle = refl

a_missing_argument : join_items [] [] ≡ Err BadArgument
a_missing_argument = refl

the_argument_comes_before_the_items : join_items (plain.Undefined ∷ []) [] ≡ Err BadArgument
the_argument_comes_before_the_items = refl

items_must_be_texts : join_items (text (codes "x") ∷ plain.Undefined ∷ []) (text [] ∷ []) ≡ Err Kind
items_must_be_texts = refl

equal_items_stop_the_search
    : contains_item (text (codes "x") ∷ plain.Listed 1 plain.End ∷ []) (text (codes "x") ∷ []) ≡ Ok (plain.Flag true)
equal_items_stop_the_search = refl

two_lists_have_no_answer : contains_item (plain.Listed 1 plain.End ∷ []) (plain.Listed 1 plain.End ∷ []) ≡ Err Kind
two_lists_have_no_answer = refl

the_last_dot_counts : stem (codes "b.c.d") ≡ codes "b.c"
the_last_dot_counts = refl

a_leading_dot_stays : stem (codes ".c") ≡ codes ".c"
a_leading_dot_stays = refl

a_second_leading_dot_is_cut : stem (codes "..c") ≡ codes "."
a_second_leading_dot_is_cut = refl

an_extension_is_replaced : with_extension (codes "a" ∷ codes "b.c" ∷ []) (codes ".o") ≡ Some (codes "a" ∷ codes "b.o" ∷ [])
an_extension_is_replaced = refl

no_slash_in_an_extension : change_extension (codes "a" ∷ []) (text (codes "/x") ∷ []) ≡ Err BadPath
no_slash_in_an_extension = refl

the_root_has_no_name : name_answer [] ≡ Err Range
the_root_has_no_name = refl

the_root_has_no_extension : change_extension [] (text (codes "a") ∷ []) ≡ Err BadPath
the_root_has_no_extension = refl

a_parent_is_a_directory : parent_answer (codes "a" ∷ []) ≡ Ok (plain.Directory [])
a_parent_is_a_directory = refl

members_are_named : member_named (codes "mapMany") ≡ Some members.MapMany
unfolding member_named written_name
members_are_named = refl
