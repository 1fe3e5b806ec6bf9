-- What operators, spreads, texts and path literals answer, on both sides of their limits.
use Rattle.std.proofs.Common.{◌≡◌, ℕ, pos, negsuc, true, false, List, [], ◌∷◌, Some, None, Ok, Err, codes}
use Rattle.std.proofs.Common.{refl}
use Rattle.bx_tree.specs.Paths.{Atoms}
use Rattle.bx_tree.specs.declared.file_input.FileInput.TheVariants.{Source, Made}
use Rattle.dscript_ast.specs.declared.expr.PathKind.TheVariants as letters
use Rattle.dscript_ast.specs.declared.operator.BinaryOp.TheVariants as binary
use Rattle.dscript_ast.specs.declared.operator.UnaryOp.TheVariants.{Negate, Not}
use Rattle.dscript_value.specs.Plain as plain
use Rattle.dscript_value.specs.Plain.{Plain, to_items, to_members}
use Rattle.dscript_sdk_values.specs.declared.fault.SdkFault.TheVariants.{BadPath, Kind, Range}
use Rattle.dscript_eval_operators.specs.Comparisons.{is_at_least, is_less}
use Rattle.dscript_eval_operators.specs.Equalities.{is_equal, is_unequal}
use Rattle.dscript_eval_operators.specs.Indexing.{indexed}
use Rattle.dscript_eval_operators.specs.Numbers.{difference_of, negative_of, product_of}
use Rattle.dscript_eval_operators.specs.Operators.{is_settled, operated, prefixed}
use Rattle.dscript_eval_operators.specs.PathLiterals.{first_hole, path_literal}
use Rattle.dscript_eval_operators.specs.RelativeLiterals.{atom_literal, relative_literal}
use Rattle.dscript_eval_operators.specs.Spreads.{spread_fields}
use Rattle.dscript_eval_operators.specs.Sums.{sum_of}
use Rattle.dscript_eval_operators.specs.Texts.{literal_hole, template_hole}
use Rattle.dscript_eval_operators.specs.Truth.{is_true}

abbrev text : List ℕ → Plain
text bytes = plain.Text bytes

abbrev one_item : Plain
one_item = plain.Listed 1 (to_items (plain.Number (pos 7) ∷ []))

abbrev one_field : Plain
one_field = plain.Object 1 (to_members ((codes "a", plain.Flag true) ∷ []))

abbrev dir : Atoms
dir = codes "s" ∷ []

-- ## Truth and operators

empty_text_is_false : is_true (text []) ≡ false
unfolding is_true
empty_text_is_false = refl

zero_is_false : is_true (plain.Number (pos 0)) ≡ false
unfolding is_true
zero_is_false = refl

empty_list_is_true : is_true (plain.Listed 1 (to_items [])) ≡ true
unfolding is_true
empty_list_is_true = refl

greatest_number : sum_of (plain.Number (pos 2147483646)) (plain.Number (pos 1))
    ≡ Ok (plain.Number (pos 2147483647))
unfolding sum_of
greatest_number = refl

above_greatest : sum_of (plain.Number (pos 2147483647)) (plain.Number (pos 1)) ≡ Err Range
unfolding sum_of
above_greatest = refl

least_number : difference_of (plain.Number (negsuc 2147483646)) (plain.Number (pos 1))
    ≡ Ok (plain.Number (negsuc 2147483647))
unfolding difference_of
least_number = refl

no_negative : negative_of (plain.Number (negsuc 2147483647)) ≡ Err Range
unfolding negative_of
no_negative = refl

product_of_signs : product_of (plain.Number (negsuc 1)) (plain.Number (negsuc 2)) ≡ Ok (plain.Number (pos 6))
unfolding product_of
product_of_signs = refl

text_and_flag : sum_of (text (codes "a")) (plain.Flag true) ≡ Err Kind
unfolding sum_of
text_and_flag = refl

not_below_itself : operated binary.Less (plain.Number (pos 1)) (plain.Number (pos 1)) ≡ Ok (plain.Flag false)
unfolding operated is_less
not_below_itself = refl

at_least_itself : operated binary.GreaterOrEqual (plain.Number (pos 1)) (plain.Number (pos 1))
    ≡ Ok (plain.Flag true)
unfolding operated is_at_least
at_least_itself = refl

texts_do_not_compare : is_less (text (codes "a")) (text (codes "b")) ≡ Err Kind
unfolding is_less
texts_do_not_compare = refl

files_by_path : is_equal (plain.File (Source dir)) (plain.File (Made dir 3)) ≡ Ok (plain.Flag true)
unfolding is_equal
files_by_path = refl

kinds_differ : is_unequal (plain.Path dir) (plain.File (Source dir)) ≡ Ok (plain.Flag true)
unfolding is_unequal
kinds_differ = refl

lists_are_refused : is_unequal one_item one_item ≡ Err Kind
unfolding is_unequal
lists_are_refused = refl

and_is_settled_by_false : is_settled binary.And (text []) ≡ true
unfolding is_settled is_true
and_is_settled_by_false = refl

nearest_prefix_first : prefixed (Negate ∷ Not ∷ []) (plain.Number (pos 1)) ≡ Err Kind
unfolding prefixed negative_of is_true
nearest_prefix_first = refl

-- ## Indices and spreads

last_item : indexed one_item (plain.Number (pos 0)) ≡ Ok (plain.Number (pos 7))
unfolding indexed
last_item = refl

after_last_item : indexed one_item (plain.Number (pos 1)) ≡ Err Range
unfolding indexed
after_last_item = refl

negative_index : indexed one_item (plain.Number (negsuc 0)) ≡ Err Range
unfolding indexed
negative_index = refl

missing_field : indexed one_field (text (codes "b")) ≡ Ok plain.Undefined
unfolding indexed
missing_field = refl

text_of_list : indexed one_item (text (codes "length")) ≡ Err Kind
unfolding indexed
text_of_list = refl

undefined_has_no_fields : spread_fields plain.Undefined ≡ Ok []
unfolding spread_fields
undefined_has_no_fields = refl

list_in_object : spread_fields one_item ≡ Err Kind
unfolding spread_fields
list_in_object = refl

-- ## Texts

root_in_template : template_hole (plain.Directory []) ≡ Ok (codes "/.")
unfolding template_hole
root_in_template = refl

empty_relative : literal_hole (plain.Relative []) ≡ Ok []
unfolding literal_hole
empty_relative = refl

flag_in_literal : literal_hole (plain.Flag true) ≡ Err Kind
unfolding literal_hole
flag_in_literal = refl

-- ## Path literals

from_directory : path_literal letters.Path dir None (codes "../a") ≡ Ok (plain.Path (codes "a" ∷ []))
unfolding path_literal
from_directory = refl

from_base : path_literal letters.File dir (Some (codes "t" ∷ [])) (codes "/a")
    ≡ Ok (plain.File (Source (codes "t" ∷ codes "a" ∷ [])))
unfolding path_literal
from_base = refl

base_alone : path_literal letters.Directory dir (Some []) [] ≡ Ok (plain.Directory [])
unfolding path_literal
base_alone = refl

base_and_slash : path_literal letters.Path dir (Some (codes "t" ∷ [])) (codes "/") ≡ Err BadPath
unfolding path_literal
base_and_slash = refl

empty_literal : path_literal letters.Directory dir None [] ≡ Err BadPath
unfolding path_literal
empty_literal = refl

root_file : path_literal letters.File dir None (codes "..") ≡ Err BadPath
unfolding path_literal
root_file = refl

text_at_start : first_hole [] (text (codes "a")) ≡ Ok (None, codes "a")
unfolding first_hole literal_hole
text_at_start = refl

no_base_after_text : first_hole (codes "a") (plain.Directory dir) ≡ Err Kind
unfolding first_hole literal_hole
no_base_after_text = refl

base_first : first_hole [] (plain.Directory dir) ≡ Ok (Some dir, [])
unfolding first_hole
base_first = refl

dots_in_relative : relative_literal (codes "./a/.") ≡ Ok (plain.Relative (codes "a" ∷ []))
unfolding relative_literal
dots_in_relative = refl

no_way_up : relative_literal (codes "a/..") ≡ Err BadPath
unfolding relative_literal
no_way_up = refl

no_relative : relative_literal [] ≡ Err BadPath
unfolding relative_literal
no_relative = refl

dot_is_no_atom : atom_literal (codes ".") ≡ Err BadPath
unfolding atom_literal
dot_is_no_atom = refl
