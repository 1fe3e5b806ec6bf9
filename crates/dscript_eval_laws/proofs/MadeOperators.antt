-- What operators give of values that are made is made.
use Rattle.std.proofs.Common.{ℕ, Bool, nat_le, List, [], ◌∷◌, ◌++◌, length, Option, Ok, Err}
use Rattle.std.specs.Prelude.{ℤ, pos, negsuc, neg_ℤ, ◌-ℤ◌, ◌*ℤ◌, ◌+ℤ◌, int_le, int_lt, slice_get, ◌==◌}
use Rattle.std.specs.Fmt.{signed_decimal}
use Rattle.std.specs.List.{slice_split}
use Rattle.bx_tree.specs.Paths.{Atoms}
use Rattle.bx_tree.proofs.Lists.{all_append}
use Rattle.bx_path.specs.Joining.{is_atom}
use Rattle.dscript_ast.specs.declared.expr.PathKind.{PathKind}
use Rattle.dscript_ast.specs.declared.expr.PathKind.TheVariants as letters
use Rattle.dscript_ast.specs.declared.operator.BinaryOp.{BinaryOp}
use Rattle.dscript_ast.specs.declared.operator.BinaryOp.TheVariants as binary
use Rattle.dscript_ast.specs.declared.operator.UnaryOp.{UnaryOp}
use Rattle.dscript_ast.specs.declared.operator.UnaryOp.TheVariants as unary
use Rattle.pip_model_types.specs.declared.pip.Pip.{Pip}
use Rattle.dscript_value.specs.Depths.{field_at}
use Rattle.dscript_value.specs.Equality.{equal_of}
use Rattle.dscript_value.specs.Plain as plain
use Rattle.dscript_value.specs.Plain.{Plain, item_list, member_list}
use Rattle.dscript_sdk_values.specs.declared.fault.SdkFault.TheVariants.{BadPath, Kind, Range}
use Rattle.dscript_sdk_values.specs.declared.limits.TheConstants.{MAX_LIST_ITEMS}
use Rattle.dscript_sdk_values.specs.Arguments.{one_of, two_of}
use Rattle.dscript_sdk_values.specs.Kinds.{items_in}
use Rattle.dscript_sdk_values.specs.Outcomes.{unless_none}
use Rattle.dscript_eval_operators.specs.CallbackArguments.{Function, callback_in, function_in, reduction_in}
use Rattle.dscript_eval_operators.specs.Comparisons.{compare_by, is_at_least, is_at_most, is_greater, is_less}
use Rattle.dscript_eval_operators.specs.Equalities.{is_equal, is_unequal}
use Rattle.dscript_eval_operators.specs.Indexing.{indexed, item_at}
use Rattle.dscript_eval_operators.specs.Numbers.{at_numbers, difference_of, fits, integer_answer, negative_of}
use Rattle.dscript_eval_operators.specs.Numbers.{number_in, product_of}
use Rattle.dscript_eval_operators.specs.Operators.{operated, prefixed, prefixed_by}
use Rattle.dscript_eval_operators.specs.PathLiterals.{lettered, path_literal, path_to}
use Rattle.dscript_eval_operators.specs.RelativeLiterals.{atom_literal, atoms_of, relative_literal}
use Rattle.dscript_eval_operators.specs.Spreads.{spread_fields, with_items_of}
use Rattle.dscript_eval_operators.specs.Sums.{sum_of}
use Rattle.dscript_eval_laws.proofs.MadeOutcomes.{Any, If, and_then, anything, chosen, in_list, item_made}
use Rattle.dscript_eval_laws.proofs.MadeOutcomes.{one_made, text_answered, there_made, there_or, two_made}
use Rattle.dscript_eval_laws.proofs.MadeOutcomes.{unless_there}
use Rattle.dscript_eval_laws.proofs.MadeValues.{AreFieldsMade, AreMade, IsHolding, IsMade, items_made, members_made}

module _ (F : ℕ → ℕ → Type 0) where
  module _ (pips : List Pip) where
    -- ## Numbers, texts and flags

    integer_made : (n : ℤ) → If (IsMade F pips) (integer_answer n)
    integer_made n = chosen (IsMade F pips) (fits n) (Ok (plain.Number n)) (Err Range) tt tt

    compared_made : (holds : ℤ → ℤ → Bool) (a b : Plain) → If (IsMade F pips) (compare_by holds a b)
    compared_made holds a b =
        and_then (Any Bool) (IsMade F pips) (at_numbers holds a b) _ (anything (at_numbers holds a b)) (λ flag k. tt)

    equal_made : (a b : Plain) → If (IsMade F pips) (is_equal a b)
    unfolding is_equal
    equal_made a b =
        and_then (Any Bool) (IsMade F pips) (unless_none Kind (equal_of a b)) _
        (anything (unless_none Kind (equal_of a b))) (λ same k. tt)

    unequal_made : (a b : Plain) → If (IsMade F pips) (is_unequal a b)
    unfolding is_unequal
    unequal_made a b =
        and_then (Any Bool) (IsMade F pips) (unless_none Kind (equal_of a b)) _
        (anything (unless_none Kind (equal_of a b))) (λ same k. tt)

    less_made : (a b : Plain) → If (IsMade F pips) (is_less a b)
    unfolding is_less
    less_made a b = compared_made (λ x y. int_lt x y) a b

    at_most_made : (a b : Plain) → If (IsMade F pips) (is_at_most a b)
    unfolding is_at_most
    at_most_made a b = compared_made (λ x y. int_le x y) a b

    greater_made : (a b : Plain) → If (IsMade F pips) (is_greater a b)
    unfolding is_greater
    greater_made a b = compared_made (λ x y. int_lt y x) a b

    at_least_made : (a b : Plain) → If (IsMade F pips) (is_at_least a b)
    unfolding is_at_least
    at_least_made a b = compared_made (λ x y. int_le y x) a b

    difference_made : (a b : Plain) → If (IsMade F pips) (difference_of a b)
    unfolding difference_of
    difference_made a b =
        and_then (Any ℤ) (IsMade F pips) (at_numbers (λ x y. x -ℤ y) a b) integer_answer
        (anything (at_numbers (λ x y. x -ℤ y) a b)) (λ n k. integer_made n)

    product_made : (a b : Plain) → If (IsMade F pips) (product_of a b)
    unfolding product_of
    product_made a b =
        and_then (Any ℤ) (IsMade F pips) (at_numbers (λ x y. x *ℤ y) a b) integer_answer
        (anything (at_numbers (λ x y. x *ℤ y) a b)) (λ n k. integer_made n)

    negative_made : (a : Plain) → If (IsMade F pips) (negative_of a)
    unfolding negative_of
    negative_made a =
        and_then (Any ℤ) (IsMade F pips) (number_in a) _ (anything (number_in a)) (λ n k. integer_made (neg_ℤ n))

    sum_made : (a b : Plain) → If (IsMade F pips) (sum_of a b)
    unfolding sum_of
    sum_made (plain.Number x) (plain.Number y) = integer_made (x +ℤ y)
    sum_made (plain.Number x) (plain.Text y) = text_answered F pips (signed_decimal x ++ y)
    sum_made (plain.Number x) _ = tt
    sum_made (plain.Text x) (plain.Number y) = text_answered F pips (x ++ signed_decimal y)
    sum_made (plain.Text x) (plain.Text y) = text_answered F pips (x ++ y)
    sum_made (plain.Text x) _ = tt
    sum_made _ _ = tt

    -- ## Operators

    pub operated_made : (op : BinaryOp) (a b : Plain) → IsMade F pips b → If (IsMade F pips) (operated op a b)
    unfolding operated
    operated_made binary.Or a b h = h
    operated_made binary.And a b h = h
    operated_made binary.Equal a b h = equal_made a b
    operated_made binary.NotEqual a b h = unequal_made a b
    operated_made binary.Less a b h = less_made a b
    operated_made binary.LessOrEqual a b h = at_most_made a b
    operated_made binary.Greater a b h = greater_made a b
    operated_made binary.GreaterOrEqual a b h = at_least_made a b
    operated_made binary.Add a b h = sum_made a b
    operated_made binary.Subtract a b h = difference_made a b
    operated_made binary.Multiply a b h = product_made a b

    by_prefix : (op : UnaryOp) (a : Plain) → If (IsMade F pips) (prefixed_by op a)
    by_prefix unary.Not a = tt
    by_prefix unary.Negate a = negative_made a

    pub prefixed_made : (ops : List UnaryOp) (a : Plain) → IsMade F pips a → If (IsMade F pips) (prefixed ops a)
    unfolding prefixed
    prefixed_made [] a h = h
    prefixed_made (op ∷ ops) a h =
        and_then (IsMade F pips) (IsMade F pips) (prefixed ops a) (prefixed_by op) (prefixed_made ops a h)
        (λ x k. by_prefix op x)

    -- ## Parts of lists and objects

    at_number : (xs : List Plain) (n : ℤ) → AreMade F pips xs → If (IsMade F pips) (item_at xs n)
    at_number xs (pos n) h = unless_there (IsMade F pips) Range (slice_get xs n) (item_made F pips xs n h)
    at_number xs (negsuc n) h = tt

    pub indexed_made : (x i : Plain) → IsMade F pips x → If (IsMade F pips) (indexed x i)
    unfolding indexed
    indexed_made (plain.Listed depth items) (plain.Number n) h =
        at_number (item_list items) n (items_made F pips items h)
    indexed_made (plain.Listed depth items) _ h = tt
    indexed_made (plain.Object depth members) (plain.Text name) h =
        there_or (IsMade F pips) (field_at (member_list members) name) plain.Undefined
        (there_made F pips (member_list members) name (members_made F pips members h)) tt
    indexed_made (plain.Object depth members) _ h = tt
    indexed_made _ _ h = tt

    pub spread_made : (x : Plain) → IsMade F pips x → If (AreFieldsMade F pips) (spread_fields x)
    unfolding spread_fields
    spread_made plain.Undefined h = tt
    spread_made (plain.Object depth members) h = members_made F pips members h
    spread_made _ h = tt

    pub with_items_made
        : (done : List Plain) (x : Plain) → AreMade F pips done → IsMade F pips x
        → If (AreMade F pips) (with_items_of done x)
    unfolding with_items_of
    with_items_made done x d h =
        and_then (AreMade F pips) (AreMade F pips) (items_in x) _ (in_list F pips x h)
        (λ items k. chosen (AreMade F pips) (nat_le (length (done ++ items)) MAX_LIST_ITEMS) (Ok (done ++ items))
        (Err Range) (all_append (IsMade F pips) done items d k) tt)

    -- ## Literals

    lettered_made : (letter : PathKind) (path : Atoms) → If (IsMade F pips) (lettered letter path)
    lettered_made letters.Path [] = tt
    lettered_made letters.Path (atom ∷ atoms) = tt
    lettered_made letters.File [] = tt
    lettered_made letters.File (atom ∷ atoms) = tt
    lettered_made letters.Directory path = tt
    lettered_made _ path = tt

    pub path_made
        : (letter : PathKind) (dir : Atoms) (base : Option Atoms) (text : List ℕ)
        → If (IsMade F pips) (path_literal letter dir base text)
    unfolding path_literal
    path_made letter dir base text =
        and_then (Any Atoms) (IsMade F pips) (unless_none BadPath (path_to dir base text)) (lettered letter)
        (anything (unless_none BadPath (path_to dir base text))) (λ path k. lettered_made letter path)

    pub relative_made : (text : List ℕ) → If (IsMade F pips) (relative_literal text)
    unfolding relative_literal
    relative_made text =
        and_then (Any (List (List ℕ))) (IsMade F pips) (atoms_of (slice_split (λ b. b == 47) text)) _
        (anything (atoms_of (slice_split (λ b. b == 47) text))) (λ atoms k. tt)

    pub atom_made : (text : List ℕ) → If (IsMade F pips) (atom_literal text)
    unfolding atom_literal
    atom_made text = chosen (IsMade F pips) (is_atom text) (Ok (plain.Atom text)) (Err BadPath) tt tt

    -- ## Callbacks

    abbrev pub IsFunctionMade : Function → Type 0
    IsFunctionMade f = IsHolding F f.0 (length f.1) × AreMade F pips f.1

    function_made : (x : Plain) → IsMade F pips x → If IsFunctionMade (function_in x)
    function_made (plain.Function callee depth held) h = (h.0, items_made F pips held h.1)
    function_made _ h = tt

    pub callback_made : (args : List Plain) → AreMade F pips args → If IsFunctionMade (callback_in args)
    unfolding callback_in
    callback_made args h =
        and_then (IsMade F pips) IsFunctionMade (one_of args) function_in (one_made F pips args h)
        (λ x k. function_made x k)

    abbrev pub IsReductionMade : Function × Plain → Type 0
    IsReductionMade r = IsFunctionMade r.0 × IsMade F pips r.1

    pub reduction_made : (args : List Plain) → AreMade F pips args → If IsReductionMade (reduction_in args)
    unfolding reduction_in
    reduction_made args h =
        and_then (λ (two : Plain × Plain). IsMade F pips two.0 × IsMade F pips two.1) IsReductionMade (two_of args) _
        (two_made F pips args h)
        (λ two k. and_then IsFunctionMade IsReductionMade (function_in two.0) _ (function_made two.0 k.0)
        (λ f l. (l, k.1)))
