-- What each operator answers at values of the types that it takes.
use Rattle.std.proofs.Common.{◌≡◌, ℤ, ◌-ℤ◌, ◌*ℤ◌, neg_ℤ, Bool, true, false, cond, not, List, [], ◌∷◌, Option, Some, None}
use Rattle.std.proofs.Common.{Ok, Err, refl, sym, ap, ◌∙◌, subst}
use Rattle.std.specs.Option.{option_and_then}
use Rattle.std.specs.Prelude.{int_le, int_lt, nat_le}
use Rattle.dscript_ast.specs.declared.operator.BinaryOp.{BinaryOp}
use Rattle.dscript_ast.specs.declared.operator.BinaryOp.TheVariants as binary
use Rattle.dscript_ast.specs.declared.operator.UnaryOp.{UnaryOp}
use Rattle.dscript_ast.specs.declared.operator.UnaryOp.TheVariants as unary
use Rattle.dscript_value.specs.Equality.{equal_of}
use Rattle.dscript_value.specs.Plain as plain
use Rattle.dscript_value.specs.Plain.{Plain}
use Rattle.dscript_sdk_values.specs.declared.fault.SdkFault.TheVariants.{Kind}
use Rattle.dscript_sdk_values.specs.Outcomes.{Outcome, ◌>>=◌, unless_none}
use Rattle.dscript_eval_operators.specs.Comparisons.{compare_by, is_at_least, is_at_most, is_greater, is_less}
use Rattle.dscript_eval_operators.specs.Equalities.{is_equal, is_unequal}
use Rattle.dscript_eval_operators.specs.Numbers.{difference_of, integer_answer, negative_of, product_of}
use Rattle.dscript_eval_operators.specs.Operators as values
use Rattle.dscript_eval_operators.specs.Operators.{is_settled}
use Rattle.dscript_eval_operators.specs.Truth.{is_true}
use Rattle.dscript_types_meaning.specs.declared.limits.TheConstants.{MAX_TYPE_NODES}
use Rattle.dscript_types_meaning.specs.Types.{TypeData}
use Rattle.dscript_types_meaning.specs.Sizes.{type_nodes, within_limit}
use Rattle.dscript_types_meaning.specs.Unions.{join, without_undefined}
use Rattle.dscript_types_meaning.specs.Operators as types
use Rattle.dscript_types_meaning.specs.Operators.{boolean_type, compared, may_be_alike, number_type, of_numbers}
use Rattle.dscript_types_meaning.specs.Values.{HasType}
use Rattle.dscript_types_values.proofs.Joining.{has_left, has_right, has_without}
use Rattle.dscript_types_laws.proofs.Comparing.{equal_answers, flag_has}
use Rattle.dscript_types_laws.proofs.Operating.{AnswersOf, answers_as, number_answered, numbers_are, sums_have}

-- ## Limits

limit_case : (t u : TypeData) (b : Bool) → cond b (Some t) None ≡ Some u → t ≡ u
limit_case t u true e = cc
limit_case t u false e = absurd cc

pub within_is : (t u : TypeData) → within_limit t ≡ Some u → t ≡ u
within_is t u e = limit_case t u (nat_le (type_nodes t) MAX_TYPE_NODES) e

-- ## Comparisons

compared_case
    : (t u a : TypeData) (b : Bool) → may_be_alike t u ≡ b → cond b None (Some boolean_type) ≡ Some a
    → (may_be_alike t u ≡ false) × (boolean_type ≡ a)
compared_case t u a true is e = absurd cc
compared_case t u a false is e = let same : boolean_type ≡ a = cc in (is, same)

compared_are : (t u a : TypeData) → compared t u ≡ Some a → (may_be_alike t u ≡ false) × (boolean_type ≡ a)
compared_are t u a e = compared_case t u a (may_be_alike t u) refl e

flag_of : (a : TypeData) (f : Bool → Bool) (o : Option Bool) (same : Bool) → o ≡ Some same → boolean_type ≡ a
    → AnswersOf a (unless_none Kind o >>= λ b. Ok (plain.Flag (f b)))
flag_of a f None same is e = absurd cc
flag_of a f (Some b) same is e = subst (λ t. HasType (plain.Flag (f b)) t) e (flag_has (f b))

equal_has
    : (t u a : TypeData) (x y : Plain) → compared t u ≡ Some a → HasType x t → HasType y u → AnswersOf a (is_equal x y)
unfolding is_equal
equal_has t u a x y e h g =
    let c = compared_are t u a e in
    let s = equal_answers x y t u c.0 h g in flag_of a (λ b. b) (equal_of x y) s.0 s.1 c.1

unequal_has
    : (t u a : TypeData) (x y : Plain) → compared t u ≡ Some a → HasType x t → HasType y u → AnswersOf a (is_unequal x y)
unfolding is_unequal
unequal_has t u a x y e h g =
    let c = compared_are t u a e in
    let s = equal_answers x y t u c.0 h g in flag_of a not (equal_of x y) s.0 s.1 c.1

order_has
    : (holds : ℤ → ℤ → Bool) (t u a : TypeData) (x y : Plain) → of_numbers boolean_type t u ≡ Some a
    → HasType x t → HasType y u → AnswersOf a (compare_by holds x y)
order_has holds t u a x y e h g =
    let n = numbers_are boolean_type t u a x y e h g in
    subst (λ z. AnswersOf a (compare_by holds z y)) (sym n.2)
    (subst (λ w. AnswersOf a (compare_by holds (plain.Number n.0) w)) (sym n.3)
    (subst (λ b. HasType (plain.Flag (holds n.0 n.1)) b) n.4 (flag_has (holds n.0 n.1))))

-- ## Numbers

difference_has
    : (t u a : TypeData) (x y : Plain) → of_numbers number_type t u ≡ Some a → HasType x t → HasType y u
    → AnswersOf a (difference_of x y)
unfolding difference_of
difference_has t u a x y e h g =
    let n = numbers_are number_type t u a x y e h g in
    subst (λ z. AnswersOf a (difference_of z y)) (sym n.2)
    (subst (λ w. AnswersOf a (difference_of (plain.Number n.0) w)) (sym n.3)
    (answers_as number_type a (integer_answer (n.0 -ℤ n.1)) n.4 (number_answered (n.0 -ℤ n.1))))

product_has
    : (t u a : TypeData) (x y : Plain) → of_numbers number_type t u ≡ Some a → HasType x t → HasType y u
    → AnswersOf a (product_of x y)
unfolding product_of
product_has t u a x y e h g =
    let n = numbers_are number_type t u a x y e h g in
    subst (λ z. AnswersOf a (product_of z y)) (sym n.2)
    (subst (λ w. AnswersOf a (product_of (plain.Number n.0) w)) (sym n.3)
    (answers_as number_type a (integer_answer (n.0 *ℤ n.1)) n.4 (number_answered (n.0 *ℤ n.1))))

-- ## Operators between operands

-- what an operator answers where both operands are evaluated
pub operated_has
    : (op : BinaryOp) (t u a : TypeData) (x y : Plain) → types.operated op t u ≡ Some a → HasType x t → HasType y u
    → AnswersOf a (values.operated op x y)
unfolding types.operated values.operated is_less is_at_most is_greater is_at_least
operated_has binary.Or t u a x y e h g =
    subst (λ b. HasType y b) (within_is (join (without_undefined t) u) a e) (has_right y (without_undefined t) u g)
operated_has binary.And t u a x y e h g =
    subst (λ b. HasType y b) (within_is (join t u) a e) (has_right y t u g)
operated_has binary.Equal t u a x y e h g = equal_has t u a x y e h g
operated_has binary.NotEqual t u a x y e h g = unequal_has t u a x y e h g
operated_has binary.Less t u a x y e h g = order_has (λ n k. int_lt n k) t u a x y e h g
operated_has binary.LessOrEqual t u a x y e h g = order_has (λ n k. int_le n k) t u a x y e h g
operated_has binary.Greater t u a x y e h g = order_has (λ n k. int_lt k n) t u a x y e h g
operated_has binary.GreaterOrEqual t u a x y e h g = order_has (λ n k. int_le k n) t u a x y e h g
operated_has binary.Add t u a x y e h g = sums_have t u a x y e h g
operated_has binary.Subtract t u a x y e h g = difference_has t u a x y e h g
operated_has binary.Multiply t u a x y e h g = product_has t u a x y e h g

true_is_there : (x : Plain) → is_true x ≡ true → x ≡ plain.Undefined → ⊥
unfolding is_true
true_is_there x e is = let no : false ≡ true = ap is_true (sym is) ∙ e in absurd cc

-- an operand that is the answer by itself
pub settled_has
    : (op : BinaryOp) (t u a : TypeData) (x : Plain) → types.operated op t u ≡ Some a → is_settled op x ≡ true
    → HasType x t → HasType x a
unfolding types.operated is_settled
settled_has binary.Or t u a x e is h =
    subst (λ b. HasType x b) (within_is (join (without_undefined t) u) a e)
    (has_left x (without_undefined t) u (has_without x t (true_is_there x is) h))
settled_has binary.And t u a x e is h = subst (λ b. HasType x b) (within_is (join t u) a e) (has_left x t u h)
settled_has binary.Equal t u a x e is h = absurd cc
settled_has binary.NotEqual t u a x e is h = absurd cc
settled_has binary.Less t u a x e is h = absurd cc
settled_has binary.LessOrEqual t u a x e is h = absurd cc
settled_has binary.Greater t u a x e is h = absurd cc
settled_has binary.GreaterOrEqual t u a x e is h = absurd cc
settled_has binary.Add t u a x e is h = absurd cc
settled_has binary.Subtract t u a x e is h = absurd cc
settled_has binary.Multiply t u a x e is h = absurd cc

-- ## Operators before an operand

prefixed_by_has
    : (op : UnaryOp) (t a : TypeData) (x : Plain) → types.prefixed_by op t ≡ Some a → HasType x t
    → AnswersOf a (values.prefixed_by op x)
unfolding negative_of
prefixed_by_has unary.Not t a x e h =
    let same : boolean_type ≡ a = cc in subst (λ b. HasType (plain.Flag (not (is_true x))) b) same (flag_has (not (is_true x)))
prefixed_by_has unary.Negate t a x e h =
    let n = numbers_are number_type t t a x x e h h in
    subst (λ z. AnswersOf a (negative_of z)) (sym n.2)
    (answers_as number_type a (integer_answer (neg_ℤ n.0)) n.4 (number_answered (neg_ℤ n.0)))

prefix_case
    : (op : UnaryOp) (ops : List UnaryOp) (a : TypeData) (q : Option TypeData) → option_and_then (types.prefixed_by op) q ≡ Some a
    → (r : TypeData) × (q ≡ Some r) × (types.prefixed_by op r ≡ Some a)
prefix_case op ops a None e = absurd cc
prefix_case op ops a (Some r) e = (r, refl, e)

prefix_then
    : (op : UnaryOp) (r a : TypeData) (o : Outcome Plain) → types.prefixed_by op r ≡ Some a → AnswersOf r o
    → AnswersOf a (o >>= values.prefixed_by op)
prefix_then op r a (Ok x) e h = prefixed_by_has op r a x e h
prefix_then op r a (Err fault) e h = h

pub prefixed_has
    : (ops : List UnaryOp) (t a : TypeData) (x : Plain) → types.prefixed ops t ≡ Some a → HasType x t
    → AnswersOf a (values.prefixed ops x)
unfolding types.prefixed values.prefixed
prefixed_has [] t a x e h = let same : t ≡ a = cc in subst (λ b. HasType x b) same h
prefixed_has (op ∷ ops) t a x e h =
    let r = prefix_case op ops a (types.prefixed ops t) e in
    prefix_then op r.0 a (values.prefixed ops x) r.2 (prefixed_has ops t r.0 x r.1 h)
