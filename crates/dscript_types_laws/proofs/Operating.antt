-- What operators answer at values of the types that they take.
use Rattle.std.proofs.Common.{◌≡◌, ℕ, ℤ, ◌+ℤ◌, Bool, true, false, cond, ◌&&◌, List, [], ◌∷◌, ◌++◌}
use Rattle.std.proofs.Common.{length, Option, Some, None, Ok, Err, refl, sym, ap, ◌∙◌, subst, inl, inr}
use Rattle.std.specs.Fmt.{signed_decimal}
use Rattle.std.specs.Option.{option_and_then, option_map}
use Rattle.std.specs.Prelude.{nat_le}
use Rattle.dscript_value.specs.Plain as plain
use Rattle.dscript_value.specs.Plain.{Plain}
use Rattle.dscript_sdk_values.specs.declared.fault.SdkFault.TheVariants.{Range}
use Rattle.dscript_sdk_values.specs.declared.limits.TheConstants.{MAX_TEXT_BYTES}
use Rattle.dscript_sdk_values.specs.Answers.{text_answer}
use Rattle.dscript_sdk_values.specs.Outcomes.{Outcome}
use Rattle.dscript_eval_operators.specs.Numbers as numbers
use Rattle.dscript_eval_operators.specs.Numbers.{integer_answer}
use Rattle.dscript_eval_operators.specs.Sums as sums
use Rattle.dscript_types_meaning.specs.declared.kind.Kind.TheVariants as kinds
use Rattle.dscript_types_meaning.specs.Types.{TypeData, MemberData, Values, Lists, Objects, members_of}
use Rattle.dscript_types_meaning.specs.Unions.{join}
use Rattle.dscript_types_meaning.specs.Fits.{fits}
use Rattle.dscript_types_meaning.specs.Operators.{at_each, at_pairs, number_type, of_numbers, sum_of, text_type}
use Rattle.dscript_types_meaning.specs.Values.{HasType, IsOf}
use Rattle.dscript_types_values.proofs.Among.{Among}
use Rattle.dscript_types_values.proofs.Fitting.{fits_kind, kind_has}
use Rattle.dscript_types_values.proofs.Joining.{has_left, has_right, of_has}
use Rattle.dscript_types_values.proofs.KindForms.{IsKind, kind_is}
use Rattle.dscript_types_laws.specs.Invariants.{Answers}

-- ## What is there

abbrev pub AnswersOf : TypeData → Outcome Plain → Type 0
AnswersOf t o = Answers Plain (λ x. HasType x t) o

number_case : (n : ℤ) (b : Bool) → AnswersOf number_type (cond b (Ok (plain.Number n)) (Err Range))
number_case n true = kind_has kinds.Number (plain.Number n) (n, refl)
number_case n false = tt

pub number_answered : (n : ℤ) → AnswersOf number_type (integer_answer n)
number_answered n = number_case n (numbers.fits n)

text_case : (text : List ℕ) (b : Bool) → AnswersOf text_type (cond b (Ok (plain.Text text)) (Err Range))
text_case text true = kind_has kinds.String (plain.Text text) (text, refl)
text_case text false = tt

pub text_answered : (text : List ℕ) → AnswersOf text_type (text_answer text)
text_answered text = text_case text (nat_le (length text) MAX_TEXT_BYTES)

pub answers_as : (t u : TypeData) (o : Outcome Plain) → t ≡ u → AnswersOf t o → AnswersOf u o
answers_as t u o e h = subst (λ v. AnswersOf v o) e h

pub answers_wider
    : (t u : TypeData) (o : Outcome Plain) → ((x : Plain) → HasType x t → HasType x u) → AnswersOf t o → AnswersOf u o
answers_wider t u (Ok x) wide h = wide x h
answers_wider t u (Err fault) wide h = h

-- ## Each member, and each pair of members

each_case
    : (answer : MemberData → Option TypeData) (m : MemberData) (ms : List MemberData) (t : TypeData)
    (o q : Option TypeData) → answer m ≡ o → at_each answer ms ≡ q
    → option_and_then (λ r. option_map (join r) q) o ≡ Some t
    → (r : TypeData) × (s : TypeData) × (answer m ≡ Some r) × (at_each answer ms ≡ Some s) × (t ≡ join r s)
each_case answer m ms t None q is rest e = absurd cc
each_case answer m ms t (Some r) None is rest e = absurd cc
each_case answer m ms t (Some r) (Some s) is rest e = let same : t ≡ join r s = cc in (r, s, is, rest, same)

-- what is answered at a member is of the union of what is answered at each
pub at_each_has
    : (answer : MemberData → Option TypeData) (ms : List MemberData) (t : TypeData) (m : MemberData)
    → at_each answer ms ≡ Some t → Among ms m
    → (r : TypeData) × (answer m ≡ Some r) × ((x : Plain) → HasType x r → HasType x t)
at_each_has answer [] t m e a = absurd a
at_each_has answer (n ∷ ms) t m e (inl is) =
    let c = each_case answer n ms t (answer n) (at_each answer ms) refl refl e in
    (c.0, ap answer (sym is) ∙ c.2, λ x h. subst (λ u. HasType x u) (sym c.4) (has_left x c.0 c.1 h))
at_each_has answer (n ∷ ms) t m e (inr a) =
    let c = each_case answer n ms t (answer n) (at_each answer ms) refl refl e in
    let r = at_each_has answer ms c.1 m c.3 a in
    (r.0, r.1, λ x h. subst (λ u. HasType x u) (sym c.4) (has_right x c.0 c.1 (r.2 x h)))

pub at_pairs_has
    : (answer : MemberData → MemberData → Option TypeData) (t u a : TypeData) (m n : MemberData)
    → at_pairs answer t u ≡ Some a → Among (members_of t) m → Among (members_of u) n
    → (r : TypeData) × (answer m n ≡ Some r) × ((x : Plain) → HasType x r → HasType x a)
at_pairs_has answer t u a m n e p q =
    let r = at_each_has (λ k. at_each (answer k) (members_of u)) (members_of t) a m e p in
    let s = at_each_has (answer m) (members_of u) r.0 n r.1 q in
    (s.0, s.1, λ x h. r.2 x (s.2 x h))

-- ## Sums

sum_number_number
    : (r : TypeData) (x y : Plain) → sum_of (Values kinds.Number) (Values kinds.Number) ≡ Some r
    → IsKind kinds.Number x → IsKind kinds.Number y → AnswersOf r (sums.sum_of x y)
unfolding sums.sum_of
sum_number_number r x y e h g =
    let same : number_type ≡ r = cc in
    subst (λ z. AnswersOf r (sums.sum_of z y)) (sym h.1)
    (subst (λ w. AnswersOf r (sums.sum_of (plain.Number h.0) w)) (sym g.1)
    (answers_as number_type r (integer_answer (h.0 +ℤ g.0)) same (number_answered (h.0 +ℤ g.0))))

sum_number_string
    : (r : TypeData) (x y : Plain) → sum_of (Values kinds.Number) (Values kinds.String) ≡ Some r
    → IsKind kinds.Number x → IsKind kinds.String y → AnswersOf r (sums.sum_of x y)
unfolding sums.sum_of
sum_number_string r x y e h g =
    let same : text_type ≡ r = cc in
    subst (λ z. AnswersOf r (sums.sum_of z y)) (sym h.1)
    (subst (λ w. AnswersOf r (sums.sum_of (plain.Number h.0) w)) (sym g.1)
    (answers_as text_type r (text_answer (signed_decimal h.0 ++ g.0)) same (text_answered (signed_decimal h.0 ++ g.0))))

sum_string_number
    : (r : TypeData) (x y : Plain) → sum_of (Values kinds.String) (Values kinds.Number) ≡ Some r
    → IsKind kinds.String x → IsKind kinds.Number y → AnswersOf r (sums.sum_of x y)
unfolding sums.sum_of
sum_string_number r x y e h g =
    let same : text_type ≡ r = cc in
    subst (λ z. AnswersOf r (sums.sum_of z y)) (sym h.1)
    (subst (λ w. AnswersOf r (sums.sum_of (plain.Text h.0) w)) (sym g.1)
    (answers_as text_type r (text_answer (h.0 ++ signed_decimal g.0)) same (text_answered (h.0 ++ signed_decimal g.0))))

sum_string_string
    : (r : TypeData) (x y : Plain) → sum_of (Values kinds.String) (Values kinds.String) ≡ Some r
    → IsKind kinds.String x → IsKind kinds.String y → AnswersOf r (sums.sum_of x y)
unfolding sums.sum_of
sum_string_string r x y e h g =
    let same : text_type ≡ r = cc in
    subst (λ z. AnswersOf r (sums.sum_of z y)) (sym h.1)
    (subst (λ w. AnswersOf r (sums.sum_of (plain.Text h.0) w)) (sym g.1)
    (answers_as text_type r (text_answer (h.0 ++ g.0)) same (text_answered (h.0 ++ g.0))))

sum_has
    : (m n : MemberData) (r : TypeData) (x y : Plain) → sum_of m n ≡ Some r → IsOf x m → IsOf y n
    → AnswersOf r (sums.sum_of x y)
sum_has (Values kinds.Undefined) n r x y e h g = absurd cc
sum_has (Values kinds.Boolean) n r x y e h g = absurd cc
sum_has (Values kinds.Number) (Values kinds.Undefined) r x y e h g = absurd cc
sum_has (Values kinds.Number) (Values kinds.Boolean) r x y e h g = absurd cc
sum_has (Values kinds.Number) (Values kinds.Number) r x y e h g = sum_number_number r x y e (kind_is x kinds.Number h) (kind_is y kinds.Number g)
sum_has (Values kinds.Number) (Values kinds.String) r x y e h g = sum_number_string r x y e (kind_is x kinds.Number h) (kind_is y kinds.String g)
sum_has (Values kinds.Number) (Values kinds.Path) r x y e h g = absurd cc
sum_has (Values kinds.Number) (Values kinds.File) r x y e h g = absurd cc
sum_has (Values kinds.Number) (Values kinds.Directory) r x y e h g = absurd cc
sum_has (Values kinds.Number) (Values kinds.RelativePath) r x y e h g = absurd cc
sum_has (Values kinds.Number) (Values kinds.PathAtom) r x y e h g = absurd cc
sum_has (Values kinds.Number) (Values kinds.Seal) r x y e h g = absurd cc
sum_has (Values kinds.Number) (Values kinds.Opaque) r x y e h g = absurd cc
sum_has (Values kinds.Number) (Values kinds.Process) r x y e h g = absurd cc
sum_has (Values kinds.Number) (Values kinds.Artifact) r x y e h g = absurd cc
sum_has (Values kinds.Number) (Values kinds.Argument) r x y e h g = absurd cc
sum_has (Values kinds.Number) (Lists t) r x y e h g = absurd cc
sum_has (Values kinds.Number) (Objects fs) r x y e h g = absurd cc
sum_has (Values kinds.String) (Values kinds.Undefined) r x y e h g = absurd cc
sum_has (Values kinds.String) (Values kinds.Boolean) r x y e h g = absurd cc
sum_has (Values kinds.String) (Values kinds.Number) r x y e h g = sum_string_number r x y e (kind_is x kinds.String h) (kind_is y kinds.Number g)
sum_has (Values kinds.String) (Values kinds.String) r x y e h g = sum_string_string r x y e (kind_is x kinds.String h) (kind_is y kinds.String g)
sum_has (Values kinds.String) (Values kinds.Path) r x y e h g = absurd cc
sum_has (Values kinds.String) (Values kinds.File) r x y e h g = absurd cc
sum_has (Values kinds.String) (Values kinds.Directory) r x y e h g = absurd cc
sum_has (Values kinds.String) (Values kinds.RelativePath) r x y e h g = absurd cc
sum_has (Values kinds.String) (Values kinds.PathAtom) r x y e h g = absurd cc
sum_has (Values kinds.String) (Values kinds.Seal) r x y e h g = absurd cc
sum_has (Values kinds.String) (Values kinds.Opaque) r x y e h g = absurd cc
sum_has (Values kinds.String) (Values kinds.Process) r x y e h g = absurd cc
sum_has (Values kinds.String) (Values kinds.Artifact) r x y e h g = absurd cc
sum_has (Values kinds.String) (Values kinds.Argument) r x y e h g = absurd cc
sum_has (Values kinds.String) (Lists t) r x y e h g = absurd cc
sum_has (Values kinds.String) (Objects fs) r x y e h g = absurd cc
sum_has (Values kinds.Path) n r x y e h g = absurd cc
sum_has (Values kinds.File) n r x y e h g = absurd cc
sum_has (Values kinds.Directory) n r x y e h g = absurd cc
sum_has (Values kinds.RelativePath) n r x y e h g = absurd cc
sum_has (Values kinds.PathAtom) n r x y e h g = absurd cc
sum_has (Values kinds.Seal) n r x y e h g = absurd cc
sum_has (Values kinds.Opaque) n r x y e h g = absurd cc
sum_has (Values kinds.Process) n r x y e h g = absurd cc
sum_has (Values kinds.Artifact) n r x y e h g = absurd cc
sum_has (Values kinds.Argument) n r x y e h g = absurd cc
sum_has (Lists t) n r x y e h g = absurd cc
sum_has (Objects fs) n r x y e h g = absurd cc

pub sums_have
    : (t u a : TypeData) (x y : Plain) → at_pairs sum_of t u ≡ Some a → HasType x t → HasType y u
    → AnswersOf a (sums.sum_of x y)
sums_have t u a x y e h g =
    let p = of_has x t h in
    let q = of_has y u g in
    let r = at_pairs_has sum_of t u a p.0 q.0 e p.1 q.1 in
    answers_wider r.0 a (sums.sum_of x y) r.2 (sum_has p.0 q.0 r.0 x y r.1 p.2 q.2)

-- ## Numbers

numbers_case
    : (answer t u a : TypeData) (p q : Bool) → fits t number_type ≡ p → fits u number_type ≡ q
    → cond (p && q) (Some answer) None ≡ Some a
    → (fits t number_type ≡ true) × (fits u number_type ≡ true) × (answer ≡ a)
numbers_case answer t u a true true is other e = let same : answer ≡ a = cc in (is, other, same)
numbers_case answer t u a true false is other e = absurd cc
numbers_case answer t u a false q is other e = absurd cc

-- two numbers, of which each type fits numbers
pub numbers_are
    : (answer t u a : TypeData) (x y : Plain) → of_numbers answer t u ≡ Some a → HasType x t → HasType y u
    → (n : ℤ) × (k : ℤ) × (x ≡ plain.Number n) × (y ≡ plain.Number k) × (answer ≡ a)
numbers_are answer t u a x y e h g =
    let b = numbers_case answer t u a (fits t number_type) (fits u number_type) refl refl e in
    let n = fits_kind x t kinds.Number b.0 h in
    let k = fits_kind y u kinds.Number b.1 g in
    (n.0, k.0, n.1, k.1, b.2)
