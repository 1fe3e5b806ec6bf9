-- The own locals of a body: those of its list, and those that are kept for places beyond it.
use Rattle.std.proofs.Common.{◌≡◌, ℕ, zero, suc, ◌+◌, ◌-◌, ◌<◌, ◌≤◌, cond, List, [], ◌∷◌, ◌++◌, append_assoc}
use Rattle.std.proofs.Common.{length, map, take, slice_get, slice_set, unwrap_or, option_map, Some, None, BTreeMap, nat_cmp}
use Rattle.std.proofs.Common.{refl, ap, sym, ◌∙◌, arith, add-one, eq-eqb, ne_eqb, eq-or-lt_of_le, ⊎_elim}
use Rattle.std.proofs.lemmas.List.{length-map, length_push, map-append, set_at, set_past, set-append_left, set-append_right}
use Rattle.std.specs.BTreeMap.{get, is_at}
use Rattle.std.specs.Map.{lookup}
use Rattle.dscript_value.specs.Plain.{Plain, Undefined, plain_of}
use Rattle.dscript_value.specs.declared.value.Value.{Value}
use Rattle.dscript_eval_meaning.specs.Frames.{filled}
use Rattle.dscript_eval_frames.specs.Own.{far_values, kept_at, own_values}
use Rattle.dscript_eval_frames.proofs.Placings.{kept_by}

-- ## What is found in a place

get_left : (xs ys : List Plain) (i : ℕ) → i < length xs → slice_get (xs ++ ys) i ≡ slice_get xs i
get_left [] ys i less = absurd (omega (arith, less))
get_left (x ∷ xs) ys zero less = refl
get_left (x ∷ xs) ys (suc i) less = get_left xs ys i (omega (arith, less))

get_right : (xs ys : List Plain) (i : ℕ) → length xs ≤ i → slice_get (xs ++ ys) i ≡ slice_get ys (i - length xs)
get_right [] ys i le = let same : i ≡ i - 0 = omega arith in ap (λ n. slice_get ys n) same
get_right (x ∷ xs) ys zero le = absurd (omega (arith, le))
get_right (x ∷ xs) ys (suc i) le =
    let same : i - length xs ≡ suc i - suc (length xs) = omega arith in
    get_right xs ys i (omega (arith, le)) ∙ ap (λ n. slice_get ys n) same

far_at
    : (far : BTreeMap ℕ Value) (p n k : ℕ) → k < n → slice_get (far_values far p n) k ≡ Some (kept_at far (p + k))
far_at far p zero k less = absurd (omega (arith, less))
far_at far p (suc n) zero less = let same : p ≡ p + 0 = omega arith in ap (λ q. Some (kept_at far q)) same
far_at far p (suc n) (suc k) less =
    let same : suc p + k ≡ p + suc k = omega arith in
    far_at far (suc p) n k (omega (arith, less)) ∙ ap (λ q. Some (kept_at far q)) same

far_past : (far : BTreeMap ℕ Value) (p n k : ℕ) → n ≤ k → slice_get (far_values far p n) k ≡ None
far_past far p zero k le = refl
far_past far p (suc n) zero le = absurd (omega (arith, le))
far_past far p (suc n) (suc k) le = far_past far (suc p) n k (omega (arith, le))

-- a place of the list
pub listed_value
    : (own : List Value) (far : BTreeMap ℕ Value) (count place : ℕ) → place < length own
    → slice_get (own_values own far count) place ≡ slice_get (map plain_of own) place
listed_value own far count place less =
    get_left (map plain_of own) (far_values far (length own) (count - length own)) place
    (omega (arith, less, length-map own plain_of))

-- a place beyond it
pub far_value
    : (own : List Value) (far : BTreeMap ℕ Value) (count place : ℕ) → length own ≤ place → place < count
    → slice_get (own_values own far count) place ≡ Some (kept_at far place)
far_value own far count place le less =
    let same : length own + (place - length (map plain_of own)) ≡ place = omega (arith, le, length-map own plain_of) in
    get_right (map plain_of own) (far_values far (length own) (count - length own)) place
    (omega (arith, le, length-map own plain_of))
    ∙ far_at far (length own) (count - length own) (place - length (map plain_of own))
    (omega (arith, le, less, length-map own plain_of))
    ∙ ap (λ q. Some (kept_at far q)) same

-- no place of the body
pub no_local
    : (own : List Value) (far : BTreeMap ℕ Value) (count place : ℕ) → length own ≤ place → count ≤ place
    → slice_get (own_values own far count) place ≡ None
no_local own far count place le past =
    get_right (map plain_of own) (far_values far (length own) (count - length own)) place
    (omega (arith, le, length-map own plain_of))
    ∙ far_past far (length own) (count - length own) (place - length (map plain_of own))
    (omega (arith, le, past, length-map own plain_of))

some_within : (xs : List Plain) (k : ℕ) (x : Plain) → slice_get xs k ≡ Some x → k < length xs
some_within [] k x there = cc
some_within (y ∷ ys) zero x there = omega arith
some_within (y ∷ ys) (suc k) x there = let less = some_within ys k x there in omega (arith, less)

-- the values of the list are own locals
pub own_first
    : (own : List Value) (far : BTreeMap ℕ Value) (count k : ℕ) (x : Plain)
    → slice_get (map plain_of own) k ≡ Some x → slice_get (own_values own far count) k ≡ Some x
own_first own far count k x there =
    get_left (map plain_of own) (far_values far (length own) (count - length own)) k
    (some_within (map plain_of own) k x there)
    ∙ there

-- ## Values that are put

-- equal entries give equal values
same_far
    : (far now : BTreeMap ℕ Value) → now.entries ≡ far.entries → (p n : ℕ) → far_values now p n ≡ far_values far p n
same_far far now is p zero = refl
same_far far now is p (suc n) =
    ap (λ es. unwrap_or (option_map plain_of (lookup (is_at (nat_cmp p)) es)) Undefined ∷ far_values now (suc p) n) is
    ∙ ap (λ l. kept_at far p ∷ l) (same_far far now is (suc p) n)

pub own_same
    : (own : List Value) (far now : BTreeMap ℕ Value) (count : ℕ) → now.entries ≡ far.entries
    → own_values own now count ≡ own_values own far count
own_same own far now count is =
    ap (λ l. map plain_of own ++ l) (same_far far now is (length own) (count - length own))

-- after the change the place has this value, and the others have those from before
abbrev pub Keeps : BTreeMap ℕ Value → BTreeMap ℕ Value → ℕ → Value → Type 0
Keeps far now place x = (q : ℕ) → get nat_cmp now q ≡ cond (is_at (nat_cmp place) q) (Some x) (get nat_cmp far q)

keeps_here
    : (far now : BTreeMap ℕ Value) (place : ℕ) (x : Value) → Keeps far now place x → kept_at now place ≡ plain_of x
keeps_here far now place x kept =
    ap (λ o. unwrap_or (option_map plain_of o) Undefined)
    (kept place
    ∙ ap (λ b. cond b (Some x) (get nat_cmp far place)) (kept_by place place ∙ eq-eqb place place refl))

keeps_other
    : (far now : BTreeMap ℕ Value) (place : ℕ) (x : Value) → Keeps far now place x
    → (q : ℕ) → (place ≡ q → ⊥) → kept_at now q ≡ kept_at far q
keeps_other far now place x kept q other =
    ap (λ o. unwrap_or (option_map plain_of o) Undefined)
    (kept q ∙ ap (λ b. cond b (Some x) (get nat_cmp far q)) (kept_by place q ∙ ne_eqb place q other))

far_before
    : (far now : BTreeMap ℕ Value) (place : ℕ) (x : Value) → Keeps far now place x
    → (p n : ℕ) → place < p → far_values now p n ≡ far_values far p n
far_before far now place x kept p zero less = refl
far_before far now place x kept p (suc n) less =
    ap (λ y. y ∷ far_values now (suc p) n) (keeps_other far now place x kept p (λ same. omega (arith, less, same)))
    ∙ ap (λ l. kept_at far p ∷ l) (far_before far now place x kept (suc p) n (omega (arith, less)))

put_here
    : (far now : BTreeMap ℕ Value) (place : ℕ) (x : Value) → Keeps far now place x → (p n : ℕ) → p ≡ place
    → far_values now p (suc n) ≡ slice_set (far_values far p (suc n)) (place - p) (plain_of x)
put_here far now place x kept p n same =
    let none : 0 ≡ place - p = omega (arith, same) in
    ap (λ q. kept_at now q ∷ far_values now (suc p) n) same
    ∙ ap (λ y. y ∷ far_values now (suc p) n) (keeps_here far now place x kept)
    ∙ ap (λ l. plain_of x ∷ l) (far_before far now place x kept (suc p) n (omega (arith, same)))
    ∙ ap (λ k. slice_set (far_values far p (suc n)) k (plain_of x)) none

put_further
    : (far now : BTreeMap ℕ Value) (place : ℕ) (x : Value) → Keeps far now place x → (p n : ℕ) → p < place
    → far_values now (suc p) n ≡ slice_set (far_values far (suc p) n) (place - suc p) (plain_of x)
    → far_values now p (suc n) ≡ slice_set (far_values far p (suc n)) (place - p) (plain_of x)
put_further far now place x kept p n less rest =
    let more : suc (place - suc p) ≡ place - p = omega (arith, less) in
    ap (λ y. y ∷ far_values now (suc p) n) (keeps_other far now place x kept p (λ same. omega (arith, less, same)))
    ∙ ap (λ l. kept_at far p ∷ l) rest
    ∙ ap (λ k. slice_set (far_values far p (suc n)) k (plain_of x)) more

far_put
    : (far now : BTreeMap ℕ Value) (place : ℕ) (x : Value) → Keeps far now place x
    → (p n : ℕ) → p ≤ place → far_values now p n ≡ slice_set (far_values far p n) (place - p) (plain_of x)
far_put far now place x kept p zero le = refl
far_put far now place x kept p (suc n) le =
    ⊎_elim
    (λ same. put_here far now place x kept p n same)
    (λ less. put_further far now place x kept p n less (far_put far now place x kept (suc p) n less))
    (eq-or-lt_of_le le)

-- a value is kept for a place beyond the list
pub own_far
    : (own : List Value) (far now : BTreeMap ℕ Value) (count place : ℕ) (x : Value) → Keeps far now place x
    → length own ≤ place → own_values own now count ≡ slice_set (own_values own far count) place (plain_of x)
own_far own far now count place x kept le =
    ap (λ l. map plain_of own ++ l) (far_put far now place x kept (length own) (count - length own) le)
    ∙ sym (set-append_right (map plain_of own) (far_values far (length own) (count - length own)) (length own) place
    (plain_of x) (length-map own plain_of) le)

-- ## The next place

next_pushed
    : (own : List Value) (far : BTreeMap ℕ Value) (x : Value) (count : ℕ)
    → own_values (own ++ x ∷ []) far count
    ≡ map plain_of own ++ plain_of x ∷ far_values far (suc (length own)) (count - suc (length own))
next_pushed own far x count =
    let more : length (own ++ x ∷ []) ≡ suc (length own) = length_push own x ∙ add-one (length own) in
    ap (λ n. map plain_of (own ++ x ∷ []) ++ far_values far n (count - n)) more
    ∙ ap (λ l. l ++ far_values far (suc (length own)) (count - suc (length own))) (map-append plain_of own (x ∷ []))
    ∙ append_assoc (map plain_of own) (plain_of x ∷ []) (far_values far (suc (length own)) (count - suc (length own)))

next_kept
    : (own : List Value) (far : BTreeMap ℕ Value) (count : ℕ) → length own < count
    → own_values own far count
    ≡ map plain_of own ++ kept_at far (length own) ∷ far_values far (suc (length own)) (count - suc (length own))
next_kept own far count less =
    let more : count - length own ≡ suc (count - suc (length own)) = omega (arith, less) in
    ap (λ n. map plain_of own ++ far_values far (length own) n) more

-- the value that is kept for the next place is put into the list
pub own_filled
    : (own now : List Value) (far : BTreeMap ℕ Value) (x : Value) (count : ℕ) → now ≡ own ++ x ∷ []
    → plain_of x ≡ kept_at far (length own) → length own < count
    → own_values now far count ≡ own_values own far count
own_filled own now far x count is same less =
    ap (λ l. own_values l far count) is
    ∙ next_pushed own far x count
    ∙ ap (λ y. map plain_of own ++ y ∷ far_values far (suc (length own)) (count - suc (length own))) same
    ∙ sym (next_kept own far count less)

-- another value is put into the list in the next place
pub own_pushed
    : (own now : List Value) (far : BTreeMap ℕ Value) (x : Value) (count : ℕ) → now ≡ own ++ x ∷ []
    → length own < count
    → own_values now far count ≡ slice_set (own_values own far count) (length own) (plain_of x)
own_pushed own now far x count is less =
    let rest = far_values far (suc (length own)) (count - suc (length own)) in
    ap (λ l. own_values l far count) is
    ∙ next_pushed own far x count
    ∙ sym (set_at (map plain_of own) (kept_at far (length own)) rest (plain_of x) (length own) (length-map own plain_of))
    ∙ ap (λ l. slice_set l (length own) (plain_of x)) (sym (next_kept own far count less))

-- a value is put into a place of the list
pub own_put
    : (own now : List Value) (far : BTreeMap ℕ Value) (count place : ℕ) (x : Plain) → place < length own
    → length now ≡ length own → map plain_of now ≡ slice_set (map plain_of own) place x
    → own_values now far count ≡ slice_set (own_values own far count) place x
own_put own now far count place x less same put =
    ap (λ n. map plain_of now ++ far_values far n (count - n)) same
    ∙ ap (λ l. l ++ far_values far (length own) (count - length own)) put
    ∙ sym (set-append_left (map plain_of own) (far_values far (length own) (count - length own)) place x
    (omega (arith, less, length-map own plain_of)))

count_far : (far : BTreeMap ℕ Value) (p n : ℕ) → length (far_values far p n) ≡ n
count_far far p zero = refl
count_far far p (suc n) = ap suc (count_far far (suc p) n)

-- there is no such place
pub own_past
    : (own : List Value) (far : BTreeMap ℕ Value) (count place : ℕ) (x : Plain) → length own ≤ place → count ≤ place
    → own_values own far count ≡ slice_set (own_values own far count) place x
own_past own far count place x le past =
    let rest = far_values far (length own) (count - length own) in
    ap (λ l. map plain_of own ++ l)
    (sym (set_past rest (place - length own) x (omega (arith, le, past, count_far far (length own) (count - length own)))))
    ∙ sym (set-append_right (map plain_of own) rest (length own) place x (length-map own plain_of) le)

-- ## How a body begins

none_far : (far : BTreeMap ℕ Value) → far.entries ≡ [] → (p n : ℕ) → far_values far p n ≡ filled n []
none_far far none p zero = refl
none_far far none p (suc n) =
    ap (λ es. unwrap_or (option_map plain_of (lookup (is_at (nat_cmp p)) es)) Undefined ∷ far_values far (suc p) n) none
    ∙ ap (λ l. Undefined ∷ l) (none_far far none (suc p) n)

filled_rest : (n : ℕ) (xs : List Plain) → take n xs ++ filled (n - length (take n xs)) [] ≡ filled n xs
filled_rest zero xs = refl
filled_rest (suc n) [] = let all : suc n - 0 ≡ suc n = omega arith in ap (λ k. filled k []) all
filled_rest (suc n) (x ∷ xs) =
    let same : suc n - suc (length (take n xs)) ≡ n - length (take n xs) = omega arith in
    ap (λ k. x ∷ (take n xs ++ filled k [])) same ∙ ap (λ l. x ∷ l) (filled_rest n xs)

-- the first values of a body are its arguments
pub own_begun
    : (own : List Value) (far : BTreeMap ℕ Value) (count : ℕ) (xs : List Plain) → far.entries ≡ []
    → map plain_of own ≡ take count xs → own_values own far count ≡ filled count xs
own_begun own far count xs none is =
    let same : length own ≡ length (take count xs) = sym (length-map own plain_of) ∙ ap length is in
    ap (λ l. l ++ far_values far (length own) (count - length own)) is
    ∙ ap (λ l. take count xs ++ l) (none_far far none (length own) (count - length own))
    ∙ ap (λ n. take count xs ++ filled (count - n) []) same
    ∙ filled_rest count xs
