-- How the loops of the parser begin, go on and end.
use Prim.Native.String.{String as Letters}
use Rattle.std.proofs.Common.{◌≡◌, ℕ, zero, suc, ◌+◌, ◌-◌, ◌<◌, ◌≤◌, max, Bool, true, false, List, [], ◌∷◌, ◌++◌, length, map, Option, Some, None, refl, ap, sym, ◌∙◌, subst, arith, append_assoc}
use Rattle.std.proofs.lemmas.List.{map_push}
use Rattle.dscript_lex.specs.declared.token.TokenKind.{TokenKind}
use Rattle.dscript_grammar.specs.Reading.{Read, Reader, got, and_then, choose, pick, at_punctuator, take_punctuator, read_many, read_separated, read_list}
use Rattle.dscript_grammar.proofs.ExprComplete.{pick_false}
use Rattle.dscript_parse_tokens.specs.LoopInvariants.{with_items, ManyInvariant, SeparatedInvariant, ListInvariant}

pub append_nothing : {X : Type 0} (xs : List X) → xs ++ [] ≡ xs
append_nothing [] = refl
append_nothing (x ∷ xs) = ap (λ ys. x ∷ ys) (append_nothing xs)

pub length_push : {S : Type 0} (xs : List S) (x : S) → length (xs ++ x ∷ []) ≡ suc (length xs)
length_push [] x = refl
length_push (y ∷ ys) x = ap suc (length_push ys x)

max_zero : (n : ℕ) → max 0 n ≡ n
max_zero n = omega arith

max_end : (n : ℕ) → max n 0 ≡ n
max_end n = omega arith

max_assoc : (a b c : ℕ) → max a (max b c) ≡ max (max a b) c
max_assoc a b c = omega arith

pub items_none : {X : Type 0} (m : Option (Read (List X))) → with_items [] 0 m ≡ m
unfolding with_items and_then
items_none None = refl
items_none (Some r) = ap (λ n. got r.value n r.rest) (max_zero r.height)

pub items_got : {X : Type 0} (xs : List X) (h : ℕ) (rest : List TokenKind) → with_items xs h (got [] 0 rest) ≡ got xs h rest
unfolding with_items and_then
items_got xs h rest = ap (λ n. got (xs ++ []) n rest) (max_end h) ∙ ap (λ ys. got ys h rest) (append_nothing xs)

pub items_one : {X : Type 0} (xs : List X) (x : X) (h k : ℕ) (rest : List TokenKind) → with_items xs h (got (x ∷ []) k rest) ≡ got (xs ++ x ∷ []) (max h k) rest
unfolding with_items and_then
items_one xs x h k rest = refl

pub items_fails : {X : Type 0} (xs : List X) (h : ℕ) → with_items xs h None ≡ None
unfolding with_items and_then
items_fails xs h = refl

pub items_moves : {X : Type 0} (xs : List X) (x : X) (h k : ℕ) (m : Option (Read (List X)))
    → with_items (xs ++ x ∷ []) (max h k) m ≡ with_items xs h (and_then m (λ ys. got (x ∷ ys.value) (max k ys.height) ys.rest))
unfolding with_items and_then
items_moves xs x h k None = refl
items_moves xs x h k (Some r) =
    ap (λ ys. got ys (max (max h k) r.height) r.rest) (append_assoc xs (x ∷ []) r.value) ∙ ap (λ n. got (xs ++ x ∷ r.value) n r.rest) (sym (max_assoc h k r.height))

pub pick_true : {A : Type 0} {b : Bool} (x y : A) → b ≡ true → pick b x y ≡ x
unfolding pick
pick_true x y e = ap (λ c. pick c x y) e

pub then_some : {A B : Type 0} {m : Option A} {x : A} (f : A → Option B) → m ≡ Some x → and_then m f ≡ f x
unfolding and_then
then_some f e = ap (λ o. and_then o f) e

pub then_none : {A B : Type 0} {m : Option A} (f : A → Option B) → m ≡ None → and_then m f ≡ None
unfolding and_then
then_none f e = ap (λ o. and_then o f) e

pub choose_some : {A B : Type 0} {m : Option A} {x : A} (n : B) (f : A → B) → m ≡ Some x → choose m n f ≡ f x
unfolding choose
choose_some n f e = ap (λ o. choose o n f) e

pub choose_none : {A B : Type 0} {m : Option A} (n : B) (f : A → B) → m ≡ None → choose m n f ≡ n
unfolding choose
choose_none n f e = ap (λ o. choose o n f) e

module _ {S X : Type 0} (view : S → X) (one : Reader X) where
  shift : (k n : ℕ) → k ≤ n → (n - k) + k ≡ n
  shift k n l = omega arith

  -- as long as a test holds
  module _ (go : List TokenKind → Bool) where
    pub many_begins : (start : List TokenKind) → ManyInvariant view one go [] 0 start start
    many_begins start = record { resumes = λ n. items_none _ ∙ ap (λ k. read_many go one k start) (omega arith); count = omega arith }

    many_step : (n : ℕ) (x : Read X) (rest : List TokenKind) → go rest ≡ true → one rest ≡ Some x
        → read_many go one (suc n) rest ≡ and_then (read_many go one n x.rest) (λ ys. got (x.value ∷ ys.value) (max x.height ys.height) ys.rest)
    unfolding read_many
    many_step n x rest e is = pick_true _ _ e ∙ then_some _ is

    pub many_goes : (items : List S) (height : ℕ) (rest start : List TokenKind) (x : S) (k : ℕ) (next : List TokenKind)
        → ManyInvariant view one go items height rest start → go rest ≡ true → one rest ≡ Some (record { value = view x; height = k; rest = next }) → length next < length rest
        → ManyInvariant view one go (items ++ x ∷ []) (max height k) next start
    many_goes items height rest start x k next f e is shorter = record {
      resumes = λ n. ap (λ xs. with_items xs (max height k) (read_many go one n next)) (map_push view items x)
          ∙ items_moves (map view items) (view x) height k (read_many go one n next)
          ∙ ap (with_items (map view items) height) (sym (many_step n _ rest e is))
          ∙ f.resumes (suc n)
          ∙ ap (λ j. read_many go one j start) (omega (arith, length_push items x));
      count = omega (arith, f.count, length_push items x);
    }

    none_more : (n : ℕ) (rest : List TokenKind) → go rest ≡ false → read_many go one n rest ≡ got [] 0 rest
    unfolding read_many
    none_more zero rest e = refl
    none_more (suc n) rest e = pick_false _ _ e

    pub many_ends : (items : List S) (height : ℕ) (rest start : List TokenKind) → ManyInvariant view one go items height rest start → go rest ≡ false
        → read_many go one (suc (length start)) start ≡ got (map view items) height rest
    many_ends items height rest start f e =
        ap (λ n. read_many go one n start) (sym (shift (length items) (suc (length start)) (omega (arith, f.count))))
        ∙ sym (f.resumes (suc (length start) - length items)) ∙ ap (with_items (map view items) height) (none_more _ rest e) ∙ items_got (map view items) height rest

    many_stuck : (n : ℕ) (rest : List TokenKind) → go rest ≡ true → one rest ≡ None → read_many go one (suc n) rest ≡ None
    unfolding read_many
    many_stuck n rest e none = pick_true _ _ e ∙ then_none _ none

    pub many_fails : (items : List S) (height : ℕ) (rest start : List TokenKind) → ManyInvariant view one go items height rest start → go rest ≡ true → one rest ≡ None
        → read_many go one (suc (length start)) start ≡ None
    many_fails items height rest start f e none =
        let n : ℕ = length start - length items in
        ap (λ j. read_many go one j start) (omega (arith, f.count))
        ∙ sym (f.resumes (suc n)) ∙ ap (with_items (map view items) height) (many_stuck n rest e none) ∙ items_fails (map view items) height

  -- with a punctuator between any two
  module _ (sep : Letters) where
    pub separated_begins : (start : List TokenKind) → SeparatedInvariant view one sep [] 0 start start
    separated_begins start = record { resumes = λ n. items_none _ ∙ ap (λ k. read_separated sep one k start) (omega arith); count = omega arith }

    separated_step : (n : ℕ) (x : Read X) (rest after : List TokenKind) → one rest ≡ Some x → take_punctuator sep x.rest ≡ Some after
        → read_separated sep one (suc n) rest ≡ and_then (read_separated sep one n after) (λ ys. got (x.value ∷ ys.value) (max x.height ys.height) ys.rest)
    unfolding read_separated
    separated_step n x rest after is e = then_some _ is ∙ choose_some _ _ e

    pub separated_goes : (items : List S) (height : ℕ) (rest start : List TokenKind) (x : S) (k : ℕ) (next after : List TokenKind)
        → SeparatedInvariant view one sep items height rest start → one rest ≡ Some (record { value = view x; height = k; rest = next }) → take_punctuator sep next ≡ Some after
        → length next < length rest → length after < length next
        → SeparatedInvariant view one sep (items ++ x ∷ []) (max height k) after start
    separated_goes items height rest start x k next after f is e shorter shorter2 = record {
      resumes = λ n. ap (λ xs. with_items xs (max height k) (read_separated sep one n after)) (map_push view items x)
          ∙ items_moves (map view items) (view x) height k (read_separated sep one n after)
          ∙ ap (with_items (map view items) height) (sym (separated_step n _ rest after is e))
          ∙ f.resumes (suc n)
          ∙ ap (λ j. read_separated sep one j start) (omega (arith, length_push items x));
      count = omega (arith, f.count, length_push items x);
    }

    last_one : (n : ℕ) (x : Read X) (rest : List TokenKind) → one rest ≡ Some x → take_punctuator sep x.rest ≡ None → read_separated sep one n rest ≡ got (x.value ∷ []) x.height x.rest
    unfolding read_separated
    last_one zero x rest is e = then_some _ is
    last_one (suc n) x rest is e = then_some _ is ∙ choose_none _ _ e

    pub separated_ends : (items : List S) (height : ℕ) (rest start : List TokenKind) (x : S) (k : ℕ) (next : List TokenKind)
        → SeparatedInvariant view one sep items height rest start → one rest ≡ Some (record { value = view x; height = k; rest = next }) → take_punctuator sep next ≡ None
        → read_separated sep one (length start) start ≡ got (map view (items ++ x ∷ [])) (max height k) next
    separated_ends items height rest start x k next f is e =
        ap (λ n. read_separated sep one n start) (sym (shift (length items) (length start) (omega (arith, f.count))))
        ∙ sym (f.resumes (length start - length items)) ∙ ap (with_items (map view items) height) (last_one _ _ rest is e)
        ∙ items_one (map view items) (view x) height k next ∙ ap (λ xs. got xs (max height k) next) (sym (map_push view items x))

    one_stuck : (n : ℕ) (rest : List TokenKind) → one rest ≡ None → read_separated sep one n rest ≡ None
    unfolding read_separated
    one_stuck zero rest none = then_none _ none
    one_stuck (suc n) rest none = then_none _ none

    pub separated_fails : (items : List S) (height : ℕ) (rest start : List TokenKind) → SeparatedInvariant view one sep items height rest start → one rest ≡ None
        → read_separated sep one (length start) start ≡ None
    separated_fails items height rest start f none =
        ap (λ n. read_separated sep one n start) (sym (shift (length items) (length start) (omega (arith, f.count))))
        ∙ sym (f.resumes (length start - length items)) ∙ ap (with_items (map view items) height) (one_stuck _ rest none) ∙ items_fails (map view items) height

  -- with a `,` between any two and perhaps after the last, up to a closing punctuator
  module _ (close : Letters) where
    pub list_begins : (start : List TokenKind) → ListInvariant view one close [] 0 start start
    list_begins start = record { resumes = λ n. items_none _ ∙ ap (λ k. read_list close one k start) (omega arith); count = omega arith }

    list_step : (n : ℕ) (x : Read X) (rest after : List TokenKind) → at_punctuator close rest ≡ false → one rest ≡ Some x → take_punctuator "," x.rest ≡ Some after
        → read_list close one (suc n) rest ≡ and_then (read_list close one n after) (λ ys. got (x.value ∷ ys.value) (max x.height ys.height) ys.rest)
    unfolding read_list
    list_step n x rest after o is e = pick_false _ _ o ∙ then_some _ is ∙ choose_some _ _ e

    pub list_goes : (items : List S) (height : ℕ) (rest start : List TokenKind) (x : S) (k : ℕ) (next after : List TokenKind)
        → ListInvariant view one close items height rest start → at_punctuator close rest ≡ false → one rest ≡ Some (record { value = view x; height = k; rest = next }) → take_punctuator "," next ≡ Some after
        → length next < length rest → length after < length next
        → ListInvariant view one close (items ++ x ∷ []) (max height k) after start
    list_goes items height rest start x k next after f o is e shorter shorter2 = record {
      resumes = λ n. ap (λ xs. with_items xs (max height k) (read_list close one n after)) (map_push view items x)
          ∙ items_moves (map view items) (view x) height k (read_list close one n after)
          ∙ ap (with_items (map view items) height) (sym (list_step n _ rest after o is e))
          ∙ f.resumes (suc n)
          ∙ ap (λ j. read_list close one j start) (omega (arith, length_push items x));
      count = omega (arith, f.count, length_push items x);
    }

    list_closed : (n : ℕ) (rest : List TokenKind) → at_punctuator close rest ≡ true → read_list close one n rest ≡ got [] 0 rest
    unfolding read_list
    list_closed zero rest e = refl
    list_closed (suc n) rest e = pick_true _ _ e

    pub list_ends : (items : List S) (height : ℕ) (rest start : List TokenKind) → ListInvariant view one close items height rest start → at_punctuator close rest ≡ true
        → read_list close one (suc (length start)) start ≡ got (map view items) height rest
    list_ends items height rest start f e =
        ap (λ n. read_list close one n start) (sym (shift (length items) (suc (length start)) (omega (arith, f.count))))
        ∙ sym (f.resumes (suc (length start) - length items)) ∙ ap (with_items (map view items) height) (list_closed _ rest e) ∙ items_got (map view items) height rest

    list_last : (n : ℕ) (x : Read X) (rest : List TokenKind) → at_punctuator close rest ≡ false → one rest ≡ Some x → take_punctuator "," x.rest ≡ None → read_list close one (suc n) rest ≡ got (x.value ∷ []) x.height x.rest
    unfolding read_list
    list_last n x rest o is e = pick_false _ _ o ∙ then_some _ is ∙ choose_none _ _ e

    pub list_stops : (items : List S) (height : ℕ) (rest start : List TokenKind) (x : S) (k : ℕ) (next : List TokenKind)
        → ListInvariant view one close items height rest start → at_punctuator close rest ≡ false → one rest ≡ Some (record { value = view x; height = k; rest = next }) → take_punctuator "," next ≡ None
        → read_list close one (suc (length start)) start ≡ got (map view (items ++ x ∷ [])) (max height k) next
    list_stops items height rest start x k next f o is e =
        let n : ℕ = length start - length items in
        ap (λ j. read_list close one j start) (omega (arith, f.count))
        ∙ sym (f.resumes (suc n)) ∙ ap (with_items (map view items) height) (list_last n _ rest o is e)
        ∙ items_one (map view items) (view x) height k next ∙ ap (λ xs. got xs (max height k) next) (sym (map_push view items x))

    list_stuck : (n : ℕ) (rest : List TokenKind) → at_punctuator close rest ≡ false → one rest ≡ None → read_list close one (suc n) rest ≡ None
    unfolding read_list
    list_stuck n rest o none = pick_false _ _ o ∙ then_none _ none

    pub list_fails : (items : List S) (height : ℕ) (rest start : List TokenKind) → ListInvariant view one close items height rest start → at_punctuator close rest ≡ false → one rest ≡ None
        → read_list close one (suc (length start)) start ≡ None
    list_fails items height rest start f o none =
        let n : ℕ = length start - length items in
        ap (λ j. read_list close one j start) (omega (arith, f.count))
        ∙ sym (f.resumes (suc n)) ∙ ap (with_items (map view items) height) (list_stuck n rest o none) ∙ items_fails (map view items) height

-- The invariants of the loops with a push as a vector has it: what the vector holds after the push is given by an
-- equation.
module _ {S X : Type 0} (view : S → X) (one : Reader X) where
  module _ (go : List TokenKind → Bool) where
    pub many_init : {items : List S} {start : List TokenKind} → items ≡ [] → ManyInvariant view one go items 0 start start
    many_init {start = start} e = subst (λ (xs : List S). ManyInvariant view one go xs 0 start start) (sym e) (many_begins view one go start)

    pub many_next : (x : S) {items pushed : List S} {height k : ℕ} {rest start next : List TokenKind} → pushed ≡ items ++ x ∷ []
        → ManyInvariant view one go items height rest start → go rest ≡ true → one rest ≡ Some (record { value = view x; height = k; rest = next }) → length next < length rest
        → ManyInvariant view one go pushed (max height k) next start
    many_next x {items = items} {height = height} {k = k} {rest = rest} {start = start} {next = next} e f g is s =
        subst (λ (xs : List S). ManyInvariant view one go xs (max height k) next start) (sym e) (many_goes view one go items height rest start x k next f g is s)

    pub many_done : {items : List S} {height : ℕ} {rest start : List TokenKind} → ManyInvariant view one go items height rest start → go rest ≡ false
        → read_many go one (suc (length start)) start ≡ got (map view items) height rest
    many_done {items = items} f e = many_ends view one go items _ _ _ f e

    pub many_none : {items : List S} {height : ℕ} {rest start : List TokenKind} → ManyInvariant view one go items height rest start → go rest ≡ true → one rest ≡ None
        → read_many go one (suc (length start)) start ≡ None
    many_none {items = items} f e none = many_fails view one go items _ _ _ f e none

  module _ (sep : Letters) where
    pub separated_init : {items : List S} {start : List TokenKind} → items ≡ [] → SeparatedInvariant view one sep items 0 start start
    separated_init {start = start} e = subst (λ (xs : List S). SeparatedInvariant view one sep xs 0 start start) (sym e) (separated_begins view one sep start)

    pub separated_next : (x : S) {items pushed : List S} {height k : ℕ} {rest start next after : List TokenKind} → pushed ≡ items ++ x ∷ []
        → SeparatedInvariant view one sep items height rest start → one rest ≡ Some (record { value = view x; height = k; rest = next }) → take_punctuator sep next ≡ Some after
        → length next < length rest → length after < length next
        → SeparatedInvariant view one sep pushed (max height k) after start
    separated_next x {items = items} {height = height} {k = k} {rest = rest} {start = start} {next = next} {after = after} e f is t s u =
        subst (λ (xs : List S). SeparatedInvariant view one sep xs (max height k) after start) (sym e) (separated_goes view one sep items height rest start x k next after f is t s u)

    pub separated_done : (x : S) {items pushed : List S} {height k : ℕ} {rest start next : List TokenKind} → pushed ≡ items ++ x ∷ []
        → SeparatedInvariant view one sep items height rest start → one rest ≡ Some (record { value = view x; height = k; rest = next }) → take_punctuator sep next ≡ None
        → read_separated sep one (length start) start ≡ got (map view pushed) (max height k) next
    separated_done x {items = items} {height = height} {k = k} {next = next} e f is t =
        separated_ends view one sep items _ _ _ x _ _ f is t ∙ ap (λ xs. got (map view xs) (max height k) next) (sym e)

    pub separated_none : {items : List S} {height : ℕ} {rest start : List TokenKind} → SeparatedInvariant view one sep items height rest start → one rest ≡ None
        → read_separated sep one (length start) start ≡ None
    separated_none {items = items} f none = separated_fails view one sep items _ _ _ f none

  module _ (close : Letters) where
    pub list_init : {items : List S} {start : List TokenKind} → items ≡ [] → ListInvariant view one close items 0 start start
    list_init {start = start} e = subst (λ (xs : List S). ListInvariant view one close xs 0 start start) (sym e) (list_begins view one close start)

    pub list_next : (x : S) {items pushed : List S} {height k : ℕ} {rest start next after : List TokenKind} → pushed ≡ items ++ x ∷ []
        → ListInvariant view one close items height rest start → at_punctuator close rest ≡ false → one rest ≡ Some (record { value = view x; height = k; rest = next }) → take_punctuator "," next ≡ Some after
        → length next < length rest → length after < length next
        → ListInvariant view one close pushed (max height k) after start
    list_next x {items = items} {height = height} {k = k} {rest = rest} {start = start} {next = next} {after = after} e f o is t s u =
        subst (λ (xs : List S). ListInvariant view one close xs (max height k) after start) (sym e) (list_goes view one close items height rest start x k next after f o is t s u)

    pub list_done : {items : List S} {height : ℕ} {rest start : List TokenKind} → ListInvariant view one close items height rest start → at_punctuator close rest ≡ true
        → read_list close one (suc (length start)) start ≡ got (map view items) height rest
    list_done {items = items} f e = list_ends view one close items _ _ _ f e

    pub list_stopped : (x : S) {items pushed : List S} {height k : ℕ} {rest start next : List TokenKind} → pushed ≡ items ++ x ∷ []
        → ListInvariant view one close items height rest start → at_punctuator close rest ≡ false → one rest ≡ Some (record { value = view x; height = k; rest = next }) → take_punctuator "," next ≡ None
        → read_list close one (suc (length start)) start ≡ got (map view pushed) (max height k) next
    list_stopped x {items = items} {height = height} {k = k} {next = next} e f o is t =
        list_stops view one close items _ _ _ x _ _ f o is t ∙ ap (λ xs. got (map view xs) (max height k) next) (sym e)

    pub list_none : {items : List S} {height : ℕ} {rest start : List TokenKind} → ListInvariant view one close items height rest start → at_punctuator close rest ≡ false → one rest ≡ None
        → read_list close one (suc (length start)) start ≡ None
    list_none {items = items} f o none = list_fails view one close items _ _ _ f o none
