-- Comments and punctuators are scanned exactly: the longest at the start of a text, if there is one.
use Rattle.std.proofs.Common.{◌≡◌, ℕ, zero, suc, ◌+◌, ◌≤◌, Bool, true, false, cond, not, ◌&&◌, ◌||◌, eqb, List, [], ◌∷◌, ◌++◌, length, take, Option, Some, None, refl, sym, ap, ◌∙◌, subst, arith, ⊎_elim}
use Rattle.std.specs.List.{prefix_len, list_all}
use Rattle.std.proofs.lemmas.Bool.{cond-true, cond-false, and_parts, and_from, or_cases, or_left, or_right, both_ways, eqb-true, and_right}
use Rattle.std.proofs.lemmas.List.Sums.{prefix_len-le-length}
use Rattle.dscript_lex.specs.Punctuators.{is_punctuator}
use Rattle.dscript_lex.specs.Lexemes.{is_comment, closes_at_end}
use Rattle.dscript_lex.specs.Scanning.{close_len, option_more, comment_len, one_len, two_len, punctuator_len}
use Rattle.dscript_lex.proofs.PrefixLength.{prefix_passes, prefix_covers}

found_step : (t here later : Bool) (x : Option ℕ) (n m : ℕ) → cond t here later ≡ true → (here ≡ true → n ≡ 2) → (later ≡ true → x ≡ Some m) → 1 + m ≡ n → cond t (Some 2) (option_more 1 x) ≡ Some n
found_step true here later x n m closes at_once later_on more = ap Some (sym (at_once closes))
found_step false here later x n m closes at_once later_on more = ap (option_more 1) (later_on closes) ∙ ap Some more

-- what ends at its first `*/` is found so, whatever follows
pub closing_complete : (t rest : List ℕ) → closes_at_end t ≡ true → close_len (t ++ rest) ≡ Some (length t)
unfolding close_len
closing_complete [] rest closes = cc
closing_complete (a ∷ []) rest closes = cc
closing_complete (a ∷ b ∷ []) rest closes = found_step (eqb a 0x2a && eqb b 0x2f) true false (close_len (b ∷ rest)) 2 1 closes (λ _. refl) (λ e. cc) refl
closing_complete (a ∷ b ∷ c ∷ bs) rest closes = found_step (eqb a 0x2a && eqb b 0x2f) false (closes_at_end (b ∷ c ∷ bs)) (close_len (b ∷ c ∷ (bs ++ rest))) (suc (suc (suc (length bs)))) (suc (suc (length bs))) closes (λ e. cc) (λ e. closing_complete (b ∷ c ∷ bs) rest e) (omega arith)

pub record Closed (s : List ℕ) (n : ℕ) : Type 0 where
  pub in_range : n ≤ length s
  pub two : 2 ≤ n
  pub is : closes_at_end (take n s) ≡ true

longer : (a b : ℕ) (bs : List ℕ) (m k : ℕ) → (eqb a 0x2a && eqb b 0x2f) ≡ false → Closed (b ∷ bs) m → m ≡ suc k → Closed (a ∷ b ∷ bs) (1 + m)
longer a b bs m k fails closed e = record {
  in_range = omega (arith, closed.in_range);
  two = omega (arith, closed.two);
  is =
      ap closes_at_end (ap (λ n. take n (a ∷ b ∷ bs)) (let f : 1 + m ≡ suc (suc k) = omega arith in f))
      ∙ cond-false (eqb a 0x2a && eqb b 0x2f) _ (closes_at_end (b ∷ take k bs)) fails
      ∙ ap (λ n. closes_at_end (take n (b ∷ bs))) (sym e) ∙ closed.is;
}

shift : (a b : ℕ) (bs : List ℕ) (m : ℕ) → (eqb a 0x2a && eqb b 0x2f) ≡ false → Closed (b ∷ bs) m → Closed (a ∷ b ∷ bs) (1 + m)
shift a b bs zero fails closed = absurd (omega (arith, closed.two))
shift a b bs (suc k) fails closed = longer a b bs (suc k) k fails closed refl

closed_step : (a b : ℕ) (bs : List ℕ) (t : Bool) → (eqb a 0x2a && eqb b 0x2f) ≡ t → (x : Option ℕ) → ((m : ℕ) → x ≡ Some m → Closed (b ∷ bs) m) → (n : ℕ) → cond t (Some 2) (option_more 1 x) ≡ Some n → Closed (a ∷ b ∷ bs) n
closed_step a b bs true passes x later_on n is =
    let e : 2 ≡ n = cc in
    subst (Closed (a ∷ b ∷ bs)) e (record { in_range = omega arith; two = omega arith; is = cond-true (eqb a 0x2a && eqb b 0x2f) true _ passes })
closed_step a b bs false fails None later_on n is = cc
closed_step a b bs false fails (Some m) later_on n is =
    let e : 1 + m ≡ n = cc in
    subst (Closed (a ∷ b ∷ bs)) e (shift a b bs m fails (later_on m refl))

pub closing_sound : (s : List ℕ) (n : ℕ) → close_len s ≡ Some n → Closed s n
unfolding close_len
closing_sound [] n is = cc
closing_sound (a ∷ []) n is = cc
closing_sound (a ∷ b ∷ bs) n is = closed_step a b bs (eqb a 0x2a && eqb b 0x2f) refl (close_len (b ∷ bs)) (closing_sound (b ∷ bs)) n is

-- a comment is found, or a longer one
abbrev is_line : List ℕ → Bool
is_line bs = list_all (λ c. not (eqb c 0x0a)) bs

abbrev line_of : List ℕ → ℕ
line_of bs = prefix_len (λ c. not (eqb c 0x0a)) bs

abbrev Found : List ℕ → ℕ → Type 0
Found s n = (m : ℕ) × ((comment_len s ≡ Some m) × (n ≤ m))

pub comment_complete : (t rest : List ℕ) → is_comment t ≡ true → Found (t ++ rest) (length t)
comment_complete [] rest is = absurd (both_ways false refl is)
comment_complete (a ∷ []) rest is = absurd (both_ways false refl is)
comment_complete (a ∷ b ∷ bs) rest is =
    let parts = and_parts (eqb a 0x2f) ((eqb b 0x2f && is_line bs) || (eqb b 0x2a && closes_at_end bs)) is in
    ⊎_elim
    (λ line.
    let here = and_parts (eqb b 0x2f) (is_line bs) line in
    let covers = prefix_covers (λ c. not (eqb c 0x0a)) bs rest here.1 in
    (2 + line_of (bs ++ rest), (cond-true (eqb a 0x2f && eqb b 0x2f) _ _ (and_from _ _ parts.0 here.0), omega arith)))
    (λ block.
    let here = and_parts (eqb b 0x2a) (closes_at_end bs) block in
    let no_line : eqb b 0x2f ≡ false = ap (λ x. eqb x 0x2f) (eqb-true b 0x2a here.0) in (
      2 + length bs,
      (
        cond-false (eqb a 0x2f && eqb b 0x2f) _ _ (and_right _ _ no_line)
            ∙ cond-true (eqb a 0x2f && eqb b 0x2a) _ _ (and_from _ _ parts.0 here.0)
            ∙ ap (option_more 2) (closing_complete bs rest here.1),
        omega arith,
      ),
    ))
    (or_cases _ _ parts.1)

-- what was found is a comment, and begins with a slash
pub record Commented (a : ℕ) (r : List ℕ) (n : ℕ) : Type 0 where
  pub in_range : n ≤ suc (length r)
  pub two : 2 ≤ n
  pub slash : eqb a 0x2f ≡ true
  pub is : is_comment (take n (a ∷ r)) ≡ true

pub two_more : (n a b : ℕ) (xs : List ℕ) → take (2 + n) (a ∷ b ∷ xs) ≡ a ∷ b ∷ take n xs
two_more n a b xs = let e : 2 + n ≡ suc (suc n) = omega arith in ap (λ k. take k (a ∷ b ∷ xs)) e

line_taken : (a b : ℕ) (bs : List ℕ) → (eqb a 0x2f && eqb b 0x2f) ≡ true → Commented a (b ∷ bs) (2 + line_of bs)
line_taken a b bs passes =
    let parts = and_parts _ _ passes in
    let within = prefix_len-le-length (λ c. not (eqb c 0x0a)) bs in
    record {
      in_range = omega arith;
      two = omega arith;
      slash = parts.0;
      is = ap is_comment (two_more (line_of bs) a b bs) ∙ and_from _ _ parts.0 (or_left _ _ (and_from _ _ parts.1 (prefix_passes (λ c. not (eqb c 0x0a)) bs)));
    }

block_taken : (a b : ℕ) (bs : List ℕ) (m : ℕ) → (eqb a 0x2f && eqb b 0x2a) ≡ true → Closed bs m → Commented a (b ∷ bs) (2 + m)
block_taken a b bs m passes closed =
    let parts = and_parts _ _ passes in
    record {
      in_range = omega (arith, closed.in_range);
      two = omega arith;
      slash = parts.0;
      is = ap is_comment (two_more m a b bs) ∙ and_from _ _ parts.0 (or_right _ _ (and_from _ _ parts.1 closed.is));
    }

block_step : (a b : ℕ) (bs : List ℕ) (u : Bool) → (eqb a 0x2f && eqb b 0x2a) ≡ u → (x : Option ℕ) → ((m : ℕ) → x ≡ Some m → Closed bs m) → (n : ℕ) → cond u (option_more 2 x) None ≡ Some n → Commented a (b ∷ bs) n
block_step a b bs true passes None closed n is = cc
block_step a b bs true passes (Some m) closed n is = let e : 2 + m ≡ n = cc in subst (Commented a (b ∷ bs)) e (block_taken a b bs m passes (closed m refl))
block_step a b bs false fails x closed n is = cc

comment_step : (a b : ℕ) (bs : List ℕ) (t : Bool) → (eqb a 0x2f && eqb b 0x2f) ≡ t → (n : ℕ) → cond t (Some (2 + line_of bs)) (cond (eqb a 0x2f && eqb b 0x2a) (option_more 2 (close_len bs)) None) ≡ Some n → Commented a (b ∷ bs) n
comment_step a b bs true passes n is = let e : 2 + line_of bs ≡ n = cc in subst (Commented a (b ∷ bs)) e (line_taken a b bs passes)
comment_step a b bs false fails n is = block_step a b bs (eqb a 0x2f && eqb b 0x2a) refl (close_len bs) (closing_sound bs) n is

pub comment_sound : (a : ℕ) (r : List ℕ) (n : ℕ) → comment_len (a ∷ r) ≡ Some n → Commented a r n
comment_sound a [] n is = cc
comment_sound a (b ∷ bs) n is = comment_step a b bs (eqb a 0x2f && eqb b 0x2f) refl n is

-- no punctuator is empty, has four bytes, or goes on after a slash
pub empty_is_no_punctuator : is_punctuator [] ≡ false
unfolding is_punctuator
empty_is_no_punctuator = refl

pub long_is_no_punctuator : (a b c d : ℕ) (r : List ℕ) → is_punctuator (a ∷ b ∷ c ∷ d ∷ r) ≡ false
unfolding is_punctuator
long_is_no_punctuator a b c d r = refl

slash_alone : (b : ℕ) (r : List ℕ) → is_punctuator (0x2f ∷ b ∷ r) ≡ false
unfolding is_punctuator
slash_alone b [] = refl
slash_alone b (c ∷ []) = refl
slash_alone b (c ∷ d ∷ r) = refl

pub one_slash : (a : ℕ) (t : List ℕ) → eqb a 0x2f ≡ true → is_punctuator (a ∷ t) ≡ true → t ≡ []
one_slash a [] slash punctuator = refl
one_slash a (b ∷ r) slash punctuator = absurd (both_ways (is_punctuator (a ∷ b ∷ r)) (ap (λ x. is_punctuator (x ∷ b ∷ r)) (eqb-true a 0x2f slash) ∙ slash_alone b r) punctuator)

-- completeness: a punctuator is found, or a longer one
at_least : (t : Bool) (x y n : ℕ) → n ≤ x → n ≤ y → n ≤ cond t x y
at_least true x y n a b = a
at_least false x y n a b = b

one_found : (a : ℕ) → is_punctuator (a ∷ []) ≡ true → 1 ≤ one_len a
one_found a punctuator = subst (λ n. 1 ≤ n) (sym (cond-true (is_punctuator (a ∷ [])) 1 0 punctuator)) (omega arith)

two_found : (a b : ℕ) → is_punctuator (a ∷ b ∷ []) ≡ true → 2 ≤ two_len a b
two_found a b punctuator = subst (λ n. 2 ≤ n) (sym (cond-true (is_punctuator (a ∷ b ∷ [])) 2 (one_len a) punctuator)) (omega arith)

three_found : (a b c : ℕ) → is_punctuator (a ∷ b ∷ c ∷ []) ≡ true → 3 ≤ cond (is_punctuator (a ∷ b ∷ c ∷ [])) 3 (two_len a b)
three_found a b c punctuator = subst (λ n. 3 ≤ n) (sym (cond-true (is_punctuator (a ∷ b ∷ c ∷ [])) 3 (two_len a b) punctuator)) (omega arith)

pub punctuator_complete : (t rest : List ℕ) → is_punctuator t ≡ true → length t ≤ punctuator_len (t ++ rest)
unfolding punctuator_len
punctuator_complete [] rest punctuator = omega arith
punctuator_complete (a ∷ []) [] punctuator = one_found a punctuator
punctuator_complete (a ∷ []) (b ∷ []) punctuator = at_least (is_punctuator (a ∷ b ∷ [])) 2 (one_len a) 1 (omega arith) (one_found a punctuator)
punctuator_complete (a ∷ []) (b ∷ c ∷ r) punctuator = at_least (is_punctuator (a ∷ b ∷ c ∷ [])) 3 (two_len a b) 1 (omega arith) (at_least (is_punctuator (a ∷ b ∷ [])) 2 (one_len a) 1 (omega arith) (one_found a punctuator))
punctuator_complete (a ∷ b ∷ []) [] punctuator = two_found a b punctuator
punctuator_complete (a ∷ b ∷ []) (c ∷ r) punctuator = at_least (is_punctuator (a ∷ b ∷ c ∷ [])) 3 (two_len a b) 2 (omega arith) (two_found a b punctuator)
punctuator_complete (a ∷ b ∷ c ∷ []) rest punctuator = three_found a b c punctuator
punctuator_complete (a ∷ b ∷ c ∷ d ∷ r) rest punctuator = absurd (both_ways _ (long_is_no_punctuator a b c d r) punctuator)

-- soundness: what was found is a punctuator
pub record PunctuatorOf (s : List ℕ) (m : ℕ) : Type 0 where
  pub in_range : m ≤ length s
  pub is : (n : ℕ) → m ≡ suc n → is_punctuator (take m s) ≡ true

either : (s : List ℕ) (t : Bool) (x y : ℕ) → (t ≡ true → PunctuatorOf s x) → PunctuatorOf s y → PunctuatorOf s (cond t x y)
either s true x y a b = a refl
either s false x y a b = b

no_punctuator : (s : List ℕ) → PunctuatorOf s 0
no_punctuator s = record { in_range = omega arith; is = λ n e. absurd (omega arith) }

one_taken : (a : ℕ) (r : List ℕ) → PunctuatorOf (a ∷ r) (one_len a)
one_taken a r = either (a ∷ r) (is_punctuator (a ∷ [])) 1 0 (λ e. record { in_range = omega arith; is = λ n _. e }) (no_punctuator (a ∷ r))

two_taken : (a b : ℕ) (r : List ℕ) → PunctuatorOf (a ∷ b ∷ r) (two_len a b)
two_taken a b r = either (a ∷ b ∷ r) (is_punctuator (a ∷ b ∷ [])) 2 (one_len a) (λ e. record { in_range = omega arith; is = λ n _. e }) (one_taken a (b ∷ r))

pub punctuator_sound : (s : List ℕ) → PunctuatorOf s (punctuator_len s)
unfolding punctuator_len
punctuator_sound [] = no_punctuator []
punctuator_sound (a ∷ []) = one_taken a []
punctuator_sound (a ∷ b ∷ []) = two_taken a b []
punctuator_sound (a ∷ b ∷ c ∷ r) = either (a ∷ b ∷ c ∷ r) (is_punctuator (a ∷ b ∷ c ∷ [])) 3 (two_len a b) (λ e. record { in_range = omega arith; is = λ n _. e }) (two_taken a b (c ∷ r))
