-- What is scanned is the longest lexeme at the start of a text: scanning is sound and complete.
use Rattle.std.proofs.Common.{◌≡◌, ℕ, zero, suc, ◌+◌, ◌<◌, ◌≤◌, Bool, true, false, cond, not, eqb, List, [], ◌∷◌, ◌++◌, length, take, drop, Option, Some, None, pos, refl, sym, ap, ◌∙◌, subst, arith}
use Rattle.std.specs.List.{prefix_len, list_all}
use Rattle.std.specs.Char.{is_ascii_digit, is_ascii_hexdigit}
use Rattle.std.proofs.lemmas.Bool.{cond-true, cond-false, and_parts, and_from, eqb-true, not-true, or_right, false_from_ne_true}
use Rattle.std.proofs.lemmas.Bool.Decides.{nat_tests}
use Rattle.std.proofs.lemmas.List.{take_at, take-append-drop, length-take-le}
use Rattle.std.proofs.lemmas.List.Sums.{prefix_len-le-length}
use Rattle.dscript_lex.specs.declared.token.TokenKind.TheVariants.{Word, Number, Punct}
use Rattle.dscript_lex.specs.declared.lexeme.LexemeKind.{LexemeKind}
use Rattle.dscript_lex.specs.declared.lexeme.LexemeKind.TheVariants.{Blank, Comment, Spelled}
use Rattle.dscript_lex.specs.declared.lexeme.Scanned.{Scanned}
use Rattle.dscript_lex.specs.declared.enclosed.Reach.{Reach}
use Rattle.dscript_lex.specs.declared.opening.Opening.{Opening}
use Rattle.dscript_lex.specs.declared.opening.Opening.TheVariants as openings
use Rattle.dscript_lex.specs.Bytes.{is_word_byte, begins_with}
use Rattle.dscript_lex.specs.Punctuators.{is_punctuator}
use Rattle.dscript_lex.specs.Lexemes.{opening_of, Enclosed, enclosed, number_of, numeral_of, after_zero, hexadecimal_of, at_most_max, value_in, is_comment, string_lexeme, part_lexeme, part_kind, number_lexeme, lexeme_as, lexeme_of, may_precede}
use Rattle.dscript_lex.specs.Scanning.{reach, comment_len, punctuator_len, scanned_string, scanned_part, scanned_number, scanned_punctuator, scanned_other, scan_as, scan_of}
use Rattle.dscript_lex.specs.Tokens.{IsLexeme, IsLongest, NothingBegins}
use Rattle.dscript_lex.proofs.PrefixLength.{take_one_more, prefix_passes, prefix_stops, prefix_covers, prefix_is, one_more}
use Rattle.dscript_lex.proofs.ReachExact.{reach_complete, Takes, reach_sound}
use Rattle.dscript_lex.proofs.PunctuatorExact.{Commented, comment_complete, comment_sound, one_slash, punctuator_complete, PunctuatorOf, punctuator_sound}

-- soundness: what is scanned is a lexeme that may come before the rest
pub record ScannedFrom (o : Opening) (b : ℕ) (bs : List ℕ) (f : Scanned) (n : ℕ) : Type 0 where
  pub len : f.len ≡ suc n
  pub in_range : n ≤ length bs
  pub is : lexeme_as o b (take n bs) ≡ Some f.kind
  pub before : may_precede f.kind (drop n bs) ≡ true

abbrev HasScanned : Opening → ℕ → List ℕ → Option Scanned → Type 0
HasScanned o b bs y = (f : Scanned) → y ≡ Some f → (n : ℕ) × ScannedFrom o b bs f n

has : (o : Opening) (b : ℕ) (bs : List ℕ) (f : Scanned) (n : ℕ) → ScannedFrom o b bs f n → HasScanned o b bs (Some f)
has o b bs f n scanned = λ f' same. let inside : f ≡ f' = cc in (n, subst (λ g. ScannedFrom o b bs g n) inside scanned)

has_none : (o : Opening) (b : ℕ) (bs : List ℕ) → HasScanned o b bs None
has_none o b bs = λ f' same. cc

blank_scan_sound : (b : ℕ) (bs : List ℕ) → HasScanned openings.Blank b bs (Some (record { kind = Blank; len = 1 }))
unfolding lexeme_as
blank_scan_sound b bs = has openings.Blank b bs _ 0 (record { len = refl; in_range = omega arith; is = refl; before = refl })

word_scan_sound : (b : ℕ) (bs : List ℕ) → HasScanned openings.Word b bs (scan_as openings.Word b bs)
unfolding lexeme_as scan_as
word_scan_sound b bs =
    let n = prefix_len is_word_byte bs in
    has openings.Word b bs _ n (record {
      len = one_more n;
      in_range = prefix_len-le-length is_word_byte bs;
      is = cond-true (list_all is_word_byte (take n bs)) _ None (prefix_passes is_word_byte bs) ∙ ap (λ t. Some (Spelled (Word t))) (sym (take_one_more n b bs));
      before = refl;
    })

number_scan_sound : (b : ℕ) (bs : List ℕ) (x : Option ℕ) → number_of (b ∷ take (prefix_len is_word_byte bs) bs) ≡ x → HasScanned openings.Number b bs (scanned_number (1 + prefix_len is_word_byte bs) x)
unfolding lexeme_as
number_scan_sound b bs None is = has_none openings.Number b bs
number_scan_sound b bs (Some v) is =
    let n = prefix_len is_word_byte bs in
    has openings.Number b bs _ n (record {
      len = one_more n;
      in_range = prefix_len-le-length is_word_byte bs;
      is = ap number_lexeme is;
      before = ap not (prefix_stops is_word_byte bs);
    })

string_scan_sound : (b : ℕ) (bs : List ℕ) (y : Option Reach) → ((r : Reach) → y ≡ Some r → Takes b bs r) → HasScanned openings.Quote b bs (scanned_string y)
unfolding lexeme_as
string_scan_sound b bs None takes = has_none openings.Quote b bs
string_scan_sound b bs (Some r) takes =
    let t = takes r refl in
    has openings.Quote b bs _ r.len (record { len = one_more r.len; in_range = t.in_range; is = ap string_lexeme t.is; before = refl })

part_before : (first hole : Bool) (value rest : List ℕ) → may_precede (Spelled (part_kind first hole value)) rest ≡ true
part_before true true value rest = refl
part_before true false value rest = refl
part_before false true value rest = refl
part_before false false value rest = refl

template_scan_sound : (b : ℕ) (bs : List ℕ) (y : Option Reach) → ((r : Reach) → y ≡ Some r → Takes 0x60 bs r) → HasScanned openings.Template b bs (scanned_part true y)
unfolding lexeme_as
template_scan_sound b bs None takes = has_none openings.Template b bs
template_scan_sound b bs (Some r) takes =
    let t = takes r refl in
    has openings.Template b bs _ r.len (record { len = one_more r.len; in_range = t.in_range; is = ap (part_lexeme true) t.is; before = part_before true r.hole r.value (drop r.len bs) })

part_scan_sound : (b : ℕ) (bs : List ℕ) (y : Option Reach) → ((r : Reach) → y ≡ Some r → Takes 0x60 bs r) → HasScanned openings.Part b bs (scanned_part false y)
unfolding lexeme_as
part_scan_sound b bs None takes = has_none openings.Part b bs
part_scan_sound b bs (Some r) takes =
    let t = takes r refl in
    has openings.Part b bs _ r.len (record { len = one_more r.len; in_range = t.in_range; is = ap (part_lexeme false) t.is; before = part_before false r.hole r.value (drop r.len bs) })

comment_scan_sound : (b : ℕ) (bs : List ℕ) (n : ℕ) → Commented b bs n → HasScanned openings.Other b bs (Some (record { kind = Comment; len = n }))
unfolding lexeme_as
comment_scan_sound b bs zero c = absurd (omega (arith, c.two))
comment_scan_sound b bs (suc k) c = has openings.Other b bs _ k (record { len = refl; in_range = omega (arith, c.in_range); is = cond-true (is_comment (b ∷ take k bs)) (Some Comment) _ c.is; before = refl })

no_comment : (b : ℕ) (bs : List ℕ) (k : ℕ) → comment_len (b ∷ bs) ≡ None → is_comment (b ∷ take k bs) ≡ true → ⊥
no_comment b bs k none is =
    let found = comment_complete (b ∷ take k bs) (drop k bs) is in
    let whole : comment_len (b ∷ bs) ≡ Some found.0 = ap (λ r. comment_len (b ∷ r)) (sym (take-append-drop k bs)) ∙ found.1.0 in
    cc

punctuator_scan_sound : (b : ℕ) (bs : List ℕ) (m : ℕ) → comment_len (b ∷ bs) ≡ None → PunctuatorOf (b ∷ bs) m → HasScanned openings.Other b bs (scanned_punctuator (b ∷ bs) m)
unfolding lexeme_as
punctuator_scan_sound b bs zero none s = has_none openings.Other b bs
punctuator_scan_sound b bs (suc k) none s = has openings.Other b bs _ k (record {
  len = refl;
  in_range = omega (arith, s.in_range);
  is = cond-false (is_comment (b ∷ take k bs)) (Some Comment) _ (false_from_ne_true _ (no_comment b bs k none)) ∙ cond-true (is_punctuator (b ∷ take k bs)) _ None (s.is k refl);
  before = refl;
})

other_scan_sound : (b : ℕ) (bs : List ℕ) (x : Option ℕ) → comment_len (b ∷ bs) ≡ x → HasScanned openings.Other b bs (scanned_other (b ∷ bs) x)
other_scan_sound b bs None is = punctuator_scan_sound b bs (punctuator_len (b ∷ bs)) is (punctuator_sound (b ∷ bs))
other_scan_sound b bs (Some n) is = comment_scan_sound b bs n (comment_sound b bs n is)

scan_as_sound : (o : Opening) (b : ℕ) (bs : List ℕ) → HasScanned o b bs (scan_as o b bs)
unfolding scan_as
scan_as_sound openings.Blank b bs = blank_scan_sound b bs
scan_as_sound openings.Word b bs = word_scan_sound b bs
scan_as_sound openings.Number b bs = number_scan_sound b bs _ (ap number_of (sym (take_one_more (prefix_len is_word_byte bs) b bs)))
scan_as_sound openings.Quote b bs = string_scan_sound b bs (reach b bs) (reach_sound b bs)
scan_as_sound openings.Template b bs = template_scan_sound b bs (reach 0x60 bs) (reach_sound 0x60 bs)
scan_as_sound openings.Part b bs = part_scan_sound b bs (reach 0x60 bs) (reach_sound 0x60 bs)
scan_as_sound openings.Other b bs = other_scan_sound b bs (comment_len (b ∷ bs)) refl

-- the digits of a number are word bytes
all_implies : (p q : ℕ → Bool) → ((x : ℕ) → p x ≡ true → q x ≡ true) → (xs : List ℕ) → list_all p xs ≡ true → list_all q xs ≡ true
all_implies p q implies [] all = refl
all_implies p q implies (x ∷ xs) all =
    let parts = and_parts (p x) (list_all p xs) all in
    and_from (q x) (list_all q xs) (implies x parts.0) (all_implies p q implies xs parts.1)

digit_in_word : (c : ℕ) → is_ascii_digit c ≡ true → is_word_byte c ≡ true
digit_in_word c digit = or_right _ (is_ascii_digit c) digit

hex_in_word : (c : ℕ) → is_ascii_hexdigit c ≡ true → is_word_byte c ≡ true
hex_in_word c digit = grind (arith, nat_tests)

cond_some : {A : Type 0} (t : Bool) (x y : A) → cond t (Some x) None ≡ Some y → t ≡ true
cond_some true x y e = refl
cond_some false x y e = cc

hex_digits : (ds : List ℕ) (m : ℕ) → hexadecimal_of ds ≡ Some m → list_all is_word_byte ds ≡ true
hex_digits [] m is = refl
hex_digits (d ∷ ds) m is = all_implies is_ascii_hexdigit is_word_byte hex_in_word (d ∷ ds) (cond_some (list_all is_ascii_hexdigit (d ∷ ds)) _ m is)

zero_digits : (ds : List ℕ) (m : ℕ) → after_zero ds ≡ Some m → list_all is_word_byte ds ≡ true
zero_digits [] m is = refl
zero_digits (x ∷ ds) m is = by_x (eqb x 0x78) refl is
  where
    by_x : (t : Bool) → eqb x 0x78 ≡ t → cond t (hexadecimal_of ds) None ≡ Some m → list_all is_word_byte (x ∷ ds) ≡ true
    by_x true same e = and_from (is_word_byte x) (list_all is_word_byte ds) (ap is_word_byte (eqb-true x 0x78 same)) (hex_digits ds m e)
    by_x false differs e = cc

numeral_digits : (d : ℕ) (ds : List ℕ) (m : ℕ) → numeral_of (d ∷ ds) ≡ Some m → list_all is_word_byte ds ≡ true
numeral_digits d ds m is = by_d (eqb d 0x30) is
  where
    by_d : (t : Bool) → cond t (after_zero ds) (cond (list_all is_ascii_digit (d ∷ ds)) (Some (value_in 10 (d ∷ ds))) None) ≡ Some m → list_all is_word_byte ds ≡ true
    by_d true e = zero_digits ds m e
    by_d false e = all_implies is_ascii_digit is_word_byte digit_in_word ds (and_parts (is_ascii_digit d) (list_all is_ascii_digit ds) (cond_some (list_all is_ascii_digit (d ∷ ds)) _ m e)).1

pub number_digits : (d : ℕ) (ds : List ℕ) (v : ℕ) → number_of (d ∷ ds) ≡ Some v → list_all is_word_byte ds ≡ true
number_digits d ds v is = by_numeral (numeral_of (d ∷ ds)) refl is
  where
    by_numeral : (x : Option ℕ) → numeral_of (d ∷ ds) ≡ x → at_most_max x ≡ Some v → list_all is_word_byte ds ≡ true
    by_numeral None e small = cc
    by_numeral (Some m) e small = numeral_digits d ds m e

-- completeness: a lexeme at the start is scanned, or a longer one
abbrev Reads : Opening → ℕ → List ℕ → ℕ → Type 0
Reads o b s n = (f : Scanned) × ((scan_as o b s ≡ Some f) × (n ≤ f.len))

blank_read : (b : ℕ) (t rest : List ℕ) (kind : LexemeKind) → lexeme_as openings.Blank b t ≡ Some kind → Reads openings.Blank b (t ++ rest) (suc (length t))
unfolding lexeme_as scan_as
blank_read b [] rest kind is = (record { kind = Blank; len = 1 }, (refl, omega arith))
blank_read b (c ∷ t) rest kind is = cc

word_read : (b : ℕ) (t rest : List ℕ) (kind : LexemeKind) → lexeme_as openings.Word b t ≡ Some kind → Reads openings.Word b (t ++ rest) (suc (length t))
unfolding lexeme_as scan_as
word_read b t rest kind is =
    let covers = prefix_covers is_word_byte t rest (cond_some (list_all is_word_byte t) _ kind is) in
    (_, (refl, omega arith))

number_read : (b : ℕ) (t rest : List ℕ) (kind : LexemeKind) → may_precede kind rest ≡ true → (x : Option ℕ) → number_of (b ∷ t) ≡ x → number_lexeme x ≡ Some kind → Reads openings.Number b (t ++ rest) (suc (length t))
unfolding scan_as
number_read b t rest kind lexeme None e is = cc
number_read b t rest kind lexeme (Some v) e is =
    let number : Spelled (Number (pos v)) ≡ kind = cc in
    let stops : not (begins_with is_word_byte rest) ≡ true = ap (λ s. may_precede s rest) number ∙ lexeme in
    let n = prefix_len is_word_byte (t ++ rest) in
    let len : n ≡ length t = prefix_is is_word_byte t rest (number_digits b t v e) (not-true _ stops) in
    let text : take (1 + n) (b ∷ (t ++ rest)) ≡ b ∷ t = take_one_more n b (t ++ rest) ∙ ap (λ u. b ∷ u) (take_at t rest n (sym len)) in
    (record { kind = Spelled (Number (pos v)); len = 1 + n }, (ap (scanned_number (1 + n)) (ap number_of text ∙ e), omega arith))

string_read : (b : ℕ) (t rest : List ℕ) (kind : LexemeKind) (x : Option Enclosed) → enclosed b t ≡ x → string_lexeme x ≡ Some kind → Reads openings.Quote b (t ++ rest) (suc (length t))
unfolding scan_as
string_read b t rest kind None e is = cc
string_read b t rest kind (Some y) e is = (_, (ap scanned_string (reach_complete b t rest y e), omega arith))

template_read : (b : ℕ) (t rest : List ℕ) (kind : LexemeKind) (x : Option Enclosed) → enclosed 0x60 t ≡ x → part_lexeme true x ≡ Some kind → Reads openings.Template b (t ++ rest) (suc (length t))
unfolding scan_as
template_read b t rest kind None e is = cc
template_read b t rest kind (Some y) e is = (_, (ap (scanned_part true) (reach_complete 0x60 t rest y e), omega arith))

part_read : (b : ℕ) (t rest : List ℕ) (kind : LexemeKind) (x : Option Enclosed) → enclosed 0x60 t ≡ x → part_lexeme false x ≡ Some kind → Reads openings.Part b (t ++ rest) (suc (length t))
unfolding scan_as
part_read b t rest kind None e is = cc
part_read b t rest kind (Some y) e is = (_, (ap (scanned_part false) (reach_complete 0x60 t rest y e), omega arith))

comment_read : (b : ℕ) (t rest : List ℕ) → is_comment (b ∷ t) ≡ true → Reads openings.Other b (t ++ rest) (suc (length t))
unfolding scan_as
comment_read b t rest is =
    let found = comment_complete (b ∷ t) rest is in
    (_, (ap (scanned_other (b ∷ (t ++ rest))) found.1.0, found.1.1))

punctuator_of_len : (bytes : List ℕ) (m n : ℕ) → 0 < n → n ≤ m → (f : Scanned) × ((scanned_punctuator bytes m ≡ Some f) × (n ≤ f.len))
punctuator_of_len bytes zero n some le = absurd (omega arith)
punctuator_of_len bytes (suc k) n some le = (_, (refl, le))

sign_read : (b : ℕ) (t rest : List ℕ) → is_punctuator (b ∷ t) ≡ true → (x : Option ℕ) → comment_len (b ∷ (t ++ rest)) ≡ x → Reads openings.Other b (t ++ rest) (suc (length t))
unfolding scan_as
sign_read b t rest is None e =
    let longest = punctuator_of_len (b ∷ (t ++ rest)) (punctuator_len (b ∷ (t ++ rest))) (suc (length t)) (omega arith) (punctuator_complete (b ∷ t) rest is) in
    (longest.0, (ap (scanned_other (b ∷ (t ++ rest))) e ∙ longest.1.0, longest.1.1))
sign_read b t rest is (Some m) e =
    let comment = comment_sound b (t ++ rest) m e in
    let alone : length t ≡ 0 = ap length (one_slash b t comment.slash is) in
    (_, (ap (scanned_other (b ∷ (t ++ rest))) e, omega (arith, comment.two)))

mark_read : (b : ℕ) (t rest : List ℕ) (kind : LexemeKind) (c : Bool) → is_comment (b ∷ t) ≡ c → cond c (Some Comment) (cond (is_punctuator (b ∷ t)) (Some (Spelled (Punct (b ∷ t)))) None) ≡ Some kind → Reads openings.Other b (t ++ rest) (suc (length t))
mark_read b t rest kind true e is = comment_read b t rest e
mark_read b t rest kind false e is = sign_read b t rest (cond_some (is_punctuator (b ∷ t)) _ kind is) (comment_len (b ∷ (t ++ rest))) refl

as_read : (o : Opening) (b : ℕ) (t rest : List ℕ) (kind : LexemeKind) → lexeme_as o b t ≡ Some kind → may_precede kind rest ≡ true → Reads o b (t ++ rest) (suc (length t))
unfolding lexeme_as
as_read openings.Blank b t rest kind is lexeme = blank_read b t rest kind is
as_read openings.Word b t rest kind is lexeme = word_read b t rest kind is
as_read openings.Number b t rest kind is lexeme = number_read b t rest kind lexeme (number_of (b ∷ t)) refl is
as_read openings.Quote b t rest kind is lexeme = string_read b t rest kind (enclosed b t) refl is
as_read openings.Template b t rest kind is lexeme = template_read b t rest kind (enclosed 0x60 t) refl is
as_read openings.Part b t rest kind is lexeme = part_read b t rest kind (enclosed 0x60 t) refl is
as_read openings.Other b t rest kind is lexeme = mark_read b t rest kind (is_comment (b ∷ t)) refl is

-- a lexeme at the start of any text is scanned, or a longer one
pub scan_complete : (hole : Bool) (text rest : List ℕ) (kind : LexemeKind) → IsLexeme hole text rest kind → (f : Scanned) × ((scan_of hole (text ++ rest) ≡ Some f) × (length text ≤ f.len))
unfolding lexeme_of scan_of
scan_complete hole [] rest kind lexeme = let nothing : None ≡ Some kind = lexeme.is in cc
scan_complete hole (b ∷ t) rest kind lexeme = as_read (opening_of hole b) b t rest kind lexeme.is lexeme.before

pub record IsScanned (hole : Bool) (s : List ℕ) (f : Scanned) : Type 0 where
  pub some : 0 < f.len
  pub in_range : f.len ≤ length s
  pub lexeme : IsLexeme hole (take f.len s) (drop f.len s) f.kind

scan_of_len : (hole : Bool) (b : ℕ) (bs : List ℕ) (f : Scanned) (n : ℕ) → ScannedFrom (opening_of hole b) b bs f n → IsScanned hole (b ∷ bs) f
unfolding lexeme_of
scan_of_len hole b bs f n scanned = record {
  some = omega (arith, scanned.len);
  in_range = omega (arith, scanned.in_range, scanned.len);
  lexeme = subst (λ k. IsLexeme hole (take k (b ∷ bs)) (drop k (b ∷ bs)) f.kind) (sym scanned.len) (record { is = scanned.is; before = scanned.before });
}

pub scan_sound : (hole : Bool) (s : List ℕ) (f : Scanned) → scan_of hole s ≡ Some f → IsScanned hole s f
unfolding scan_of
scan_sound hole [] f is = cc
scan_sound hole (b ∷ bs) f is =
    let lexeme = scan_as_sound (opening_of hole b) b bs f is in
    scan_of_len hole b bs f lexeme.0 lexeme.1

-- what is scanned is the longest lexeme
pub scan_longest : (hole : Bool) (s : List ℕ) (f : Scanned) → scan_of hole s ≡ Some f → IsLongest hole (take f.len s) (drop f.len s) f.kind
scan_longest hole s f is =
    let sound = scan_sound hole s f is in
    record {
      lexeme = sound.lexeme;
      longest = λ text rest other e lexeme.
          let found = scan_complete hole text rest other lexeme in
          let same : Some f ≡ Some found.0 = sym is ∙ ap (scan_of hole) (sym (take-append-drop f.len s) ∙ e) ∙ found.1.0 in
          let inside : f ≡ found.0 = cc in
          let lens : f.len ≡ (found.0).len = ap (λ (x : Scanned). x.len) inside in
          omega (arith, found.1.1, length-take-le f.len s sound.in_range);
    }

-- where nothing is scanned, no lexeme begins
pub nothing_begins : (hole : Bool) (s : List ℕ) → scan_of hole s ≡ None → NothingBegins hole s
nothing_begins hole s none text rest kind e lexeme =
    let found = scan_complete hole text rest kind lexeme in
    let same : None ≡ Some found.0 = sym none ∙ ap (scan_of hole) e ∙ found.1.0 in
    cc
