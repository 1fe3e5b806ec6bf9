-- A token's spelling is the longest lexeme at its place, where no byte follows that joins it.
use Rattle.std.proofs.Common.{◌≡◌, ℕ, suc, ◌+◌, Bool, true, false, cond, List, [], ◌∷◌, ◌++◌, length, take, Option, Some, None, pos, refl, sym, ap, ◌∙◌, subst}
use Rattle.std.specs.List.{prefix_len, list_all}
use Rattle.std.proofs.lemmas.Bool.{cond-true}
use Rattle.std.proofs.lemmas.List.{take_at, drop_at}
use Rattle.dscript_lex.specs.declared.token.TokenKind.{TokenKind}
use Rattle.dscript_lex.specs.declared.token.TokenKind.TheVariants.{Word, Number, Str, Punct}
use Rattle.dscript_lex.specs.declared.lexeme.LexemeKind.{LexemeKind}
use Rattle.dscript_lex.specs.declared.lexeme.LexemeKind.TheVariants.{Blank, Comment, Spelled}
use Rattle.dscript_lex.specs.declared.lexeme.Scanned.{Scanned}
use Rattle.dscript_lex.specs.declared.opening.Opening.{Opening}
use Rattle.dscript_lex.specs.declared.opening.Opening.TheVariants as openings
use Rattle.dscript_lex.specs.Bytes.{is_blank, is_word_byte, begins_with}
use Rattle.dscript_lex.specs.Punctuators.{is_punctuator}
use Rattle.dscript_lex.specs.Lexemes.{opening_of, Enclosed, enclosed, number_of, is_comment, string_lexeme, part_lexeme, part_kind, number_lexeme, lexeme_as, lexeme_of}
use Rattle.dscript_lex.specs.Scanning.{reach, scanned_string, scanned_part, scanned_number, scanned_punctuator, scanned_other, scan_as, scan_of}
use Rattle.dscript_lex.specs.Tokens.{IsLongest}
use Rattle.dscript_lex.proofs.PrefixLength.{take_one_more, prefix_is, one_more}
use Rattle.dscript_lex.proofs.ReachExact.{reach_complete}
use Rattle.dscript_lex.proofs.ScanLongest.{scan_longest, number_digits}
use Rattle.dscript_print_tokens.specs.Sides.{side_of, joins}
use Rattle.dscript_print_tokens.proofs.Apart.{no_comment, same_len}
use Rattle.dscript_print_tokens.proofs.Inverting.{the_some}

-- the token is scanned, and takes the first byte and n more
abbrev IsRead : Option Scanned → TokenKind → ℕ → Type 0
IsRead prefix kind n = prefix ≡ Some (record { kind = Spelled kind; len = suc n })

-- whether the rest may come directly after the token
abbrev pub Apart : TokenKind → List ℕ → Type 0
Apart kind rest = begins_with (joins (side_of kind)) rest ≡ false

word_text : (b : ℕ) (bs rest : List ℕ) → list_all is_word_byte bs ≡ true → begins_with is_word_byte rest ≡ false → (n : ℕ) → n ≡ prefix_len is_word_byte (bs ++ rest) → (n ≡ length bs) × (take (1 + n) (b ∷ (bs ++ rest)) ≡ b ∷ bs)
word_text b bs rest all apart n is =
    let len : n ≡ length bs = is ∙ prefix_is is_word_byte bs rest all apart in
    (len, take_one_more n b (bs ++ rest) ∙ ap (λ u. b ∷ u) (take_at bs rest n (sym len)))

word_read : (b : ℕ) (bs rest : List ℕ) → list_all is_word_byte bs ≡ true → Apart (Word (b ∷ bs)) rest → IsRead (scan_as openings.Word b (bs ++ rest)) (Word (b ∷ bs)) (length bs)
unfolding scan_as
word_read b bs rest all apart =
    let n = prefix_len is_word_byte (bs ++ rest) in
    let text = word_text b bs rest all apart n refl in
    let len : 1 + n ≡ suc (length bs) = one_more n ∙ ap suc text.0 in
    λ i. Some (record { kind = Spelled (Word (text.1 i)); len = len i })

number_read : (b : ℕ) (bs rest : List ℕ) (v : ℕ) → list_all is_word_byte bs ≡ true → number_of (b ∷ bs) ≡ Some v → Apart (Number (pos v)) rest → IsRead (scan_as openings.Number b (bs ++ rest)) (Number (pos v)) (length bs)
unfolding scan_as
number_read b bs rest v all is apart =
    let n = prefix_len is_word_byte (bs ++ rest) in
    let text = word_text b bs rest all apart n refl in
    let len : 1 + n ≡ suc (length bs) = one_more n ∙ ap suc text.0 in
    λ i. scanned_number (len i) ((ap number_of text.1 ∙ is) i)

string_read : (b : ℕ) (bs rest : List ℕ) (e : Enclosed) → enclosed b bs ≡ Some e → IsRead (scan_as openings.Quote b (bs ++ rest)) (Str e.value) (length bs)
unfolding scan_as
string_read b bs rest e is = ap scanned_string (reach_complete b bs rest e is) ∙ ap (λ n. Some (record { kind = Spelled (Str e.value); len = n })) (one_more (length bs))

part_read : (first : Bool) (bs rest : List ℕ) (e : Enclosed) → enclosed 0x60 bs ≡ Some e → IsRead (scanned_part first (reach 0x60 (bs ++ rest))) (part_kind first e.hole e.value) (length bs)
part_read first bs rest e is = ap (scanned_part first) (reach_complete 0x60 bs rest e is) ∙ ap (λ n. Some (record { kind = Spelled (part_kind first e.hole e.value); len = n })) (one_more (length bs))

punctuator_read : (b : ℕ) (bs rest : List ℕ) → is_punctuator (b ∷ bs) ≡ true → Apart (Punct (b ∷ bs)) rest → IsRead (scan_as openings.Other b (bs ++ rest)) (Punct (b ∷ bs)) (length bs)
unfolding scan_as
punctuator_read b bs rest punctuator apart =
    ap (scanned_other (b ∷ (bs ++ rest))) (no_comment b bs rest punctuator apart)
    ∙ ap (scanned_punctuator (b ∷ (bs ++ rest))) (same_len b bs rest punctuator apart)
    ∙ ap (λ u. Some (record { kind = Spelled (Punct (b ∷ u)); len = suc (length bs) })) (take_at bs rest (length bs) refl)

-- what is shown of the token that the bytes are holds of the token that they are said to be
abbrev Reads : Opening → ℕ → List ℕ → List ℕ → TokenKind → Type 0
Reads o b bs rest kind = Apart kind rest → IsRead (scan_as o b (bs ++ rest)) kind (length bs)

as_said : (o : Opening) (b : ℕ) (bs rest : List ℕ) (is said : TokenKind) → Reads o b bs rest is → Some (Spelled is) ≡ Some (Spelled said) → Reads o b bs rest said
as_said o b bs rest is said reads e = let same : is ≡ said = cc in subst (Reads o b bs rest) same reads

all_true : {A : Type 0} (t : Bool) (x y : A) → cond t (Some x) None ≡ Some y → t ≡ true
all_true true x y e = refl
all_true false x y e = cc

number_as : (b : ℕ) (bs rest : List ℕ) (kind : TokenKind) (x : Option ℕ) → number_of (b ∷ bs) ≡ x → number_lexeme x ≡ Some (Spelled kind) → Reads openings.Number b bs rest kind
number_as b bs rest kind None e is = cc
number_as b bs rest kind (Some v) e is = as_said openings.Number b bs rest (Number (pos v)) kind (number_read b bs rest v (number_digits b bs v e) e) is

string_as : (b : ℕ) (bs rest : List ℕ) (kind : TokenKind) (x : Option Enclosed) → enclosed b bs ≡ x → string_lexeme x ≡ Some (Spelled kind) → Reads openings.Quote b bs rest kind
string_as b bs rest kind None e is = cc
string_as b bs rest kind (Some y) e is = as_said openings.Quote b bs rest (Str y.value) kind (λ _. string_read b bs rest y e) is

template_as : (b : ℕ) (bs rest : List ℕ) (kind : TokenKind) (x : Option Enclosed) → enclosed 0x60 bs ≡ x → part_lexeme true x ≡ Some (Spelled kind) → Reads openings.Template b bs rest kind
unfolding scan_as
template_as b bs rest kind None e is = cc
template_as b bs rest kind (Some y) e is = as_said openings.Template b bs rest (part_kind true y.hole y.value) kind (λ _. part_read true bs rest y e) is

part_as : (b : ℕ) (bs rest : List ℕ) (kind : TokenKind) (x : Option Enclosed) → enclosed 0x60 bs ≡ x → part_lexeme false x ≡ Some (Spelled kind) → Reads openings.Part b bs rest kind
unfolding scan_as
part_as b bs rest kind None e is = cc
part_as b bs rest kind (Some y) e is = as_said openings.Part b bs rest (part_kind false y.hole y.value) kind (λ _. part_read false bs rest y e) is

punctuator_as : (b : ℕ) (bs rest : List ℕ) (kind : TokenKind) (t : Bool) → cond t (Some Comment) (cond (is_punctuator (b ∷ bs)) (Some (Spelled (Punct (b ∷ bs)))) None) ≡ Some (Spelled kind) → Reads openings.Other b bs rest kind
punctuator_as b bs rest kind true is = cc
punctuator_as b bs rest kind false is =
    as_said openings.Other b bs rest (Punct (b ∷ bs)) kind (punctuator_read b bs rest (all_true (is_punctuator (b ∷ bs)) _ _ is)) (the_some (is_punctuator (b ∷ bs)) _ _ is)

as_read : (o : Opening) (b : ℕ) (bs rest : List ℕ) (kind : TokenKind) → lexeme_as o b bs ≡ Some (Spelled kind) → Reads o b bs rest kind
unfolding lexeme_as
as_read openings.Blank b [] rest kind is = cc
as_read openings.Blank b (c ∷ bs) rest kind is = cc
as_read openings.Word b bs rest kind is =
    as_said openings.Word b bs rest (Word (b ∷ bs)) kind (word_read b bs rest (all_true (list_all is_word_byte bs) _ _ is)) (the_some (list_all is_word_byte bs) _ _ is)
as_read openings.Number b bs rest kind is = number_as b bs rest kind (number_of (b ∷ bs)) refl is
as_read openings.Quote b bs rest kind is = string_as b bs rest kind (enclosed b bs) refl is
as_read openings.Template b bs rest kind is = template_as b bs rest kind (enclosed 0x60 bs) refl is
as_read openings.Part b bs rest kind is = part_as b bs rest kind (enclosed 0x60 bs) refl is
as_read openings.Other b bs rest kind is = punctuator_as b bs rest kind (is_comment (b ∷ bs)) is

-- what is scanned is the longest
longest_of_len : (hole : Bool) (text rest : List ℕ) (kind : LexemeKind) (n : ℕ) → n ≡ length text → scan_of hole (text ++ rest) ≡ Some (record { kind = kind; len = n }) → IsLongest hole text rest kind
longest_of_len hole text rest kind n len is =
    let longest = scan_longest hole (text ++ rest) (record { kind = kind; len = n }) is in
    subst (λ t. IsLongest hole t rest kind) (take_at text rest n (sym len)) (subst (λ r. IsLongest hole (take n (text ++ rest)) r kind) (drop_at text rest n (sym len)) longest)

pub token_longest : (hole : Bool) (text rest : List ℕ) (kind : TokenKind) → lexeme_of hole text ≡ Some (Spelled kind) → Apart kind rest → IsLongest hole text rest (Spelled kind)
unfolding lexeme_of scan_of
token_longest hole [] rest kind is apart = cc
token_longest hole (b ∷ bs) rest kind is apart = longest_of_len hole (b ∷ bs) rest (Spelled kind) (suc (length bs)) refl (as_read (opening_of hole b) b bs rest kind is apart)

-- a blank is the longest wherever it is
blank_scanned : (hole : Bool) (b : ℕ) (rest : List ℕ) → is_blank b ≡ true → scan_of hole (b ∷ rest) ≡ Some (record { kind = Blank; len = 1 })
unfolding scan_of scan_as
blank_scanned hole b rest blank = ap (λ o. scan_as o b rest) (cond-true (is_blank b) _ _ blank)

pub blank_longest : (hole : Bool) (b : ℕ) (rest : List ℕ) → is_blank b ≡ true → IsLongest hole (b ∷ []) rest Blank
blank_longest hole b rest blank = longest_of_len hole (b ∷ []) rest Blank 1 refl (blank_scanned hole b rest blank)
