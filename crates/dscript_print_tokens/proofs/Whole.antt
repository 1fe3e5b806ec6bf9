-- The text that is written has the tokens that were given.
use Rattle.std.proofs.Common.{◌≡◌, ℕ, zero, suc, ◌+◌, ◌*◌, Bool, true, false, ◌&&◌, eqb, List, [], ◌∷◌, ◌++◌, length, take, drop, Some, None, refl, sym, ap, ◌∙◌, subst}
use lib.Pointwise.{pointwise}
use Rattle.std.specs.Prelude.{map, replicate}
use Rattle.std.specs.List.{list_all, flat_map}
use Rattle.std.proofs.lemmas.Bool.{cond-false, and_parts, and_left, eqb-true}
use Rattle.std.proofs.lemmas.List.{append_assoc, append-nil}
use Rattle.dscript_lex.specs.declared.token.Token.{Token}
use Rattle.dscript_lex.specs.declared.token.TokenKind.{TokenKind}
use Rattle.dscript_lex.specs.declared.lexeme.LexemeKind.{LexemeKind}
use Rattle.dscript_lex.specs.declared.lexeme.LexemeKind.TheVariants.{Blank, Comment, Spelled}
use Rattle.dscript_lex.specs.declared.opening.Opening.TheVariants as openings
use Rattle.dscript_lex.specs.declared.brackets.Bracket.{Bracket}
use Rattle.dscript_lex.specs.Bytes.{is_blank}
use Rattle.dscript_lex.specs.Punctuators.{is_punctuator}
use Rattle.dscript_lex.specs.Lexemes.{opening_of, lexeme_as, lexeme_of}
use Rattle.dscript_lex.specs.Tokens.{Lexeme, texts, IsLongest, CutTo, NoHole, brackets_after, in_hole, token_of, tokens_of, mark_len}
use Rattle.dscript_print_tokens.specs.declared.laid.Laid.{Laid}
use Rattle.dscript_print_tokens.specs.declared.laid.Gap.{Gap}
use Rattle.dscript_print_tokens.specs.declared.laid.Gap.TheVariants as gaps
use Rattle.dscript_print_tokens.specs.declared.side.Side.{Side}
use Rattle.dscript_print_tokens.specs.declared.side.Side.TheVariants.{Other}
use Rattle.dscript_print_tokens.specs.Spellable.{kinds, HasSpelling, AreSpellableAfter, AreSpellable, HasKinds}
use Rattle.dscript_print_tokens.specs.Sides.{side_of, run_together}
use Rattle.dscript_print_tokens.specs.Spellings.{spelling}
use Rattle.dscript_print_tokens.specs.Layout.{blanks, written}
use Rattle.dscript_print_tokens.proofs.Places.{token_longest, blank_longest}
use Rattle.dscript_print_tokens.proofs.Inverting.{writable}
use Rattle.dscript_print_tokens.proofs.Chosen.{spelling_is}
use Rattle.dscript_print_tokens.proofs.Beside.{IsApart, laid_beside, end_beside}

-- the tokens among lexemes, without their places
abbrev token_kinds : LexemeKind → List TokenKind
token_kinds (Spelled kind) = kind ∷ []
token_kinds _ = []

abbrev kinds_of : List Lexeme → List TokenKind
kinds_of ps = flat_map (λ p. token_kinds p.kind) ps

-- where these brackets are open before it, the text is cut into lexemes, and these tokens are among them
pub record Writes (brackets : List Bracket) (text : List ℕ) (all : List TokenKind) : Type 0 where
  pub lexemes : List Lexeme
  pub after : List Bracket
  pub whole : texts lexemes ++ [] ≡ text
  pub longest : CutTo brackets lexemes [] after
  pub no_hole : NoHole after
  pub spelled : kinds_of lexemes ≡ all

write_nothing : (brackets : List Bracket) → NoHole brackets → Writes brackets [] []
write_nothing brackets none = record { lexemes = []; after = brackets; whole = refl; longest = refl; no_hole = none; spelled = refl }

write_blank : (brackets : List Bracket) (b : ℕ) (text : List ℕ) (all : List TokenKind) → is_blank b ≡ true → Writes brackets text all → Writes brackets (b ∷ text) all
write_blank brackets b text all blank writes = record {
  lexemes = record { text = b ∷ []; kind = Blank } ∷ writes.lexemes;
  after = writes.after;
  whole = ap (λ t. b ∷ t) writes.whole;
  longest = (blank_longest (in_hole brackets) b (texts writes.lexemes ++ []) blank, writes.longest);
  no_hole = writes.no_hole;
  spelled = writes.spelled;
}

write_blanks : (brackets : List Bracket) (bs text : List ℕ) (all : List TokenKind) → list_all is_blank bs ≡ true → Writes brackets text all → Writes brackets (bs ++ text) all
write_blanks brackets [] text all blank writes = writes
write_blanks brackets (b ∷ bs) text all blank writes =
    let parts = and_parts (is_blank b) (list_all is_blank bs) blank in
    write_blank brackets b (bs ++ text) all parts.0 (write_blanks brackets bs text all parts.1 writes)

write_token : (brackets : List Bracket) (kind : TokenKind) (text : List ℕ) (all : List TokenKind) → HasSpelling (in_hole brackets) kind → IsApart (side_of kind) text → Writes (brackets_after (Spelled kind) brackets) text all → Writes brackets (spelling kind ++ text) (kind ∷ all)
write_token brackets kind text all has apart writes =
    let hole = in_hole brackets in
    let longest = token_longest hole (spelling kind) text kind (spelling_is hole kind (writable hole kind has)) apart in
    record {
      lexemes = record { text = spelling kind; kind = Spelled kind } ∷ writes.lexemes;
      after = writes.after;
      whole = append_assoc (spelling kind) (texts writes.lexemes) [] ∙ ap (λ t. spelling kind ++ t) writes.whole;
      longest = (subst (λ t. IsLongest hole (spelling kind) t (Spelled kind)) (sym writes.whole) longest, writes.longest);
      no_hole = writes.no_hole;
      spelled = ap (λ ks. kind ∷ ks) writes.spelled;
    }

spaces_blank : (n : ℕ) → list_all is_blank (replicate n 0x20) ≡ true
spaces_blank zero = refl
spaces_blank (suc n) = spaces_blank n

blanks_blank : (gap : Gap) (together : Bool) → list_all is_blank (blanks gap together) ≡ true
blanks_blank gaps.None true = refl
blanks_blank gaps.None false = refl
blanks_blank gaps.Space together = refl
blanks_blank (gaps.Line levels) together = spaces_blank (4 * levels)

written_apart : (brackets : List Bracket) (before : Side) (laid : List Laid) → AreSpellableAfter brackets (kinds laid) → IsApart before (written before laid)
unfolding written
written_apart brackets before [] are = end_beside before
written_apart brackets before (l ∷ ls) are =
    laid_beside (in_hole brackets) l.kind (writable (in_hole brackets) l.kind are.0) l.gap before (written (side_of l.kind) ls)

written_writes : (brackets : List Bracket) (before : Side) (laid : List Laid) → AreSpellableAfter brackets (kinds laid) → Writes brackets (written before laid) (kinds laid)
unfolding written
written_writes brackets before [] none = write_blank brackets 0x0a [] [] refl (write_nothing brackets none)
written_writes brackets before (l ∷ ls) are =
    let inner = brackets_after (Spelled l.kind) brackets in
    let rest = written_writes inner (side_of l.kind) ls are.1 in
    write_blanks brackets (blanks l.gap (run_together before (side_of l.kind))) (spelling l.kind ++ written (side_of l.kind) ls) (kinds (l ∷ ls)) (blanks_blank l.gap (run_together before (side_of l.kind)))
    (write_token brackets l.kind (written (side_of l.kind) ls) (kinds ls) are.0 (written_apart inner (side_of l.kind) ls are.1) rest)

-- the tokens of the lexemes are these
same_token : (start end : ℕ) (kind : LexemeKind) (tokens : List Token) (all : List TokenKind) → map (λ t. t.kind) tokens ≡ all → map (λ t. t.kind) (token_of start end kind ++ tokens) ≡ token_kinds kind ++ all
same_token start end (Spelled kind) tokens all same = ap (λ ks. kind ∷ ks) same
same_token start end Blank tokens all same = same
same_token start end Comment tokens all same = same

same_kinds : (start : ℕ) (ps : List Lexeme) → map (λ t. t.kind) (tokens_of start ps) ≡ kinds_of ps
same_kinds start [] = refl
same_kinds start (p ∷ ps) = same_token start (start + length p.text) p.kind (tokens_of (start + length p.text) ps) (kinds_of ps) (same_kinds (start + length p.text) ps)

-- no lexeme begins with the first byte of a byte order mark
opens_other : (hole : Bool) → opening_of hole 0xef ≡ openings.Other
opens_other true = refl
opens_other false = refl

no_punctuator : (bs : List ℕ) → lexeme_as openings.Other 0xef bs ≡ None
unfolding lexeme_as is_punctuator
no_punctuator [] = refl
no_punctuator (b ∷ []) = refl
no_punctuator (b ∷ c ∷ []) = refl
no_punctuator (b ∷ c ∷ d ∷ bs) = refl

no_lexeme : (hole : Bool) (bs : List ℕ) → lexeme_of hole (0xef ∷ bs) ≡ None
unfolding lexeme_of
no_lexeme hole bs = ap (λ o. lexeme_as o 0xef bs) (opens_other hole) ∙ no_punctuator bs

no_mark_byte : (b : ℕ) (bs : List ℕ) → eqb 0xef b ≡ false → mark_len (b ∷ bs) ≡ 0
no_mark_byte b bs other = cond-false (eqb 0xef b && pointwise eqb (0xbb ∷ 0xbf ∷ []) (take 2 bs)) 3 0 (and_left (eqb 0xef b) _ other)

no_text : (hole : Bool) (kind : LexemeKind) → lexeme_of hole [] ≡ Some kind → None ≡ Some kind
unfolding lexeme_of
no_text hole kind is = is

no_mark_text : (hole : Bool) (text rest : List ℕ) (kind : LexemeKind) → lexeme_of hole text ≡ Some kind → mark_len (text ++ rest) ≡ 0
no_mark_text hole [] rest kind is = let none : None ≡ Some kind = no_text hole kind is in cc
no_mark_text hole (b ∷ bs) rest kind is = by_b (eqb 0xef b) refl
  where
    by_b : (t : Bool) → eqb 0xef b ≡ t → mark_len (b ∷ (bs ++ rest)) ≡ 0
    by_b true same = let none : None ≡ Some kind = sym (no_lexeme hole bs) ∙ ap (λ x. lexeme_of hole (x ∷ bs)) (eqb-true 0xef b same) ∙ is in cc
    by_b false other = no_mark_byte b (bs ++ rest) other

no_mark : (brackets after : List Bracket) (ls : List Lexeme) → CutTo brackets ls [] after → mark_len (texts ls) ≡ 0
no_mark brackets after [] cut = refl
no_mark brackets after (l ∷ ls) cut = no_mark_text (in_hole brackets) l.text (texts ls) l.kind cut.0.lexeme.is

pub whole : (text : List ℕ) (all : List TokenKind) → Writes [] text all → HasKinds text all
whole text all writes =
    let same : texts writes.lexemes ≡ text = sym (append-nil (texts writes.lexemes)) ∙ writes.whole in
    let mark : mark_len text ≡ 0 = ap mark_len (sym same) ∙ no_mark [] writes.after writes.lexemes writes.longest in
    record {
      tokens = tokens_of (mark_len text) writes.lexemes;
      are = record {
        lexemes = writes.lexemes;
        open_brackets = writes.after;
        cut = record { whole = writes.whole ∙ ap (λ n. drop n text) (sym mark); longest = writes.longest };
        no_hole = writes.no_hole;
        spelled = refl;
      };
      same = same_kinds (mark_len text) writes.lexemes ∙ writes.spelled;
    }

pub written_has_kinds : (laid : List Laid) → AreSpellable (kinds laid) → HasKinds (written Other laid) (kinds laid)
written_has_kinds laid are = whole (written Other laid) (kinds laid) (written_writes [] Other laid are)
