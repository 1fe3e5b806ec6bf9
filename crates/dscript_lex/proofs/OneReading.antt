-- One text has one list of tokens or one place at which it fails: two cuts that end are one cut.
use Rattle.std.proofs.Common.{◌≡◌, ℕ, ◌+◌, ◌≤◌, Bool, List, [], ◌∷◌, ◌++◌, length, take, drop, Some, None, refl, sym, ap, ◌∙◌, subst, arith}
use Rattle.std.proofs.lemmas.List.{append_assoc, take_at, drop_at}
use Rattle.dscript_lex.specs.declared.token.Token.{Token}
use Rattle.dscript_lex.specs.declared.brackets.Bracket.{Bracket}
use Rattle.dscript_lex.specs.declared.lexeme.LexemeKind.{LexemeKind}
use Rattle.dscript_lex.specs.Lexemes.{lexeme_of}
use Rattle.dscript_lex.specs.Tokens.{Lexeme, texts, IsLexeme, IsLongest, NothingBegins, NoHole, CutTo, IsStuck, brackets_after, in_hole, tokens_of, mark_len, AreTokens, FailsAt}

-- two lexemes that are each the longest at one place are one
pub record Same (text text' rest rest' : List ℕ) (kind kind' : LexemeKind) : Type 0 where
  pub same_text : text ≡ text'
  pub same_rest : rest ≡ rest'
  pub same_kind : kind ≡ kind'

pub same_lexeme : (hole : Bool) (text rest text' rest' : List ℕ) (kind kind' : LexemeKind) → IsLongest hole text rest kind → IsLongest hole text' rest' kind' → text ++ rest ≡ text' ++ rest' → Same text text' rest rest' kind kind'
same_lexeme hole text rest text' rest' kind kind' a b e =
    let up : length text' ≤ length text = a.longest text' rest' kind' e b.lexeme in
    let down : length text ≤ length text' = b.longest text rest kind (sym e) a.lexeme in
    let lengths : length text' ≡ length text = omega arith in
    let texts_same : text ≡ text' = sym (take_at text rest (length text) refl) ∙ ap (take (length text)) e ∙ take_at text' rest' (length text) lengths in
    let rests_same : rest ≡ rest' = sym (drop_at text rest (length text) refl) ∙ ap (drop (length text)) e ∙ drop_at text' rest' (length text) lengths in
    let kinds : Some kind ≡ Some kind' = sym a.lexeme.is ∙ ap (lexeme_of hole) texts_same ∙ b.lexeme.is in
    record { same_text = texts_same; same_rest = rests_same; same_kind = cc }

-- a lexeme has bytes, so none begins at the end of a text
pub has_bytes : (hole : Bool) (text rest : List ℕ) (kind : LexemeKind) → IsLexeme hole text rest kind → text ≡ [] → ⊥
unfolding lexeme_of
has_bytes hole [] rest kind lexeme e = let no : None ≡ Some kind = lexeme.is in cc
has_bytes hole (b ∷ bs) rest kind lexeme e = cc

empty_prefix : (xs ys : List ℕ) → [] ≡ xs ++ ys → xs ≡ []
empty_prefix [] ys e = refl
empty_prefix (x ∷ xs) ys e = cc

pub nothing_at_end : (hole : Bool) → NothingBegins hole []
nothing_at_end hole text others kind e lexeme = has_bytes hole text others kind lexeme (empty_prefix text others e)

pub stuck_nothing : (brackets : List Bracket) (rest : List ℕ) → IsStuck brackets rest → NothingBegins (in_hole brackets) rest
stuck_nothing brackets [] stuck = nothing_at_end (in_hole brackets)
stuck_nothing brackets (b ∷ bs) stuck = stuck

-- two cuts of one text after which nothing begins are one cut
pub record OneCut (ls ms : List Lexeme) (rest rest' : List ℕ) (after after' : List Bracket) : Type 0 where
  pub same_lexemes : ls ≡ ms
  pub same_rest : rest ≡ rest'
  pub same_after : after ≡ after'

-- a cut cannot end where another goes on
goes_on : (before after : List Bracket) (rest rest' : List ℕ) (m : Lexeme) (ms : List Lexeme) → before ≡ after → NothingBegins (in_hole after) rest → IsLexeme (in_hole before) m.text (texts ms ++ rest') m.kind → rest ≡ (m.text ++ texts ms) ++ rest' → ⊥
goes_on before after rest rest' m ms same nothing lexeme e =
    nothing m.text (texts ms ++ rest') m.kind (e ∙ append_assoc m.text (texts ms) rest') (subst (λ b. IsLexeme (in_hole b) m.text (texts ms ++ rest') m.kind) same lexeme)

pub one_cut : (before : List Bracket) (ls ms : List Lexeme) (rest rest' : List ℕ) (after after' : List Bracket) → CutTo before ls rest after → CutTo before ms rest' after' → NothingBegins (in_hole after) rest → NothingBegins (in_hole after') rest' → texts ls ++ rest ≡ texts ms ++ rest' → OneCut ls ms rest rest' after after'
one_cut before [] [] rest rest' after after' a b none none' e = record { same_lexemes = refl; same_rest = e; same_after = sym a ∙ b }
one_cut before [] (m ∷ ms) rest rest' after after' a b none none' e = absurd (goes_on before after rest rest' m ms a none b.0.lexeme e)
one_cut before (l ∷ ls) [] rest rest' after after' a b none none' e = absurd (goes_on before after' rest' rest l ls b none' a.0.lexeme (sym e))
one_cut before (l ∷ ls) (m ∷ ms) rest rest' after after' a b none none' e =
    let whole : l.text ++ (texts ls ++ rest) ≡ m.text ++ (texts ms ++ rest') = sym (append_assoc l.text (texts ls) rest) ∙ e ∙ append_assoc m.text (texts ms) rest' in
    let same = same_lexeme (in_hole before) l.text (texts ls ++ rest) m.text (texts ms ++ rest') l.kind m.kind a.0 b.0 whole in
    let later = one_cut (brackets_after l.kind before) ls ms rest rest' after after' a.1 (subst (λ k. CutTo (brackets_after k before) ms rest' after') (sym same.same_kind) b.1) none none' same.same_rest in
    let lexeme : l ≡ m = λ i. record { text = same.same_text i; kind = same.same_kind i } in
    record { same_lexemes = λ i. lexeme i ∷ later.same_lexemes i; same_rest = later.same_rest; same_after = later.same_after }

pub one_reading : (bytes : List ℕ) (first second : List Token) → AreTokens bytes first → AreTokens bytes second → first ≡ second
one_reading bytes first second a b =
    let one = one_cut [] a.lexemes b.lexemes [] [] a.open_brackets b.open_brackets a.cut.longest b.cut.longest (nothing_at_end _) (nothing_at_end _) (a.cut.whole ∙ sym b.cut.whole) in
    a.spelled ∙ ap (tokens_of (mark_len bytes)) one.same_lexemes ∙ sym b.spelled

pub one_place : (bytes : List ℕ) (first second : ℕ) → FailsAt bytes first → FailsAt bytes second → first ≡ second
one_place bytes first second a b =
    let one = one_cut [] a.lexemes b.lexemes a.rest b.rest a.open_brackets b.open_brackets a.cut.longest b.cut.longest (stuck_nothing a.open_brackets a.rest a.stuck) (stuck_nothing b.open_brackets b.rest b.stuck) (a.cut.whole ∙ sym b.cut.whole) in
    a.place ∙ ap (λ ls. mark_len bytes + length (texts ls)) one.same_lexemes ∙ sym b.place

pub no_tokens : (bytes : List ℕ) (at : ℕ) (tokens : List Token) → FailsAt bytes at → AreTokens bytes tokens → ⊥
no_tokens bytes at tokens a b =
    let one = one_cut [] a.lexemes b.lexemes a.rest [] a.open_brackets b.open_brackets a.cut.longest b.cut.longest (stuck_nothing a.open_brackets a.rest a.stuck) (nothing_at_end _) (a.cut.whole ∙ sym b.cut.whole) in
    let stuck : IsStuck a.open_brackets [] = subst (IsStuck a.open_brackets) one.same_rest a.stuck in
    stuck (subst NoHole (sym one.same_after) b.no_hole)
