-- The places of tokens rise, and each has its token's spelling.
use Rattle.std.proofs.Common.{◌≡◌, ℕ, ◌+◌, ◌-◌, ◌<◌, ◌≤◌, Bool, List, [], ◌∷◌, ◌++◌, length, take, drop, Some, refl, sym, ap, ◌∙◌, subst, arith, length-append}
use Rattle.std.specs.Prelude.{slice_range}
use Rattle.std.specs.List.{AllByRecursion}
use Rattle.std.proofs.lemmas.List.{append_assoc, append-nil, take_at, drop_at, take-append-drop, length-take-le, length-drop}
use Rattle.dscript_lex.specs.declared.token.Token.{Token}
use Rattle.dscript_lex.specs.declared.lexeme.LexemeKind.{LexemeKind}
use Rattle.dscript_lex.specs.declared.lexeme.LexemeKind.TheVariants.{Blank, Comment, Spelled}
use Rattle.dscript_lex.specs.declared.brackets.Bracket.{Bracket}
use Rattle.dscript_lex.specs.Lexemes.{lexeme_of}
use Rattle.dscript_lex.specs.Tokens.{Lexeme, texts, IsLongest, CutTo, brackets_after, in_hole, token_of, tokens_of, mark_len, AreTokens, FailsAt, Rise, IsSpelledAt, HavePlaces}
use Rattle.dscript_lex.proofs.OneReading.{has_bytes}

earlier : (from later to : ℕ) (ts : List Token) → from ≤ later → Rise later ts to → Rise from ts to
earlier from later to [] le rise = omega arith
earlier from later to (t ∷ ts) le rise = (omega (arith, rise.0), rise.1, rise.2)

rise_token : (start n to : ℕ) (kind : LexemeKind) (ts : List Token) → 0 < n → Rise (start + n) ts to → Rise start (token_of start (start + n) kind ++ ts) to
rise_token start n to (Spelled kind) ts some rise = (omega arith, omega arith, rise)
rise_token start n to Blank ts some rise = earlier start (start + n) to ts (omega arith) rise
rise_token start n to Comment ts some rise = earlier start (start + n) to ts (omega arith) rise

bytes_of_lexeme : (hole : Bool) (p : Lexeme) (rest : List ℕ) → IsLongest hole p.text rest p.kind → (text : List ℕ) → p.text ≡ text → 0 < length text
bytes_of_lexeme hole p rest longest [] e = absurd (has_bytes hole p.text rest p.kind longest.lexeme e)
bytes_of_lexeme hole p rest longest (b ∷ bs) e = omega arith

rise : (brackets after : List Bracket) (ps : List Lexeme) (start to : ℕ) → CutTo brackets ps [] after → start + length (texts ps) ≡ to → Rise start (tokens_of start ps) to
rise brackets after [] start to cut e = omega arith
rise brackets after (p ∷ ps) start to cut e =
    rise_token start (length p.text) to p.kind _ (bytes_of_lexeme _ p (texts ps ++ []) cut.0 p.text refl) (rise (brackets_after p.kind brackets) after ps (start + length p.text) to cut.1 (omega (arith, length-append p.text (texts ps))))

slice_is : (prefix text rest : List ℕ) (start : ℕ) → length prefix ≡ start → slice_range (prefix ++ (text ++ rest)) start (start + length text) ≡ text
slice_is prefix text rest start e =
    let len : start + length text - start ≡ length text = omega arith in
    (λ i. take (len i) (drop_at prefix (text ++ rest) start e i)) ∙ take_at text rest (length text) refl

spelled_token : (bytes : List ℕ) (hole : Bool) (start end : ℕ) (kind : LexemeKind) (ts : List Token) → lexeme_of hole (slice_range bytes start end) ≡ Some kind → AllByRecursion (IsSpelledAt bytes) ts → AllByRecursion (IsSpelledAt bytes) (token_of start end kind ++ ts)
spelled_token bytes hole start end (Spelled kind) ts is others = ((hole, is), others)
spelled_token bytes hole start end Blank ts is others = others
spelled_token bytes hole start end Comment ts is others = others

spelled : (bytes : List ℕ) (brackets after : List Bracket) (ps : List Lexeme) (prefix : List ℕ) (start : ℕ) → prefix ++ texts ps ≡ bytes → length prefix ≡ start → CutTo brackets ps [] after → AllByRecursion (IsSpelledAt bytes) (tokens_of start ps)
spelled bytes brackets after [] prefix start whole e cut = tt
spelled bytes brackets after (p ∷ ps) prefix start whole e cut =
    spelled_token bytes (in_hole brackets) start (start + length p.text) p.kind _
    (ap (λ b. lexeme_of (in_hole brackets) (slice_range b start (start + length p.text))) (sym whole) ∙ ap (lexeme_of (in_hole brackets)) (slice_is prefix p.text (texts ps) start e) ∙ cut.0.lexeme.is)
    (spelled bytes (brackets_after p.kind brackets) after ps (prefix ++ p.text) (start + length p.text) (append_assoc prefix p.text (texts ps) ∙ whole) (omega (arith, length-append prefix p.text)) cut.1)

mark_in_range : (bytes : List ℕ) → mark_len bytes ≤ length bytes
mark_in_range [] = omega arith
mark_in_range (a ∷ []) = grind arith
mark_in_range (a ∷ b ∷ []) = grind arith
mark_in_range (a ∷ b ∷ c ∷ bs) = grind arith

pub places : (bytes : List ℕ) (tokens : List Token) → AreTokens bytes tokens → HavePlaces bytes tokens
places bytes tokens are =
    let mark = mark_len bytes in
    let len : length (take mark bytes) ≡ mark = length-take-le mark bytes (mark_in_range bytes) in
    let whole : take mark bytes ++ texts are.lexemes ≡ bytes = ap (λ r. take mark bytes ++ r) (sym (append-nil (texts are.lexemes)) ∙ are.cut.whole) ∙ take-append-drop mark bytes in
    let to : mark + length (texts are.lexemes) ≡ length bytes = omega (arith, length-append (take mark bytes) (texts are.lexemes), ap length whole) in
    record {
      rise = subst (λ ts. Rise 0 ts (length bytes)) (sym are.spelled) (earlier 0 mark (length bytes) _ (omega arith) (rise [] are.open_brackets are.lexemes mark (length bytes) are.cut.longest to));
      spelled = subst (AllByRecursion (IsSpelledAt bytes)) (sym are.spelled) (spelled bytes [] are.open_brackets are.lexemes (take mark bytes) mark whole len are.cut.longest);
    }

-- a text fails within it or at its end
pub place_in_text : (bytes : List ℕ) (at : ℕ) → FailsAt bytes at → at ≤ length bytes
place_in_text bytes at fails =
    let mark = mark_len bytes in
    let cut : length (texts fails.lexemes ++ fails.rest) ≡ length (drop mark bytes) = ap length fails.cut.whole in
    omega (arith, fails.place, cut, length-append (texts fails.lexemes) fails.rest, length-drop mark bytes, mark_in_range bytes)
