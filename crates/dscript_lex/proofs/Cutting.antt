-- A text is cut lexeme by lexeme, until it ends or fails.
use Rattle.std.proofs.Common.{◌≡◌, ℕ, zero, suc, ◌+◌, ◌<◌, ◌≤◌, ◌⊎◌, inl, inr, List, [], ◌∷◌, ◌++◌, length, take, drop, Option, Some, None, refl, sym, ap, ◌∙◌, subst, arith, length-append}
use Rattle.std.proofs.lemmas.List.{append_assoc, append-nil, drop-drop, drop_all, take-append-drop, length-take-le, length-drop}
use Rattle.dscript_lex.specs.declared.token.Token.{Token}
use Rattle.dscript_lex.specs.declared.lexeme.Scanned.{Scanned}
use Rattle.dscript_lex.specs.declared.brackets.Bracket.{Bracket}
use Rattle.dscript_lex.specs.declared.brackets.Bracket.TheVariants.{Hole, Brace}
use Rattle.dscript_lex.specs.Scanning.{scan_of}
use Rattle.dscript_lex.specs.Tokens.{Lexeme, texts, IsLongest, NothingBegins, NoHole, CutTo, IsCut, IsStuck, brackets_after, in_hole, token_of, tokens_of, mark_len, AreTokens, FailsAt}
use Rattle.dscript_lex.proofs.ScanLongest.{scan_sound, scan_longest, nothing_begins}

texts-append : (ls : List Lexeme) (l : Lexeme) (rest : List ℕ) → texts (ls ++ l ∷ []) ++ rest ≡ texts ls ++ (l.text ++ rest)
texts-append [] l rest = ap (λ t. t ++ rest) (append-nil l.text)
texts-append (m ∷ ms) l rest =
    append_assoc m.text (texts (ms ++ l ∷ [])) rest ∙ ap (λ t. m.text ++ t) (texts-append ms l rest) ∙ sym (append_assoc m.text (texts ms) (l.text ++ rest))

-- a cut goes on with the longest lexeme of its rest
cut_one_more : (before mid : List Bracket) (ls : List Lexeme) (l : Lexeme) (rest : List ℕ) → CutTo before ls (l.text ++ rest) mid → IsLongest (in_hole mid) l.text rest l.kind → CutTo before (ls ++ l ∷ []) rest (brackets_after l.kind mid)
cut_one_more before mid [] l rest cut longest = (subst (λ b. IsLongest (in_hole b) l.text rest l.kind) (sym cut) longest, ap (brackets_after l.kind) cut)
cut_one_more before mid (m ∷ ms) l rest cut longest = (
  subst (λ r. IsLongest (in_hole before) m.text r m.kind) (sym (texts-append ms l rest)) cut.0,
  cut_one_more (brackets_after m.kind before) mid ms l rest cut.1 longest,
)

tokens_one_more : (start : ℕ) (ls : List Lexeme) (l : Lexeme) (at : ℕ) → at ≡ start + length (texts ls) → tokens_of start (ls ++ l ∷ []) ≡ tokens_of start ls ++ token_of at (at + length l.text) l.kind
tokens_one_more start [] l at e =
    let here : start ≡ at = omega arith in
    append-nil _ ∙ ap (λ n. token_of n (n + length l.text) l.kind) here
tokens_one_more start (m ∷ ms) l at e =
    let next = start + length m.text in
    let place : at ≡ next + length (texts ms) = omega (arith, length-append m.text (texts ms)) in
    ap (λ ts. token_of start next m.kind ++ ts) (tokens_one_more next ms l at place) ∙ sym (append_assoc (token_of start next m.kind) (tokens_of next ms) _)

-- The text is cut into lexemes up to this byte, before which these brackets are open, and these tokens
-- are among them.
pub record HasCut (bytes : List ℕ) (at : ℕ) (brackets : List Bracket) (tokens : List Token) : Type 0 where
  pub lexemes : List Lexeme
  pub cut : IsCut bytes lexemes (drop at bytes) brackets
  pub place : at ≡ mark_len bytes + length (texts lexemes)
  pub spelled : tokens ≡ tokens_of (mark_len bytes) lexemes

pub cut_nothing : (bytes : List ℕ) → HasCut bytes (mark_len bytes) [] []
cut_nothing bytes = record { lexemes = []; cut = record { whole = refl; longest = refl }; place = omega arith; spelled = refl }

pub cut_more : (bytes : List ℕ) (at : ℕ) (brackets : List Bracket) (tokens : List Token) (s : Scanned) → HasCut bytes at brackets tokens → scan_of (in_hole brackets) (drop at bytes) ≡ Some s → HasCut bytes (at + s.len) (brackets_after s.kind brackets) (tokens ++ token_of at (at + s.len) s.kind)
cut_more bytes at brackets tokens s has is =
    let rest = drop at bytes in
    let text = take s.len rest in
    let l : Lexeme = record { text = text; kind = s.kind } in
    let len : length text ≡ s.len = length-take-le s.len rest (scan_sound (in_hole brackets) rest s is).in_range in
    let later : drop s.len rest ≡ drop (at + s.len) bytes = drop-drop s.len at bytes in
    let split : rest ≡ text ++ drop (at + s.len) bytes = sym (take-append-drop s.len rest) ∙ ap (λ r. text ++ r) later in
    let longest : IsLongest (in_hole brackets) text (drop (at + s.len) bytes) s.kind = subst (λ r. IsLongest (in_hole brackets) text r s.kind) later (scan_longest (in_hole brackets) rest s is) in
    let ends : at + length text ≡ at + s.len = ap (λ n. at + n) len in
    record {
      lexemes = has.lexemes ++ l ∷ [];
      cut = record {
        whole = texts-append has.lexemes l (drop (at + s.len) bytes) ∙ ap (λ r. texts has.lexemes ++ r) (sym split) ∙ has.cut.whole;
        longest = cut_one_more [] brackets has.lexemes l (drop (at + s.len) bytes) (subst (λ r. CutTo [] has.lexemes r brackets) split has.cut.longest) longest;
      };
      place = omega (arith, has.place, len, texts_len has.lexemes l);
      spelled = (λ i. has.spelled i ++ token_of at (sym ends i) s.kind) ∙ sym (tokens_one_more (mark_len bytes) has.lexemes l at has.place);
    }
  where
    texts_len : (ls : List Lexeme) (l : Lexeme) → length (texts (ls ++ l ∷ [])) ≡ length (texts ls) + length l.text
    texts_len [] l = omega (arith, length-append l.text [])
    texts_len (m ∷ ms) l = omega (arith, length-append m.text (texts (ms ++ l ∷ [])), length-append m.text (texts ms), texts_len ms l)

-- where nothing begins the text fails
stuck_here : (brackets : List Bracket) (rest : List ℕ) → NothingBegins (in_hole brackets) rest → 0 < length rest → IsStuck brackets rest
stuck_here brackets [] nothing some = absurd (omega arith)
stuck_here brackets (b ∷ bs) nothing some = nothing

pub cut_fails : (bytes : List ℕ) (at : ℕ) (brackets : List Bracket) (tokens : List Token) → HasCut bytes at brackets tokens → scan_of (in_hole brackets) (drop at bytes) ≡ None → 0 < length (drop at bytes) → FailsAt bytes at
cut_fails bytes at brackets tokens has none some = record {
  lexemes = has.lexemes;
  rest = drop at bytes;
  open_brackets = brackets;
  cut = has.cut;
  stuck = stuck_here brackets (drop at bytes) (nothing_begins (in_hole brackets) (drop at bytes) none) some;
  place = has.place;
}

-- at the end of the text no hole is open, or the text fails
cut_end : (bytes : List ℕ) (at : ℕ) (brackets : List Bracket) (tokens : List Token) → length bytes ≤ at → (has : HasCut bytes at brackets tokens) → IsCut bytes has.lexemes [] brackets
cut_end bytes at brackets tokens le has = subst (λ r. IsCut bytes has.lexemes r brackets) (drop_all at bytes le) has.cut

pub cut_all : (bytes : List ℕ) (at : ℕ) (brackets : List Bracket) (tokens : List Token) → HasCut bytes at brackets tokens → length bytes ≤ at → NoHole brackets → AreTokens bytes tokens
cut_all bytes at brackets tokens has le none =
    record { lexemes = has.lexemes; open_brackets = brackets; cut = cut_end bytes at brackets tokens le has; no_hole = none; spelled = has.spelled }

pub cut_open : (bytes : List ℕ) (at : ℕ) (brackets : List Bracket) (tokens : List Token) → HasCut bytes at brackets tokens → length bytes ≤ at → (NoHole brackets → ⊥) → FailsAt bytes at
cut_open bytes at brackets tokens has le hole =
    record { lexemes = has.lexemes; rest = []; open_brackets = brackets; cut = cut_end bytes at brackets tokens le has; stuck = hole; place = has.place }

-- under equal names
pub cut_same : (bytes : List ℕ) (at at' : ℕ) (brackets brackets' : List Bracket) (tokens tokens' : List Token) → HasCut bytes at brackets tokens → at ≡ at' → brackets ≡ brackets' → tokens ≡ tokens' → HasCut bytes at' brackets' tokens'
cut_same bytes at at' brackets brackets' tokens tokens' has same_at same_brackets same_tokens =
    subst (λ n. HasCut bytes n brackets' tokens') same_at (subst (λ b. HasCut bytes at b tokens') same_brackets (subst (HasCut bytes at brackets) same_tokens has))

-- each text has tokens or fails
abbrev Ends : List ℕ → Type 0
Ends bytes = ((tokens : List Token) × AreTokens bytes tokens) ⊎ ((at : ℕ) × FailsAt bytes at)

hole_or_not : (brackets : List Bracket) → NoHole brackets ⊎ (NoHole brackets → ⊥)
hole_or_not [] = inl tt
hole_or_not (Hole ∷ others) = inr (λ none. none)
hole_or_not (Brace ∷ others) = hole_or_not others

ends_at_end : (bytes : List ℕ) (at : ℕ) (brackets : List Bracket) (tokens : List Token) → HasCut bytes at brackets tokens → length bytes ≤ at → NoHole brackets ⊎ (NoHole brackets → ⊥) → Ends bytes
ends_at_end bytes at brackets tokens has le (inl none) = inl (tokens, cut_all bytes at brackets tokens has le none)
ends_at_end bytes at brackets tokens has le (inr hole) = inr (at, cut_open bytes at brackets tokens has le hole)

-- at most n bytes are left
ends_within : (n : ℕ) (bytes : List ℕ) (at : ℕ) (brackets : List Bracket) (tokens : List Token) → HasCut bytes at brackets tokens → length bytes ≤ at + n → Ends bytes
ends_within zero bytes at brackets tokens has le = ends_at_end bytes at brackets tokens has (omega arith) (hole_or_not brackets)
ends_within (suc n) bytes at brackets tokens has le = by_rest (drop at bytes) refl (λ s is some. ends_within n bytes (at + s.len) (brackets_after s.kind brackets) (tokens ++ token_of at (at + s.len) s.kind) (cut_more bytes at brackets tokens s has is) (omega (arith, le, some)))
  where
    Later : Type 0
    Later = (s : Scanned) → scan_of (in_hole brackets) (drop at bytes) ≡ Some s → 0 < s.len → Ends bytes

    by_scan : (y : Option Scanned) → scan_of (in_hole brackets) (drop at bytes) ≡ y → 0 < length (drop at bytes) → Later → Ends bytes
    by_scan None is some later = inr (at, cut_fails bytes at brackets tokens has is some)
    by_scan (Some s) is some later = later s is (scan_sound (in_hole brackets) (drop at bytes) s is).some

    by_rest : (rest : List ℕ) → drop at bytes ≡ rest → Later → Ends bytes
    by_rest [] e later = let none : length (drop at bytes) ≡ 0 = ap length e in ends_at_end bytes at brackets tokens has (omega (arith, length-drop at bytes)) (hole_or_not brackets)
    by_rest (b ∷ bs) e later = let some : length (drop at bytes) ≡ suc (length bs) = ap length e in by_scan (scan_of (in_hole brackets) (drop at bytes)) refl (omega arith) later

pub ends : (bytes : List ℕ) → Ends bytes
ends bytes = ends_within (length bytes) bytes (mark_len bytes) [] [] (cut_nothing bytes) (omega arith)
