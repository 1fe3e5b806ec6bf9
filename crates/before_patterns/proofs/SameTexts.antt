-- The texts of asks and answers that there were are what they were, and what was read is read.
use Rattle.std.proofs.Common.{◌≡◌, ℕ, Bool, true, false, not, ◌&&◌, ◌||◌, cond, List, [], ◌∷◌, ◌++◌, codes, Option, Some, None, ◌==◌, refl, ap, sym, subst, ◌∙◌}
use Rattle.std.specs.List.{flat_map, slice_split}
use Rattle.std.specs.Str.{bytes_eq}
use Rattle.std.specs.Option.{option_and_then}
use Rattle.std.specs.Ordering.{is_lt}
use Rattle.std.proofs.lemmas.Option.{same_Some}
use Rattle.std.proofs.lemmas.Slice.Eq.{bytes_eq-Decides}
use Rattle.bx_tree.proofs.Options.{if_some}
use Rattle.observed.proofs.ReadTexts.{prefix_sound}
use Rattle.bx_tree.specs.Paths.{Atoms, path_text}
use Rattle.observed.specs.Asks as now_asks
use Rattle.observed.specs.Texts as now
use Rattle.observed.specs.Texts.{after_prefix, ask_at, named_path, with_ask}
use Rattle.observed.specs.declared.ask.AskKind.{AskKind}
use Rattle.observed.specs.declared.ask.AskKind.TheVariants as kinds
use Rattle.observed.specs.declared.ask.Ask.{Ask}
use Rattle.observed.specs.declared.access.Answer.{Answer}
use Rattle.prints.specs.Lines.{lines_at}
use Rattle.prints.specs.Parts.{digest_at}
use Rattle.prints.specs.Reading.{Taken, ◌>>=◌, after_word, both_at, if_ended, whole_of}
use Rattle.prints.specs.Strong as now_strong
use Rattle.prints.specs.Strong.{answer_at, has_more, read_strong_text as read_now}
use Rattle.prints.specs.declared.strong_parts.AnswerLine.{AnswerLine}
use Rattle.prints.specs.declared.strong_parts.StrongParts.{StrongParts}
use Rattle.before_patterns.specs.Asks.{WasKind, WereAsks}
use Rattle.before_patterns.specs.PathTexts as old
use Rattle.before_patterns.specs.StrongTexts as old_strong
use Rattle.before_patterns.specs.StrongTexts.{read_strong_text as read_before}
use Rattle.before_patterns.proofs.SameAsks.{cmp_same}

-- ## Written

kind_text_same : (kind : AskKind) → WasKind kind → now.kind_text kind ≡ old.kind_text kind
kind_text_same kinds.Read h = refl
kind_text_same kinds.Probe h = refl
kind_text_same kinds.List h = refl
kind_text_same (kinds.Match p) h = absurd h

no_pattern : (kind : AskKind) → WasKind kind → now_asks.has_pattern kind ≡ false
no_pattern kinds.Read h = refl
no_pattern kinds.Probe h = refl
no_pattern kinds.List h = refl
no_pattern (kinds.Match p) h = absurd h

pub no_match : (asks : List Ask) → WereAsks asks → now.has_match asks ≡ false
no_match [] h = refl
no_match (a ∷ as') h = ap (λ t. t || now.has_match as') (no_pattern a.kind h.0) ∙ no_match as' h.1

lines_same : (asks : List Ask) → WereAsks asks → flat_map now.ask_line asks ≡ flat_map old.ask_line asks
lines_same [] h = refl
lines_same (a ∷ as') h =
    ap (λ t. (t ++ codes " " ++ path_text a.path ++ codes "\n") ++ flat_map now.ask_line as') (kind_text_same a.kind h.0)
    ∙ ap (λ t. old.ask_line a ++ t) (lines_same as' h.1)

pub paths_same : (asks : List Ask) → WereAsks asks → now.paths_text asks ≡ old.paths_text asks
paths_same asks h =
    ap (λ v. now.first_line v ++ codes "\n" ++ flat_map now.ask_line asks) (no_match asks h) ∙ ap (λ t. codes "paths 1" ++ codes "\n" ++ t) (lines_same asks h)

-- ## Read

-- an ask that was read is one that there was, and is read
pub record Stays (line : List ℕ) (ask : Ask) : Type 0 where
  pub was : WasKind ask.kind
  pub read : now.named_ask line ≡ Some ask

at_was : (kind : AskKind) (path : Option Atoms) (ask : Ask) → WasKind kind → ask_at kind path ≡ Some ask → WasKind ask.kind
at_was kind None ask h e = cc
at_was kind (Some path) ask h e = subst (λ (a : Ask). WasKind a.kind) (same_Some (record { kind = kind; path = path }) ask e) h

ask_stays : (line : List ℕ) (ask : Ask) → old.named_ask line ≡ Some ask → Stays line ask
ask_stays line ask e = by_word (after_prefix (codes "read ") line) (after_prefix (codes "probe ") line) (after_prefix (codes "list ") line) refl refl refl e
  where
    by_word : (r p l : Option (List ℕ)) → after_prefix (codes "read ") line ≡ r → after_prefix (codes "probe ") line ≡ p → after_prefix (codes "list ") line ≡ l
        → old.ask_after r p l ≡ Some ask → Stays line ask
    by_word (Some text) p l is-r is-p is-l e = record {
      was = at_was kinds.Read (named_path text) ask tt e;
      read = ap (λ o. now.ask_after o (after_prefix (codes "probe ") line) (after_prefix (codes "list ") line) (after_prefix (codes "match ") line)) is-r ∙ e;
    }
    by_word None (Some text) l is-r is-p is-l e = record {
      was = at_was kinds.Probe (named_path text) ask tt e;
      read = ap (λ o. now.ask_after o (after_prefix (codes "probe ") line) (after_prefix (codes "list ") line) (after_prefix (codes "match ") line)) is-r
          ∙ ap (λ o. now.ask_after None o (after_prefix (codes "list ") line) (after_prefix (codes "match ") line)) is-p ∙ e;
    }
    by_word None None (Some text) is-r is-p is-l e = record {
      was = at_was kinds.List (named_path text) ask tt e;
      read = ap (λ o. now.ask_after o (after_prefix (codes "probe ") line) (after_prefix (codes "list ") line) (after_prefix (codes "match ") line)) is-r
          ∙ ap (λ o. now.ask_after None o (after_prefix (codes "list ") line) (after_prefix (codes "match ") line)) is-p
          ∙ ap (λ o. now.ask_after None None o (after_prefix (codes "match ") line)) is-l ∙ e;
    }
    by_word None None None is-r is-p is-l e = cc

-- ## Path sets

-- asks that were read are asks that there were, and are read
pub record Stay (lines : List (List ℕ)) (asks : List Ask) : Type 0 where
  pub were : WereAsks asks
  pub read : now.named_asks lines ≡ Some asks

asks_stay : (lines : List (List ℕ)) (asks : List Ask) → old.named_asks lines ≡ Some asks → Stay lines asks
asks_stay [] asks e = cc
asks_stay ([] ∷ []) asks e = record { were = subst WereAsks (same_Some [] asks e) tt; read = e }
asks_stay ((b ∷ bs) ∷ []) asks e = cc
asks_stay (line ∷ next ∷ lines) asks e = both (old.named_ask line) (old.named_asks (next ∷ lines)) refl refl e (λ xs f. asks_stay (next ∷ lines) xs f)
  where
    both : (o : Option Ask) (r : Option (List Ask)) → old.named_ask line ≡ o → old.named_asks (next ∷ lines) ≡ r → with_ask o r ≡ Some asks
        → ((xs : List Ask) → old.named_asks (next ∷ lines) ≡ Some xs → Stay (next ∷ lines) xs) → Stay (line ∷ next ∷ lines) asks
    both None r is-o is-r e later = cc
    both (Some ask) None is-o is-r e later = cc
    both (Some ask) (Some xs) is-o is-r e later =
        let one = ask_stays line ask is-o in
        let rest = later xs is-r in
        record {
          were = subst WereAsks (same_Some (ask ∷ xs) asks e) (one.was, rest.were);
          read = ap (λ o. with_ask o (now.named_asks (next ∷ lines))) one.read ∙ ap (with_ask (Some ask)) rest.read ∙ e;
        }

rising_same : (asks : List Ask) → WereAsks asks → old.is_rising asks ≡ now.is_rising asks
rising_same [] h = refl
rising_same (a ∷ []) h = refl
rising_same (a ∷ b ∷ rest) h =
    ap (λ o. is_lt o && old.is_rising (b ∷ rest)) (cmp_same a b h.0 h.1.0) ∙ ap (λ t. is_lt (now_asks.ask_cmp a b) && t) (rising_same (b ∷ rest) h.1)

set_stays : (lines : List (List ℕ)) (asks : List Ask) (o : Option (List Ask)) → old.named_asks lines ≡ o → option_and_then old.if_rising o ≡ Some asks
    → WereAsks asks × (now.set_of_lines false lines ≡ Some asks)
set_stays lines asks None is e = cc
set_stays lines asks (Some xs) is e =
    let stay = asks_stay lines xs is in
    let rising = if_some (old.is_rising xs) (Some xs) asks e in (
      subst WereAsks (same_Some xs asks rising.1) stay.were,
      ap (option_and_then (now.if_set false)) stay.read
          ∙ ap (λ t. cond (now.is_rising xs && not t) (Some xs) None) (no_match xs stay.were)
          ∙ ap (λ t. cond (t && true) (Some xs) None) (sym (rising_same xs stay.were) ∙ rising.0)
          ∙ rising.1,
    )

pub paths_read : (text : List ℕ) (asks : List Ask) → old.read_paths_text text ≡ Some asks → WereAsks asks × (now.read_paths_text text ≡ Some asks)
paths_read text asks e = by_lines (slice_split (λ b. b == 10) text) e
  where
    by_lines : (lines : List (List ℕ)) → old.read_lines lines ≡ Some asks → WereAsks asks × (now.read_lines lines ≡ Some asks)
    by_lines [] e = cc
    by_lines (first ∷ lines) e =
        let named = if_some (bytes_eq first old.first_line) (option_and_then old.if_rising (old.named_asks lines)) asks e in
        let set = set_stays lines asks (old.named_asks lines) refl named.1 in
        (set.0, ap (λ f. now.read_lines (f ∷ lines)) ((bytes_eq-Decides first old.first_line).0 named.0) ∙ set.1)

-- ## Strong texts

pub strong_same : (asks : List Ask) (weak paths : List ℕ) (given : List Answer) → WereAsks asks
    → now_strong.strong_text (now_strong.strong_parts (now.has_match asks) weak paths given) ≡ old_strong.strong_text (old_strong.strong_parts weak paths given)
strong_same asks weak paths given h = ap (λ v. now_strong.strong_text (now_strong.strong_parts v weak paths given)) (no_match asks h)

-- what follows the first line: two digests and lines
abbrev Rest : Type 0
Rest = List ℕ × (List ℕ × List AnswerLine)

abbrev rest_at : List ℕ → Taken Rest
rest_at =
    both_at (after_word (codes "weak ") (digest_at 10)) (both_at (after_word (codes "paths ") (digest_at 10)) (lines_at has_more answer_at))

-- the parts of now and of then, and what is at the end of a text
abbrev of_first : Rest × List ℕ → Taken (Bool × Rest)
of_first y = Some ((false, y.0), y.1)

abbrev parts_now : (Bool × Rest) × List ℕ → Taken StrongParts
parts_now x = Some (now_strong.parts_of x.0, x.1)

abbrev parts_before : Rest × List ℕ → Taken StrongParts
parts_before x = Some (old_strong.parts_of x.0, x.1)

abbrev at_end : StrongParts × List ℕ → Option StrongParts
at_end x = if_ended x.0 x.1

one_reading : (o : Taken Rest) → (((o >>= of_first) >>= parts_now) >>= at_end) ≡ ((o >>= parts_before) >>= at_end)
one_reading None = refl
one_reading (Some y) = refl

pub strong_read : (text : List ℕ) (parts : StrongParts) → read_before text ≡ Some parts → read_now text ≡ Some parts
unfolding read_before read_now
strong_read text parts e = by_head (after_prefix (codes "strong 1\n") text) refl e
  where
    by_head : (o : Option (List ℕ)) → after_prefix (codes "strong 1\n") text ≡ o → (((o >>= rest_at) >>= parts_before) >>= at_end) ≡ Some parts
        → whole_of now_strong.strong_at text ≡ Some parts
    by_head None is e = cc
    by_head (Some rest) is e =
        ap (whole_of now_strong.strong_at) (prefix_sound (codes "strong 1\n") text rest is) ∙ one_reading (rest_at rest) ∙ e
