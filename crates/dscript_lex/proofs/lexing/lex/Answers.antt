use Rattle.std.proofs.Common.{◌≡◌, true, Some, None, drop, reverse, sym, ap, ◌∙◌, subst, refl, arith}
use Rattle.std.proofs.lemmas.List.{drop-drop, length-drop, take_rest}
use Rattle.dscript_lex.specs.Scanning.{scan_of, NeverCloses}
use Rattle.dscript_lex.specs.Tokens.{in_hole}
use Rattle.dscript_lex.proofs.CommentClose.{never_closes_after}
use Rattle.dscript_lex.proofs.Cutting.{cut_nothing, cut_more, cut_fails, cut_all, cut_open, cut_same}
use Rattle.dscript_lex.proofs.ScanLongest.{scan_sound}
use Rattle.dscript_lex.proofs.lexing.lex.Goals as goal

pub lexemes-init : goal.lexemes-init
lexemes-init c = record {
  in_range = c.mark_len-at.ensures.in_range;
  has_cut = cut_same _ _ _ _ _ _ _ (cut_nothing c.args.bytes.now) (sym c.mark_len-at.ensures.len) (sym (ap reverse c.new-brackets.ensures.items)) (sym c.in_ok-tokens.ensures.items);
  unclosed = λ never. cc;
}

pub returns-in_default : goal.returns-in_default
returns-in_default c =
    let rest = drop c.lexemes.at c.args.bytes.now in
    let hole = c.in_hole-is_in_hole.ensures ∙ ap (λ b. in_hole (reverse b)) c.deref.ensures.value in
    let nothing : scan_of (in_hole (reverse c.lexemes.brackets.items)) rest ≡ None = ap (λ h. scan_of h rest) (sym hole) ∙ ap (scan_of c.in_hole-is_in_hole.result) (sym (take_rest c.args.bytes.now c.lexemes.at)) ∙ sym c.in_ok-scanned.ensures.scanned ∙ c.in_default.is in
    cut_fails c.args.bytes.now c.lexemes.at _ _ c.lexemes.invariant.has_cut nothing (omega (arith, length-drop c.lexemes.at c.args.bytes.now))

pub lexemes-preserved : goal.lexemes-preserved
lexemes-preserved c =
    let bytes = c.args.bytes.now in
    let rest = drop c.lexemes.at bytes in
    let hole = c.in_hole-is_in_hole.ensures ∙ ap (λ b. in_hole (reverse b)) c.deref.ensures.value in
    let scanned : scan_of (in_hole (reverse c.lexemes.brackets.items)) rest ≡ Some c.in-Some.scanned = ap (λ h. scan_of h rest) (sym hole) ∙ ap (scan_of c.in_hole-is_in_hole.result) (sym (take_rest c.args.bytes.now c.lexemes.at)) ∙ sym c.in_ok-scanned.ensures.scanned ∙ c.in-Some.is in
    record {
      in_range = omega (arith, length-drop c.lexemes.at bytes, (scan_sound (in_hole (reverse c.lexemes.brackets.items)) rest c.in-Some.scanned scanned).in_range);
      has_cut = cut_same bytes _ _ _ _ _ _ (cut_more bytes c.lexemes.at _ _ c.in-Some.scanned c.lexemes.invariant.has_cut scanned) refl (sym c.in_ok-follow.ensures) (sym c.in_ok-push_token.ensures);
      unclosed = λ never. subst NeverCloses (drop-drop c.in-Some.scanned.len c.lexemes.at bytes) (never_closes_after rest c.in-Some.scanned.len (subst NeverCloses (take_rest bytes c.lexemes.at) (c.in_ok-scanned.ensures.unclosed never)));
    }

pub returns-then-has_no_hole : goal.returns-then-has_no_hole
returns-then-has_no_hole c =
    cut_all c.args.bytes.now c.lexemes.at _ _ c.lexemes.invariant.has_cut c.lexemes-test.false (c.has_no_hole.ensures.0 c.if-has_no_hole.true)

pub returns-else-has_no_hole : goal.returns-else-has_no_hole
returns-else-has_no_hole c =
    cut_open c.args.bytes.now c.lexemes.at _ _ c.lexemes.invariant.has_cut c.lexemes-test.false (λ none. let yes : c.has_no_hole.result ≡ true = c.has_no_hole.ensures.1 none in cc)
