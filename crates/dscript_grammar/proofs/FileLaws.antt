-- The file that is read is the file that is derived, at one height and at all greater heights that count.
use Rattle.std.proofs.Common.{◌≡◌, ℕ, ◌≤◌, true, false, ◌&&◌, List, [], ◌∷◌, Some, None, nat_le, refl, ap, sym, ◌∙◌, subst, arith}
use Rattle.std.proofs.lemmas.Bool.Decides.{nat_tests}
use Rattle.std.proofs.lemmas.Bool.{false≢true, and_parts}
use Rattle.std.proofs.lemmas.Option.{same_Some}
use Rattle.dscript_lex.specs.declared.token.TokenKind.{TokenKind}
use Rattle.dscript_grammar.specs.Reading.{and_then, pick}
use Rattle.dscript_ast.specs.FileTree.{FileTree}
use Rattle.dscript_grammar.specs.FileGrammar.{file_at}
use Rattle.dscript_grammar.specs.FileReading.{at_end, file_of}
use Rattle.dscript_grammar.specs.Derives.{Derives}
use Rattle.dscript_ast.specs.declared.file.Form.{Form}
use Rattle.dscript_grammar.specs.declared.height.TheConstants.{MAX_HEIGHT}
use Rattle.dscript_grammar.proofs.Combinators.{Found, found_some, found_none, found_bind, found_if}
use Rattle.dscript_grammar.proofs.WholeFile.{file_sound, file_complete}

nothing_left : (ts : List TokenKind) → at_end ts ≡ true → ts ≡ []
unfolding at_end
nothing_left [] e = refl
nothing_left (t ∷ ts) e = absurd (false≢true e)

derived : (form : Form) (tokens : List TokenKind) → Found (file_of form tokens) (λ f. Derives form tokens f MAX_HEIGHT)
unfolding file_of
derived form tokens =
    found_bind (file_sound MAX_HEIGHT form tokens) λ r p. found_if
    (λ e. let parts = and_parts (at_end r.rest) (nat_le r.height MAX_HEIGHT) e in
    found_some (record {
      counts = omega arith;
      derived = subst (λ (rest : List TokenKind). file_at MAX_HEIGHT form r.value tokens rest) (nothing_left r.rest parts.0) (p MAX_HEIGHT (grind (arith, nat_tests, parts.1)));
    }))
    (λ _. found_none)

pub reading_sound : (form : Form) (tokens : List TokenKind) (f : FileTree) → file_of form tokens ≡ Some f → Derives form tokens f MAX_HEIGHT
reading_sound form tokens f e = (derived form tokens).is f e

pub reading_complete : (form : Form) (tokens : List TokenKind) (f : FileTree) (h : ℕ) → Derives form tokens f h → file_of form tokens ≡ Some f
unfolding file_of and_then at_end pick
reading_complete form tokens f h d =
    let r = file_complete MAX_HEIGHT h d.counts form f tokens d.derived in
    let within : r.height ≤ MAX_HEIGHT = omega (arith, r.within, d.counts) in
    let e : nat_le r.height MAX_HEIGHT ≡ true = grind (arith, nat_tests, within) in
    ap (λ o. and_then o (λ x. pick (at_end x.rest && nat_le x.height MAX_HEIGHT) (Some x.value) None)) r.is ∙ ap (λ b. pick b (Some f) None) e

pub one_file : (form : Form) (tokens : List TokenKind) (f g : FileTree) (h k : ℕ) → Derives form tokens f h → Derives form tokens g k → f ≡ g
one_file form tokens f g h k p q =
    same_Some f g (sym (reading_complete form tokens f h p) ∙ reading_complete form tokens g k q)

-- a file is derived within every greater height that counts
pub higher : (form : Form) (tokens : List TokenKind) (f : FileTree) (h k : ℕ) → h ≤ k → k ≤ MAX_HEIGHT → Derives form tokens f h → Derives form tokens f k
higher form tokens f h k up counts d =
    let r = file_complete MAX_HEIGHT h d.counts form f tokens d.derived in
    record { counts = counts; derived = (file_sound MAX_HEIGHT form tokens).is _ r.is k (omega (arith, r.within)) }
