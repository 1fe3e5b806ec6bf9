-- A text that has a file's tokens reads as the file.
use Rattle.std.proofs.Common.{◌≡◌, ℕ, List, sym, subst, ◌∙◌}
use Rattle.dscript_lex.specs.declared.token.TokenKind.{TokenKind}
use Rattle.dscript_grammar.specs.Derives.{Derives}
use Rattle.dscript_ast.specs.FileTree.{FileTree}
use Rattle.dscript_print_tokens.specs.Spellable.{AreSpellable, HasKinds}
use Rattle.dscript_print.specs.FileKinds.{file_kinds}
use Rattle.dscript_print.specs.Printing.{Prints}
use Rattle.dscript_print.proofs.Sources.{derived, written}

reads_again : (printed : List ℕ) (file : FileTree) (kinds : List TokenKind) → HasKinds printed kinds → kinds ≡ file_kinds file → Prints printed file
reads_again printed file kinds has is form text height reads =
    record {
      tokens = has.tokens;
      are = has.are;
      derive = subst (λ (ks : List TokenKind). Derives form ks file height) (sym is ∙ sym has.same) (derived form text reads.tokens file height reads.are reads.derive);
    }

pub prints : (printed : List ℕ) (file : FileTree) (kinds : List TokenKind) → (AreSpellable kinds → HasKinds printed kinds) → kinds ≡ file_kinds file → Prints printed file
prints printed file kinds has is form text height reads =
    let spellable : AreSpellable kinds = subst AreSpellable (sym is) (written form text reads.tokens file height reads.are reads.derive) in
    reads_again printed file kinds (has spellable) is form text height reads
