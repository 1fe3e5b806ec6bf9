-- The tokens of a text have spellings.
use Rattle.std.proofs.Common.{◌≡◌, ℕ, ◌+◌, Bool, List, [], ◌∷◌, ◌++◌, map, length, Some, sym, subst}
use Rattle.dscript_lex.specs.declared.token.Token.{Token}
use Rattle.dscript_lex.specs.declared.token.TokenKind.{TokenKind}
use Rattle.dscript_lex.specs.declared.brackets.Bracket.{Bracket}
use Rattle.dscript_lex.specs.declared.lexeme.LexemeKind.{LexemeKind}
use Rattle.dscript_lex.specs.declared.lexeme.LexemeKind.TheVariants.{Blank, Comment, Spelled}
use Rattle.dscript_lex.specs.Lexemes.{lexeme_of}
use Rattle.dscript_lex.specs.Tokens.{Lexeme, CutTo, in_hole, brackets_after, token_of, tokens_of, mark_len, AreTokens}
use Rattle.dscript_grammar.specs.Derives.{Derives}
use Rattle.dscript_ast.specs.FileTree.{FileTree}
use Rattle.dscript_ast.specs.declared.file.Form.{Form}
use Rattle.dscript_print_tokens.specs.Spellable.{AreSpellable}
use Rattle.dscript_print.specs.FileKinds.{file_kinds}
use Rattle.dscript_print.proofs.Reprint.{AllSpell}
use Rattle.dscript_print.proofs.FileReprint.{derived_again, can_be_written}

abbrev kinds_of : List Token → List TokenKind
kinds_of tokens = map (λ t. t.kind) tokens

lexeme_spells : (in_a_hole : Bool) (text : List ℕ) (kind : LexemeKind) (start end : ℕ) (more : List Token) → lexeme_of in_a_hole text ≡ Some kind → AllSpell (kinds_of more) → AllSpell (kinds_of (token_of start end kind ++ more))
lexeme_spells h text (Spelled k) start end more e p = ((h, record { text = text; is = e }), p)
lexeme_spells h text Blank start end more e p = p
lexeme_spells h text Comment start end more e p = p

lexemes_spell : (before after : List Bracket) (ls : List Lexeme) (start : ℕ) (rest : List ℕ) → CutTo before ls rest after → AllSpell (kinds_of (tokens_of start ls))
lexemes_spell before after [] start rest c = tt
lexemes_spell before after (l ∷ ls) start rest c =
    lexeme_spells (in_hole before) l.text l.kind start (start + length l.text) (tokens_of (start + length l.text) ls) c.0.lexeme.is
    (lexemes_spell (brackets_after l.kind before) after ls (start + length l.text) rest c.1)

all_spell : (source : List ℕ) (tokens : List Token) → AreTokens source tokens → AllSpell (kinds_of tokens)
all_spell source tokens are =
    subst (λ (ts : List Token). AllSpell (kinds_of ts)) (sym are.spelled) (lexemes_spell [] are.open_brackets are.lexemes (mark_len source) [] are.cut.longest)

pub derived : (form : Form) (source : List ℕ) (tokens : List Token) (file : FileTree) (height : ℕ) → AreTokens source tokens → Derives form (map (λ t. t.kind) tokens) file height → Derives form (file_kinds file) file height
derived form source tokens file height are d = derived_again form (kinds_of tokens) file height (all_spell source tokens are) d

pub written : (form : Form) (source : List ℕ) (tokens : List Token) (file : FileTree) (height : ℕ) → AreTokens source tokens → Derives form (map (λ t. t.kind) tokens) file height → AreSpellable (file_kinds file)
written form source tokens file height are d = can_be_written form (kinds_of tokens) file height (all_spell source tokens are) d
