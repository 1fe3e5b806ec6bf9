-- A text comes to one reading at most as a file of a form.
use Rattle.std.proofs.Common.{◌≡◌, ℕ, List, ap, sym, subst, ◌∙◌}
use Rattle.dscript_lex.specs.declared.token.Token.{Token}
use Rattle.dscript_lex.proofs.OneReading.{no_tokens, one_reading as one_list, one_place as one_byte}
use Rattle.dscript_ast.specs.FileTree.{FileTree}
use Rattle.dscript_ast.specs.declared.file.Form.{Form}
use Rattle.dscript_grammar.specs.Derives.{Derives}
use Rattle.dscript_grammar.specs.Place.{IsRefusedAt}
use Rattle.dscript_grammar.proofs.FileLaws.{one_file as one_file_of}
use Rattle.dscript_grammar.proofs.Places.{one_place as one_place_of}
use Rattle.dscript_program.specs.declared.place.Place.{Place}
use Rattle.dscript_parse.specs.Places.{place_of, start_of}
use Rattle.dscript_parse.specs.Reading.{Reading, Read, NoTokens, NoFile, ReadsAs, kinds_of}
use Rattle.dscript_parse.specs.Reading.{HasNoTokens, IsFile, IsNoFile}

-- a text is one file
pub one_file : (form : Form) (text : List ℕ) (f g : FileTree) → IsFile form text f → IsFile form text g → f ≡ g
one_file form text f g h k =
    one_file_of form (kinds_of k.0) f g h.2 k.2
    (subst (λ (ts : List Token). Derives form (kinds_of ts) f h.2) (one_list text h.0 k.0 h.1 k.1) h.3) k.3

pub file_or_none : (form : Form) (text : List ℕ) (f : FileTree) (place : Place)
    → IsFile form text f → IsNoFile form text place → ⊥
file_or_none form text f place h k =
    k.3.no_file f h.2
    (subst (λ (ts : List Token). Derives form (kinds_of ts) f h.2) (one_list text h.0 k.0 h.1 k.1) h.3)

pub no_tokens_or_file : (form : Form) (text : List ℕ) (f : FileTree) (place : Place)
    → HasNoTokens text place → IsFile form text f → ⊥
no_tokens_or_file form text f place none h = no_tokens text none.0 h.0 none.1 h.1

pub no_tokens_or_no_file : (form : Form) (text : List ℕ) (p q : Place)
    → HasNoTokens text p → IsNoFile form text q → ⊥
no_tokens_or_no_file form text p q none h = no_tokens text none.0 h.0 none.1 h.1

-- a text without tokens fails at one place
pub one_failure : (text : List ℕ) (p q : Place) → HasNoTokens text p → HasNoTokens text q → p ≡ q
one_failure text p q h k = h.2 ∙ ap (place_of text) (one_byte text h.0 k.0 h.1 k.1) ∙ sym k.2

-- tokens are refused at one place
pub one_refusal : (form : Form) (text : List ℕ) (p q : Place) → IsNoFile form text p → IsNoFile form text q → p ≡ q
one_refusal form text p q h k =
    let is = one_list text h.0 k.0 h.1 k.1 in
    let at : h.2 ≡ k.2 = one_place_of form (kinds_of k.0) h.2 k.2
    (subst (λ (ts : List Token). IsRefusedAt form (kinds_of ts) h.2) is h.3).place k.3.place in
    h.4 ∙ ap (λ (ts : List Token). place_of text (start_of text ts h.2)) is
    ∙ ap (λ n. place_of text (start_of text k.0 n)) at ∙ sym k.4

pub one_reading : (form : Form) (text : List ℕ) (r s : Reading)
    → ReadsAs form text r → ReadsAs form text s → r ≡ s
one_reading form text (Read f) (Read g) h k = ap Read (one_file form text f g h k)
one_reading form text (Read f) (NoTokens q) h k = absurd (no_tokens_or_file form text f q k h)
one_reading form text (Read f) (NoFile q) h k = absurd (file_or_none form text f q h k)
one_reading form text (NoTokens p) (Read g) h k = absurd (no_tokens_or_file form text g p h k)
one_reading form text (NoTokens p) (NoTokens q) h k = ap NoTokens (one_failure text p q h k)
one_reading form text (NoTokens p) (NoFile q) h k = absurd (no_tokens_or_no_file form text p q h k)
one_reading form text (NoFile p) (Read g) h k = absurd (file_or_none form text g p k h)
one_reading form text (NoFile p) (NoTokens q) h k = absurd (no_tokens_or_no_file form text q p k h)
one_reading form text (NoFile p) (NoFile q) h k = ap NoFile (one_refusal form text p q h k)
