-- From what is read at the start of the tokens to the file that all of them are, and to what is derived.
use Rattle.std.proofs.Common.{◌≡◌, ℕ, ◌≤◌, ◌&&◌, true, false, nat_le, List, Some, None, Result, Ok, Err, IfOk, MatchResult, ap, sym, ◌∙◌, arith}
use Rattle.std.proofs.lemmas.Bool.Decides.{nat_tests}
use Rattle.std.proofs.lemmas.Option.{same_Some}
use Rattle.dscript_lex.specs.declared.token.TokenKind.{TokenKind}
use Rattle.dscript_ast.specs.FileTree.{FileTree}
use Rattle.dscript_ast.specs.Views.{file_tree}
use Rattle.dscript_ast.specs.declared.file.File.{File}
use Rattle.dscript_ast.specs.declared.file.Form.{Form}
use Rattle.dscript_grammar.specs.Derives.{Derives}
use Rattle.dscript_grammar.specs.FileReading.{at_end, file_of, read_file}
use Rattle.dscript_grammar.specs.Place.{IsPlace}
use Rattle.dscript_grammar.specs.Reading.{got, pick}
use Rattle.dscript_grammar.specs.declared.height.TheConstants.{MAX_HEIGHT}
use Rattle.dscript_grammar.proofs.FileLaws.{reading_sound, reading_complete}
use Rattle.dscript_grammar.proofs.Places.{refused_at}
use Rattle.dscript_parse.specs.Refuses.{Finishes, Refuses}
use Rattle.dscript_parse.specs.declared.fault.SyntaxFault.{SyntaxFault}
use Rattle.dscript_parse.specs.declared.fault.SyntaxFault.TheVariants as faults
use Rattle.dscript_parse_tokens.specs.Gives.{Gives}
use Rattle.dscript_parse_tokens.specs.declared.parsed.Parsed.{Parsed}
use Rattle.dscript_parse_tokens.specs.declared.parsed.Refusal.{Refusal}
use Rattle.dscript_parse_tokens.specs.declared.parsed.Refusal.TheVariants as refusals
use Rattle.dscript_parse_tokens.proofs.Loops.{then_some, then_none}

-- what is read, by the reader of whole files
abbrev pub IsRead : Form → List TokenKind → Result File SyntaxFault → Type 0
IsRead form ts result = MatchResult result (λ file. file_of form ts ≡ Some (file_tree file)) (λ fault. Refuses fault form ts)

whole_read : (form : Form) (ts : List TokenKind) (file : FileTree) (height : ℕ) (rest : List TokenKind)
    → read_file MAX_HEIGHT form ts ≡ got file height rest → height ≤ MAX_HEIGHT → at_end rest ≡ true → file_of form ts ≡ Some file
unfolding file_of pick
whole_read form ts file height rest is low e =
    let counts : nat_le height MAX_HEIGHT ≡ true = grind (arith, nat_tests, low) in
    then_some _ is ∙ ap (λ b. pick (b && nat_le height MAX_HEIGHT) (Some file) None) e ∙ ap (λ b. pick b (Some file) None) counts

more_left : (form : Form) (ts : List TokenKind) (file : FileTree) (height : ℕ) (rest : List TokenKind)
    → read_file MAX_HEIGHT form ts ≡ got file height rest → at_end rest ≡ false → file_of form ts ≡ None
unfolding file_of pick
more_left form ts file height rest is e = then_some _ is ∙ ap (λ b. pick (b && nat_le height MAX_HEIGHT) (Some file) None) e

nothing_read : (form : Form) (ts : List TokenKind) → read_file MAX_HEIGHT form ts ≡ None → file_of form ts ≡ None
unfolding file_of
nothing_read form ts none = then_none _ none

-- a configuration, which is refused at its first token
pub finished : (form : Form) (ts : List TokenKind) (bound : ℕ) (read : Result (Parsed File) Refusal) (result : Result File SyntaxFault)
    → ((n : ℕ) → n ≡ 0 → IsPlace form ts n) → Gives file_tree (read_file MAX_HEIGHT form ts) MAX_HEIGHT bound read → Finishes read result → IsRead form ts result
finished form ts bound (Ok p) (Ok file) place g m =
    whole_read form ts _ _ _ g.is g.within m.1 ∙ ap (λ f. Some (file_tree f)) m.0
finished form ts bound (Ok p) (Err (faults.Syntax n)) place g m = refused_at form ts n (more_left form ts _ _ _ g.is m.1) (place n m.0)
finished form ts bound (Ok p) (Err faults.Memory) place g m = absurd m
finished form ts bound (Err refusals.Syntax) (Ok file) place g m = absurd m
finished form ts bound (Err refusals.Memory) (Ok file) place g m = absurd m
finished form ts bound (Err refusals.Syntax) (Err (faults.Syntax n)) place g m = refused_at form ts n (nothing_read form ts g) (place n m)
finished form ts bound (Err refusals.Syntax) (Err faults.Memory) place g m = absurd m
finished form ts bound (Err refusals.Memory) (Err (faults.Syntax n)) place g m = absurd m
finished form ts bound (Err refusals.Memory) (Err faults.Memory) place g m = tt

-- from what is read to what is derived
pub file_derived : (form : Form) (ts : List TokenKind) (result : Result File SyntaxFault) → IsRead form ts result
    → MatchResult result (λ file. Derives form ts (file_tree file) MAX_HEIGHT) (λ fault. Refuses fault form ts)
file_derived form ts (Ok file) is = reading_sound form ts _ is
file_derived form ts (Err fault) refuses = refuses

pub file_only : (form : Form) (ts : List TokenKind) (result : Result File SyntaxFault) → IsRead form ts result
    → IfOk result (λ file. (other : FileTree) (height : ℕ) → Derives form ts other height → other ≡ file_tree file)
file_only form ts (Ok file) is = λ other height d. same_Some _ _ (sym (reading_complete form ts other height d) ∙ is)
file_only form ts (Err fault) e = tt
