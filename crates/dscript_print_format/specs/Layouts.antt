-- What it means that a text is laid out, and why one is not.
use Rattle.std.specs.Prelude.{ℕ, List, map}
use Rattle.dscript_lex.specs.declared.token.Token.{Token}
use Rattle.dscript_lex.specs.Tokens.{AreTokens, FailsAt}
use Rattle.dscript_ast.specs.declared.file.Form.{Form}
use Rattle.dscript_ast.specs.FileTree.{FileTree}
use Rattle.dscript_grammar.specs.Place.{IsRefusedAt}
use Rattle.dscript_print.specs.Printing.{TextDerives}
use Rattle.dscript_print_format.specs.declared.fault.LayoutFault.{LayoutFault}
use Rattle.dscript_print_format.specs.declared.fault.LayoutFault.TheVariants as faults

-- Both texts are parsed to one file, by this form and within one height.
pub record IsLaidOut (form : Form) (text laid : List ℕ) : Type 0 where
  pub file : FileTree
  pub height : ℕ
  pub was : TextDerives form text file height
  pub is : TextDerives form laid file height

-- The text fails at this byte, or its tokens are refused at this place. Out of memory says nothing of it.
abbrev pub Refuses : LayoutFault → Form → List ℕ → Type 0
Refuses (faults.Lex at) form text = FailsAt text at
Refuses (faults.Syntax at) form text =
    (tokens : List Token) × AreTokens text tokens × IsRefusedAt form (map (λ t. t.kind) tokens) at
Refuses faults.Memory form text = Unit {0}
