-- The cause of each fault.
use Rattle.std.specs.Prelude.{ℕ, List, ⊤}
use Rattle.dscript_ast.specs.declared.file.Form.{Form}
use Rattle.dscript_parse.specs.declared.read_fault.ReadFault.{ReadFault}
use Rattle.dscript_parse.specs.declared.read_fault.ReadFault.TheVariants as faults
use Rattle.dscript_parse.specs.Reading.{HasNoTokens, IsNoFile}

-- the text is refused with this fault; running out of memory has no cause that is stated
abbrev pub Refuses : Form → List ℕ → ReadFault → Type 0
Refuses form text (faults.Lex place) = HasNoTokens text place
Refuses form text (faults.Syntax place) = IsNoFile form text place
Refuses form text faults.Memory = ⊤
