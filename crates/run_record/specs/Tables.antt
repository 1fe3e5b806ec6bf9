-- Tools that were read.
use Rattle.std.specs.Prelude.{◌≡◌, ℕ, List, Option}
use Rattle.tool_text.specs.declared.tool.Instr.{Instr}
use Rattle.tool_text.specs.Reading.{tool_of}

-- The text of an executable, with the tool that it is, or none. What was read of a text is used for that text alone.
pub record ReadText : Type 0 where
  pub text : List ℕ
  pub tool : Option (List Instr)

abbrev pub IsReadOf : ReadText → Type 0
IsReadOf r = tool_of r.text ≡ r.tool
