-- Tools as they were read before there were listings with a pattern: the first line is fixed, and `list` has two operands.
-- Which tools are of the second version, which there was not then.
use Rattle.std.specs.Prelude.{◌≢◌, ℕ, true, ◌==◌, List, [], ◌∷◌, map, codes, filter, Option, Some, None, option_map, option_and_then}
use Rattle.std.specs.Prelude.{if◌then◌else◌}
use Rattle.std.specs.List.{slice_split}
use Rattle.std.specs.Str.{bytes_eq}
use Rattle.tool_text.specs.Grammar.{IsTool, says}
use Rattle.tool_text.specs.Reading.{Places, after_byte, after_label, are_distinct, before_byte, code_of, label_of, lone, op_of}
use Rattle.tool_text.specs.Reading.{operand_of, operand_texts, place_of, register_of, register_operand, register_target}
use Rattle.tool_text.specs.Reading.{register_two, skip_blanks, split_of, two_operands, two_target, with_line}
use Rattle.tool_text.specs.declared.tool.Instr.{Instr}
use Rattle.tool_text.specs.declared.tool.Instr.TheVariants as instrs
use Rattle.tool_text.specs.declared.op.Op.{Op}
use Rattle.tool_text.specs.declared.op.Op.TheVariants as ops

-- the first line of each tool
abbrev pub first_line : List ℕ
first_line = codes "tool 1"

-- the instruction of this operation with these operands
abbrev pub instr_of : Places → Op → List (List ℕ) → Option Instr
instr_of places ops.Set texts = option_map (λ p. instrs.Set p.0 p.1) (register_operand texts)
instr_of places ops.Cat texts = option_map (λ p. instrs.Cat p.0 p.1 p.2) (register_two texts)
instr_of places ops.Len texts = option_map (λ p. instrs.Len p.0 p.1) (register_operand texts)
instr_of places ops.Head texts = option_map (λ p. instrs.Head p.0 p.1 p.2) (register_two texts)
instr_of places ops.Tail texts = option_map (λ p. instrs.Tail p.0 p.1 p.2) (register_two texts)
instr_of places ops.Split texts = split_of texts
instr_of places ops.Arg texts = option_map (λ p. instrs.Arg p.0 p.1 p.2) (register_target places texts)
instr_of places ops.Args texts = option_map instrs.Args (option_and_then register_of (lone texts))
instr_of places ops.Env texts = option_map (λ p. instrs.Env p.0 p.1 p.2) (register_target places texts)
instr_of places ops.Eq texts = option_map (λ p. instrs.Eq p.0 p.1 p.2) (two_target places texts)
instr_of places ops.Jump texts = option_map instrs.Jump (option_and_then places (lone texts))
instr_of places ops.Exit texts = option_map instrs.Exit (option_and_then code_of (lone texts))
instr_of places ops.Say texts = option_map instrs.Say (option_and_then operand_of (lone texts))
instr_of places ops.Read texts = option_map (λ p. instrs.Read p.0 p.1 p.2) (register_target places texts)
instr_of places ops.Probe texts = option_map (λ p. instrs.Probe p.0 p.1) (register_operand texts)
instr_of places ops.List texts = option_map (λ p. instrs.List p.0 p.1) (register_operand texts)
instr_of places ops.Write texts = option_map (λ p. instrs.Write p.0 p.1) (two_operands texts)

abbrev pub instr_in : Places → List ℕ → Option Instr
instr_in places text =
    option_and_then (λ op. instr_of places op (operand_texts (after_byte 32 text)))
    (op_of (before_byte 32 text))

-- ## Lines

abbrev pub line_of : Places → List ℕ → Option Instr
line_of places line = instr_in places (skip_blanks (after_label line))

abbrev pub lines_of : Places → List (List ℕ) → Option (List Instr)
lines_of places [] = Some []
lines_of places (line ∷ lines) = with_line (line_of places line) (lines_of places lines)

abbrev pub tool_in : List (List ℕ) → Option (List Instr)
tool_in lines =
    if are_distinct (map label_of lines) then lines_of (place_of (map label_of lines)) lines else None

abbrev pub tool_from : List (List ℕ) → Option (List Instr)
tool_from [] = None
tool_from (first ∷ rest) = if bytes_eq first first_line then tool_in (filter says rest) else None

-- the tool that has this text, if there is one
abbrev pub tool_of : List ℕ → Option (List Instr)
tool_of text = tool_from (slice_split (λ b. b == 10) text)

-- the text is no tool of the second version
abbrev pub IsNoSecond : List ℕ → Type 0
IsNoSecond text = (tool : List Instr) (t : IsTool text tool) → t.second ≢ true
