-- What is wrong in a text that is no tool, and in which line.
use Rattle.std.specs.Prelude.{ℕ, ◌+◌, Bool, true, false, not, ◌||◌, ◌==◌, List, [], ◌∷◌, ◌++◌, length, map, filter}
use Rattle.std.specs.Prelude.{Option, Some, None, is_some, get_or, if◌then◌else◌}
use Rattle.std.specs.List.{slice_split}
use Rattle.std.specs.Str.{bytes_eq}
use Rattle.tool_text.specs.Grammar.{first_line, is_of_second, says}
use Rattle.tool_text.specs.Reading.{Places, after_byte, after_label, before_byte, code_of, label_of, line_of, op_of}
use Rattle.tool_text.specs.Reading.{operand_of, operand_texts, place_of, register_of, skip_blanks}
use Rattle.tool_text.specs.declared.op.Op.{Op}
use Rattle.tool_text.specs.declared.op.Op.TheVariants as ops
use Rattle.tool_text.specs.declared.tool.Instr.{Instr}
use Rattle.tool_faults.specs.declared.fault.LineFault.{LineFault}
use Rattle.tool_faults.specs.declared.fault.OperandKind.{OperandKind}
use Rattle.tool_faults.specs.declared.fault.OperandKind.TheVariants.{Register, Value, Label, Code}
use Rattle.tool_faults.specs.declared.fault.Wrong.{Wrong}
use Rattle.tool_faults.specs.declared.fault.Wrong.TheVariants as wrongs

-- ## Operands

-- whether a text is an operand of this kind: a register, a value, the label of a line, or an exit code
abbrev pub is_operand : Places → OperandKind → List ℕ → Bool
is_operand places Register text = is_some (register_of text)
is_operand places Value text = is_some (operand_of text)
is_operand places Label text = is_some (places text)
is_operand places Code text = is_some (code_of text)

-- the operands that an operation takes, where it is given this number of them: a listing may have a third one
abbrev pub kinds_of : Op → ℕ → List OperandKind
kinds_of ops.Set n = Register ∷ Value ∷ []
kinds_of ops.Cat n = Register ∷ Value ∷ Value ∷ []
kinds_of ops.Len n = Register ∷ Value ∷ []
kinds_of ops.Head n = Register ∷ Value ∷ Value ∷ []
kinds_of ops.Tail n = Register ∷ Value ∷ Value ∷ []
kinds_of ops.Split n = Register ∷ Register ∷ Value ∷ Value ∷ []
kinds_of ops.Arg n = Register ∷ Value ∷ Label ∷ []
kinds_of ops.Args n = Register ∷ []
kinds_of ops.Env n = Register ∷ Value ∷ Label ∷ []
kinds_of ops.Eq n = Value ∷ Value ∷ Label ∷ []
kinds_of ops.Jump n = Label ∷ []
kinds_of ops.Exit n = Code ∷ []
kinds_of ops.Say n = Value ∷ []
kinds_of ops.Read n = Register ∷ Value ∷ Label ∷ []
kinds_of ops.Probe n = Register ∷ Value ∷ []
kinds_of ops.List n = Register ∷ Value ∷ (if n == 3 then Value ∷ [] else [])
kinds_of ops.Write n = Value ∷ Value ∷ []

-- the first of the texts, numbered from this number on, that is no operand of its kind
abbrev pub first_bad : Places → ℕ → List OperandKind → List (List ℕ) → Option Wrong
first_bad places k [] texts = None
first_bad places k (kind ∷ kinds) [] = None
first_bad places k (kind ∷ kinds) (text ∷ texts) =
    if is_operand places kind text then first_bad places (k + 1) kinds texts else Some (wrongs.Operand k kind)

abbrev pub or_no_instruction : Option Wrong → Wrong
or_no_instruction None = wrongs.NoInstruction
or_no_instruction (Some wrong) = wrong

-- ## Instructions

-- why these texts are no operands of an operation: their number, or the first that is not of its kind
abbrev pub why_not_operands : Places → Op → List (List ℕ) → Wrong
why_not_operands places op texts =
    if length texts == length (kinds_of op (length texts))
    then or_no_instruction (first_bad places 1 (kinds_of op (length texts)) texts)
    else wrongs.Count (length (kinds_of op (length texts)))

-- why the words after a line's label and blanks are no instruction: the first names none, or the others are no operands
abbrev pub why_not_named : Places → Option Op → List ℕ → Wrong
why_not_named places None rest = wrongs.NoInstruction
why_not_named places (Some op) rest = why_not_operands places op (operand_texts rest)

abbrev pub why_not_words : Places → List ℕ → Wrong
why_not_words places words = why_not_named places (op_of (before_byte 32 words)) (after_byte 32 words)

-- why a line is no instruction, where it is none
abbrev pub why_not : Places → List ℕ → Wrong
why_not places line = why_not_words places (skip_blanks (after_label line))

-- What is wrong with what a line is read as: it is no instruction, or one of the second version in a tool of the
-- first.
abbrev pub read_wrong : Bool → Wrong → Option Instr → Option Wrong
read_wrong second why None = Some why
read_wrong second why (Some instr) = if second || not (is_of_second instr) then None else Some wrongs.OfSecond

abbrev pub instr_wrong : Bool → Places → List ℕ → Option Wrong
instr_wrong second places line = read_wrong second (why_not places line) (line_of places line)

-- ## Labels

-- where the first line with a line's label is, if it has one
abbrev pub first_in : Places → Option (List ℕ) → Option ℕ
first_in places None = None
first_in places (Some label) = places label

-- the label of the line at this place is that of an earlier line, which has this number
abbrev pub taken : List ℕ → ℕ → Option ℕ → Option Wrong
taken numbers place None = None
taken numbers place (Some first) = if first == place then None else Some (wrongs.LabelTaken (get_or numbers first 0))

abbrev pub label_wrong : Places → List ℕ → ℕ → List ℕ → Option Wrong
label_wrong places numbers place line = taken numbers place (first_in places (label_of line))

-- ## Lines

-- what is wrong, if something is, in the line with this number
abbrev pub fault_at : ℕ → Option Wrong → List LineFault
fault_at number None = []
fault_at number (Some wrong) = record { line = number; wrong = wrong } ∷ []

-- the numbers of the lines that say something, where the first of these has this number
abbrev pub numbers_from : ℕ → List (List ℕ) → List ℕ
numbers_from n [] = []
numbers_from n (line ∷ lines) = if says line then n ∷ numbers_from (n + 1) lines else numbers_from (n + 1) lines

-- what is wrong in a line that says something, and is the one at this place among those
abbrev pub line_faults : Bool → Places → List ℕ → ℕ → List ℕ → List LineFault
line_faults second places numbers place line =
    fault_at (get_or numbers place 0) (label_wrong places numbers place line)
    ++ fault_at (get_or numbers place 0) (instr_wrong second places line)

-- that of lines, of which the first is at this place
abbrev pub faults_from : Bool → Places → List ℕ → ℕ → List (List ℕ) → List LineFault
faults_from second places numbers place [] = []
faults_from second places numbers place (line ∷ lines) =
    line_faults second places numbers place line ++ faults_from second places numbers (place + 1) lines

-- that of all lines that say something
abbrev pub faults_in : Bool → List ℕ → List (List ℕ) → List LineFault
faults_in second numbers lines = faults_from second (place_of (map label_of lines)) numbers 0 lines

-- ## Texts

-- whether a first line says a version
abbrev pub is_version : List ℕ → Bool
is_version first = bytes_eq first (first_line true) || bytes_eq first (first_line false)

abbrev pub version_wrong : List ℕ → Option Wrong
version_wrong first = if is_version first then None else Some wrongs.NoVersion

-- whether the lines after a first line are judged as those of the second version: all do but after `tool 1`
abbrev pub is_second : List ℕ → Bool
is_second first = not (bytes_eq first (first_line false))

abbrev pub faults_of_lines : List (List ℕ) → List LineFault
faults_of_lines [] = fault_at 1 (Some wrongs.NoVersion)
faults_of_lines (first ∷ rest) =
    fault_at 1 (version_wrong first) ++ faults_in (is_second first) (numbers_from 2 rest) (filter says rest)

-- What is wrong in a text, by line: its first line says no version, a line has the label of an earlier one, or it is
-- no instruction of the version.
abbrev pub faults_of : List ℕ → List LineFault
faults_of text = faults_of_lines (slice_split (λ b. b == 10) text)

-- the numbers of the lines that say something, but for the first line
abbrev pub numbers_of_lines : List (List ℕ) → List ℕ
numbers_of_lines [] = []
numbers_of_lines (first ∷ rest) = numbers_from 2 rest

abbrev pub numbers_of : List ℕ → List ℕ
numbers_of text = numbers_of_lines (slice_split (λ b. b == 10) text)
