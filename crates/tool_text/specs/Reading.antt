-- What a text is read as: the tool that the grammar gives it, by functions on lists.
use Rattle.std.specs.Prelude.{ℕ, suc, ◌+◌, ◌≡◌, Bool, true, false, not, ◌&&◌, ◌||◌, ◌==◌, nat_lt, nat_le}
use Rattle.std.specs.Prelude.{slice_index, List, [], ◌∷◌, ◌++◌, length, map, reverse, codes, filter, Option}
use Rattle.std.specs.Prelude.{Some, None, Result, Ok, Err, option_map, option_and_then, if◌then◌else◌}
use Rattle.std.specs.List.{list_all, list_any, slice_split, before_first, after_first, onto_first}
use Rattle.std.specs.Str.{bytes_eq}
use Rattle.std.specs.Str.Parse.{digits_value}
use Rattle.tool_text.specs.Grammar.{Labels, first_line, is_digit, is_in_version, is_lower, says}
use Rattle.tool_text.specs.declared.limits.TheConstants.{REGISTERS, MAX_EXIT}
use Rattle.tool_text.specs.declared.fault.ToolFault.{ToolFault}
use Rattle.tool_text.specs.declared.fault.ToolFault.TheVariants as faults
use Rattle.tool_text.specs.declared.tool.Operand.{Operand}
use Rattle.tool_text.specs.declared.tool.Operand.TheVariants.{Register, Constant}
use Rattle.tool_text.specs.declared.tool.Instr.{Instr}
use Rattle.tool_text.specs.declared.tool.Instr.TheVariants as instrs
use Rattle.tool_text.specs.declared.op.Op.{Op}
use Rattle.tool_text.specs.declared.op.Op.TheVariants as ops
use Rattle.tool_text.specs.declared.separating.Quoting.{Quoting}
use Rattle.tool_text.specs.declared.separating.Quoting.TheVariants.{Outside, Inside, Escaped}

-- A reader gives what the function on lists gives, unless memory ran out.
abbrev pub ReadsTool : {X : Type 0} → Result X ToolFault → Option X → Type 0
ReadsTool (Ok x) read = read ≡ Some x
ReadsTool (Err faults.BadTool) read = read ≡ None
ReadsTool (Err faults.Memory) read = Unit {0}

-- ## Operands

abbrev pub is_digits : List ℕ → Bool
is_digits text = nat_lt 0 (length text) && list_all is_digit text

-- whether a text is a number: `0`, or digits without a leading zero
abbrev pub is_number : List ℕ → Bool
is_number text = is_digits text && (nat_le (length text) 1 || not (slice_index text 0 == 48))

abbrev pub is_label_byte : ℕ → Bool
is_label_byte b = is_lower b || is_digit b

abbrev pub is_label : List ℕ → Bool
is_label [] = false
is_label (b ∷ bs) = is_lower b && list_all is_label_byte bs

-- the value of digits, below a limit
abbrev pub value_below : ℕ → List ℕ → Option ℕ
value_below limit digits =
    if nat_lt (digits_value 10 digits) limit then Some (digits_value 10 digits) else None

-- the register whose number has these digits
abbrev pub numbered : List ℕ → Option ℕ
numbered digits = if is_number digits then value_below REGISTERS digits else None

abbrev pub register_of : List ℕ → Option ℕ
register_of [] = None
register_of (b ∷ bs) = if b == 114 then numbered bs else None

-- the byte that follows a `\` in a string stands for this one
abbrev pub escape_of : ℕ → Option ℕ
escape_of c =
    if c == 110 then Some 10 else
    (if c == 116 then Some 9 else
    (if c == 34 || c == 92 then Some c else None))

abbrev pub with_byte : Option ℕ → Option (List ℕ) → Option (List ℕ)
with_byte None bytes = None
with_byte (Some b) None = None
with_byte (Some b) (Some bytes) = Some (b ∷ bytes)

-- the bytes of a string, from after its first `"` to the last, which ends the text
abbrev pub string_rest : List ℕ → Option (List ℕ)
string_rest [] = None
string_rest (b ∷ []) = if b == 34 then Some [] else None
string_rest (b ∷ c ∷ bs) =
    if b == 34 then None else
    (if b == 92 then with_byte (escape_of c) (string_rest bs) else
    (if b == 10 then None else with_byte (Some b) (string_rest (c ∷ bs))))

-- bytes before those that were read
abbrev pub after_bytes : List ℕ → Option (List ℕ) → Option (List ℕ)
after_bytes prefix None = None
after_bytes prefix (Some bytes) = Some (prefix ++ bytes)

abbrev pub operand_of : List ℕ → Option Operand
operand_of [] = None
operand_of (b ∷ bs) =
    if b == 114 then option_map Register (numbered bs) else
    (if b == 34 then option_map Constant (string_rest bs) else
    (if is_digits (b ∷ bs) then Some (Constant (b ∷ bs)) else None))

abbrev pub code_of : List ℕ → Option ℕ
code_of text = if is_digits text then value_below (MAX_EXIT + 1) text else None

-- ## Labels

-- the place of the first line with this label, counted from a number
abbrev pub place_from : ℕ → Labels → List ℕ → Option ℕ
place_from i [] label = None
place_from i (None ∷ rest) label = place_from (i + 1) rest label
place_from i (Some own ∷ rest) label = if bytes_eq own label then Some i else place_from (i + 1) rest label

abbrev pub place_of : Labels → List ℕ → Option ℕ
place_of labels label = place_from 0 labels label

-- where each label is
abbrev pub Places : Type 0
Places = List ℕ → Option ℕ

abbrev pub has_label : List ℕ → Option (List ℕ) → Bool
has_label label None = false
has_label label (Some own) = bytes_eq label own

abbrev pub are_distinct : Labels → Bool
are_distinct [] = true
are_distinct (None ∷ rest) = are_distinct rest
are_distinct (Some label ∷ rest) = not (list_any (has_label label) rest) && are_distinct rest

-- ## Operands of a line

abbrev pub is_space : ℕ → Bool
is_space b = b == 32

abbrev pub skip_spaces : List ℕ → List ℕ
skip_spaces [] = []
skip_spaces (b ∷ bs) = if b == 32 then skip_spaces bs else b ∷ bs

-- a text without the spaces around it
abbrev pub trimmed : List ℕ → List ℕ
trimmed text = reverse (skip_spaces (reverse (skip_spaces text)))

-- whether the next byte is in a string, and whether a `\` precedes it there
abbrev pub quoting_after : Quoting → ℕ → Quoting
quoting_after Outside b = if b == 34 then Inside else Outside
quoting_after Inside b = if b == 34 then Outside else (if b == 92 then Escaped else Inside)
quoting_after Escaped b = Inside

abbrev pub is_cut : Quoting → ℕ → Bool
is_cut Outside b = b == 44
is_cut Inside b = false
is_cut Escaped b = false

-- the parts of a text between its commas, but for those in strings
abbrev pub separated : Quoting → List ℕ → List (List ℕ)
separated q [] = [] ∷ []
separated q (b ∷ bs) =
    if is_cut q b then [] ∷ separated Outside bs else onto_first b (separated (quoting_after q b) bs)

-- the length of a text's first part
abbrev pub part_len : Quoting → List ℕ → ℕ
part_len q [] = 0
part_len q (b ∷ bs) = if is_cut q b then 0 else suc (part_len (quoting_after q b) bs)

abbrev pub operand_texts : List ℕ → List (List ℕ)
operand_texts text = map trimmed (separated Outside text)

abbrev pub both : {A B : Type 0} → Option A → Option B → Option (A × B)
both None b = None
both (Some a) None = None
both (Some a) (Some b) = Some (a, b)

abbrev pub all_three : {A B C : Type 0} → Option A → Option B → Option C → Option (A × B × C)
all_three None b c = None
all_three (Some a) None c = None
all_three (Some a) (Some b) None = None
all_three (Some a) (Some b) (Some c) = Some (a, b, c)

-- the texts, where there is just this number of them
abbrev pub lone : List (List ℕ) → Option (List ℕ)
lone [] = None
lone (a ∷ []) = Some a
lone (a ∷ b ∷ rest) = None

abbrev pub pair : List (List ℕ) → Option (List ℕ × List ℕ)
pair [] = None
pair (a ∷ []) = None
pair (a ∷ b ∷ []) = Some (a, b)
pair (a ∷ b ∷ c ∷ rest) = None

abbrev pub triple : List (List ℕ) → Option (List ℕ × List ℕ × List ℕ)
triple [] = None
triple (a ∷ []) = None
triple (a ∷ b ∷ []) = None
triple (a ∷ b ∷ c ∷ []) = Some (a, b, c)
triple (a ∷ b ∷ c ∷ e ∷ rest) = None

abbrev pub quadruple : List (List ℕ) → Option (List ℕ × List ℕ × List ℕ × List ℕ)
quadruple [] = None
quadruple (a ∷ []) = None
quadruple (a ∷ b ∷ []) = None
quadruple (a ∷ b ∷ c ∷ []) = None
quadruple (a ∷ b ∷ c ∷ e ∷ []) = Some (a, b, c, e)
quadruple (a ∷ b ∷ c ∷ e ∷ f ∷ rest) = None

abbrev pub register_operand : List (List ℕ) → Option (ℕ × Operand)
register_operand texts = option_and_then (λ p. both (register_of p.0) (operand_of p.1)) (pair texts)

abbrev pub two_operands : List (List ℕ) → Option (Operand × Operand)
two_operands texts = option_and_then (λ p. both (operand_of p.0) (operand_of p.1)) (pair texts)

abbrev pub register_two : List (List ℕ) → Option (ℕ × Operand × Operand)
register_two texts =
    option_and_then (λ p. all_three (register_of p.0) (operand_of p.1) (operand_of p.2)) (triple texts)

abbrev pub register_target : Places → List (List ℕ) → Option (ℕ × Operand × ℕ)
register_target places texts =
    option_and_then (λ p. all_three (register_of p.0) (operand_of p.1) (places p.2)) (triple texts)

abbrev pub two_target : Places → List (List ℕ) → Option (Operand × Operand × ℕ)
two_target places texts =
    option_and_then (λ p. all_three (operand_of p.0) (operand_of p.1) (places p.2)) (triple texts)

abbrev pub with_pair : Option (ℕ × ℕ) → Option (Operand × Operand) → Option Instr
with_pair None operands = None
with_pair (Some registers) None = None
with_pair (Some registers) (Some operands) = Some (instrs.Split registers.0 registers.1 operands.0 operands.1)

abbrev pub split_of : List (List ℕ) → Option Instr
split_of texts =
    option_and_then
    (λ p. with_pair (both (register_of p.0) (register_of p.1)) (both (operand_of p.2) (operand_of p.3)))
    (quadruple texts)

abbrev pub full_listing : List (List ℕ) → Option Instr
full_listing texts = option_map (λ p. instrs.List p.0 p.1) (register_operand texts)

abbrev pub matching_listing : List (List ℕ) → Option Instr
matching_listing texts = option_map (λ p. instrs.Match p.0 p.1 p.2) (register_two texts)

-- a listing: with a third operand it is one by a pattern
abbrev pub listing_of : List (List ℕ) → Option Instr
listing_of texts = if length texts == 3 then matching_listing texts else full_listing texts

-- ## Instructions

abbrev pub op_of : List ℕ → Option Op
op_of word =
    if bytes_eq word (codes "set") then Some ops.Set else
    (if bytes_eq word (codes "cat") then Some ops.Cat else
    (if bytes_eq word (codes "len") then Some ops.Len else
    (if bytes_eq word (codes "head") then Some ops.Head else
    (if bytes_eq word (codes "tail") then Some ops.Tail else
    (if bytes_eq word (codes "split") then Some ops.Split else
    (if bytes_eq word (codes "arg") then Some ops.Arg else
    (if bytes_eq word (codes "args") then Some ops.Args else
    (if bytes_eq word (codes "env") then Some ops.Env else
    (if bytes_eq word (codes "eq") then Some ops.Eq else
    (if bytes_eq word (codes "jump") then Some ops.Jump else
    (if bytes_eq word (codes "exit") then Some ops.Exit else
    (if bytes_eq word (codes "say") then Some ops.Say else
    (if bytes_eq word (codes "read") then Some ops.Read else
    (if bytes_eq word (codes "probe") then Some ops.Probe else
    (if bytes_eq word (codes "list") then Some ops.List else
    (if bytes_eq word (codes "write") then Some ops.Write else None))))))))))))))))

-- the instruction of this operation with these operands
abbrev pub instr_of : Places → Op → List (List ℕ) → Option Instr
instr_of places ops.Set texts = option_map (λ p. instrs.Set p.0 p.1) (register_operand texts)
instr_of places ops.Cat texts = option_map (λ p. instrs.Cat p.0 p.1 p.2) (register_two texts)
instr_of places ops.Len texts = option_map (λ p. instrs.Len p.0 p.1) (register_operand texts)
instr_of places ops.Head texts = option_map (λ p. instrs.Head p.0 p.1 p.2) (register_two texts)
instr_of places ops.Tail texts = option_map (λ p. instrs.Tail p.0 p.1 p.2) (register_two texts)
instr_of places ops.Split texts = split_of texts
instr_of places ops.Arg texts = option_map (λ p. instrs.Arg p.0 p.1 p.2) (register_target places texts)
instr_of places ops.Args texts = option_map instrs.Args (option_and_then register_of (lone texts))
instr_of places ops.Env texts = option_map (λ p. instrs.Env p.0 p.1 p.2) (register_target places texts)
instr_of places ops.Eq texts = option_map (λ p. instrs.Eq p.0 p.1 p.2) (two_target places texts)
instr_of places ops.Jump texts = option_map instrs.Jump (option_and_then places (lone texts))
instr_of places ops.Exit texts = option_map instrs.Exit (option_and_then code_of (lone texts))
instr_of places ops.Say texts = option_map instrs.Say (option_and_then operand_of (lone texts))
instr_of places ops.Read texts = option_map (λ p. instrs.Read p.0 p.1 p.2) (register_target places texts)
instr_of places ops.Probe texts = option_map (λ p. instrs.Probe p.0 p.1) (register_operand texts)
instr_of places ops.List texts = listing_of texts
instr_of places ops.Write texts = option_map (λ p. instrs.Write p.0 p.1) (two_operands texts)

-- what precedes the first such byte, and what follows it
abbrev pub before_byte : ℕ → List ℕ → List ℕ
before_byte c text = before_first (λ b. b == c) text

abbrev pub after_byte : ℕ → List ℕ → List ℕ
after_byte c text = after_first (λ b. b == c) text

abbrev pub instr_in : Places → List ℕ → Option Instr
instr_in places text =
    option_and_then (λ op. instr_of places op (operand_texts (after_byte 32 text)))
    (op_of (before_byte 32 text))

-- ## Lines

abbrev pub skip_blanks : List ℕ → List ℕ
skip_blanks [] = []
skip_blanks (b ∷ bs) = if b == 32 || b == 9 then skip_blanks bs else b ∷ bs

-- whether a line begins with a label and a `:`
abbrev pub is_labelled : List ℕ → Bool
is_labelled line = nat_lt (length (before_byte 58 line)) (length line) && is_label (before_byte 58 line)

abbrev pub label_of : List ℕ → Option (List ℕ)
label_of line = if is_labelled line then Some (before_byte 58 line) else None

abbrev pub after_label : List ℕ → List ℕ
after_label line = if is_labelled line then after_byte 58 line else line

abbrev pub line_of : Places → List ℕ → Option Instr
line_of places line = instr_in places (skip_blanks (after_label line))

abbrev pub with_line : Option Instr → Option (List Instr) → Option (List Instr)
with_line None tool = None
with_line (Some instr) None = None
with_line (Some instr) (Some tool) = Some (instr ∷ tool)

abbrev pub lines_of : Places → List (List ℕ) → Option (List Instr)
lines_of places [] = Some []
lines_of places (line ∷ lines) = with_line (line_of places line) (lines_of places lines)

-- instructions before those that were read
abbrev pub after_lines : List Instr → Option (List Instr) → Option (List Instr)
after_lines prefix None = None
after_lines prefix (Some tool) = Some (prefix ++ tool)

abbrev pub tool_in : List (List ℕ) → Option (List Instr)
tool_in lines =
    if are_distinct (map label_of lines) then lines_of (place_of (map label_of lines)) lines else None

-- a tool, where its instructions stand in this version
abbrev pub if_in_version : Bool → List Instr → Option (List Instr)
if_in_version second tool = if is_in_version second tool then Some tool else None

-- the tool of this version that the lines after the first have
abbrev pub tool_after : Bool → List (List ℕ) → Option (List Instr)
tool_after second rest = option_and_then (if_in_version second) (tool_in (filter says rest))

abbrev pub tool_from : List (List ℕ) → Option (List Instr)
tool_from [] = None
tool_from (first ∷ rest) =
    if bytes_eq first (first_line true) then tool_after true rest
    else if bytes_eq first (first_line false) then tool_after false rest else None

-- the tool that has this text, if there is one
abbrev pub tool_of : List ℕ → Option (List Instr)
tool_of text = tool_from (slice_split (λ b. b == 10) text)
