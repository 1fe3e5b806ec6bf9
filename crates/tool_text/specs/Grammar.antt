-- The grammar of tools: which text has which lines.
use Rattle.std.specs.Prelude.{◌≡◌, ◌≢◌, ℕ, ◌<◌, ◌≤◌, Bool, true, false, not, IsTrue, ◌&&◌, ◌||◌, ◌==◌, nat_le, List}
use Rattle.std.specs.Prelude.{[], ◌∷◌, ◌++◌, codes, filter, Option, Some, None, slice_get, ◌⊎◌}
use Rattle.std.specs.Prelude.{if◌then◌else◌}
use Rattle.std.specs.List.{AllByRecursion, list_any, slice_split}
use Rattle.std.specs.Str.Parse.{digits_value}
use Rattle.tool_text.specs.declared.limits.TheConstants.{REGISTERS, MAX_EXIT}
use Rattle.tool_text.specs.declared.tool.Operand.{Operand}
use Rattle.tool_text.specs.declared.tool.Operand.TheVariants.{Register, Constant}
use Rattle.tool_text.specs.declared.tool.Instr.{Instr}
use Rattle.tool_text.specs.declared.tool.Instr.TheVariants as instrs

-- ## Operands

-- a digit from `0` to `9`
abbrev pub is_digit : ℕ → Bool
is_digit b = nat_le 48 b && nat_le b 57

-- a letter from `a` to `z`
abbrev pub is_lower : ℕ → Bool
is_lower b = nat_le 97 b && nat_le b 122

-- one digit or more
pub record IsDigits (text : List ℕ) : Type 0 where
  pub some : text ≢ []
  pub digits : AllByRecursion (λ b. IsTrue (is_digit b)) text

-- a number: `0`, or digits without a leading zero
pub record IsNumber (text : List ℕ) : Type 0 where
  pub digits : IsDigits text
  pub no_zero : (more : List ℕ) → text ≡ 48 ∷ more → more ≡ []

-- a register: `r` and its number, which is below 32
abbrev pub IsRegister : List ℕ → ℕ → Type 0
IsRegister text r =
    (digits : List ℕ) × (text ≡ 114 ∷ digits) × IsNumber digits × (digits_value 10 digits ≡ r)
    × (r < REGISTERS)

-- How a byte is spelled in a string: a newline, a tab, `"` and `\` after a `\`, and each byte but
-- newline, `"` and `\` as itself.
abbrev pub SpellsByte : List ℕ → ℕ → Type 0
SpellsByte text b =
    ((text ≡ b ∷ []) × (b ≢ 10) × (b ≢ 34) × (b ≢ 92))
    ⊎ ((text ≡ 92 ∷ 110 ∷ []) × (b ≡ 10))
    ⊎ ((text ≡ 92 ∷ 116 ∷ []) × (b ≡ 9))
    ⊎ ((text ≡ 92 ∷ 34 ∷ []) × (b ≡ 34))
    ⊎ ((text ≡ 92 ∷ 92 ∷ []) × (b ≡ 92))

-- the text spells these bytes one after the other
abbrev pub SpellsBytes : List ℕ → List ℕ → Type 0
SpellsBytes text [] = text ≡ []
SpellsBytes text (b ∷ bs) =
    (first rest : List ℕ) × SpellsByte first b × (text ≡ first ++ rest) × SpellsBytes rest bs

-- a string: the spelling of its bytes between two `"`
abbrev pub IsString : List ℕ → List ℕ → Type 0
IsString text bytes = (inside : List ℕ) × (text ≡ 34 ∷ inside ++ 34 ∷ []) × SpellsBytes inside bytes

-- a value: a register, a string, or digits, which stand for their own text
abbrev pub IsValue : List ℕ → Operand → Type 0
IsValue text (Register r) = IsRegister text r
IsValue text (Constant bytes) = IsString text bytes ⊎ (IsDigits text × (bytes ≡ text))

-- an exit code: digits whose value is at most 255
pub record IsCode (text : List ℕ) (code : ℕ) : Type 0 where
  pub digits : IsDigits text
  pub value : digits_value 10 text ≡ code
  pub most : code ≤ MAX_EXIT

-- ## Labels

-- the label of each line of a tool, where it has one
abbrev pub Labels : Type 0
Labels = List (Option (List ℕ))

-- a label: a letter, and letters and digits after it
abbrev pub IsLabel : List ℕ → Type 0
IsLabel [] = ⊥
IsLabel (b ∷ bs) = IsTrue (is_lower b) × AllByRecursion (λ c. IsTrue (is_lower c || is_digit c)) bs

-- the line at this place has this label
abbrev pub IsTarget : Labels → List ℕ → ℕ → Type 0
IsTarget labels text place = slice_get labels place ≡ Some (Some text)

-- no two lines have one label
abbrev pub AreDistinct : Labels → Type 0
AreDistinct labels = (i j : ℕ) (label : List ℕ) → IsTarget labels label i → IsTarget labels label j → i ≡ j

-- ## Instructions

-- the word of an instruction
abbrev pub word_of : Instr → List ℕ
word_of (instrs.Set r x) = codes "set"
word_of (instrs.Cat r x y) = codes "cat"
word_of (instrs.Len r x) = codes "len"
word_of (instrs.Head r x n) = codes "head"
word_of (instrs.Tail r x n) = codes "tail"
word_of (instrs.Split r s x y) = codes "split"
word_of (instrs.Arg r n label) = codes "arg"
word_of (instrs.Args r) = codes "args"
word_of (instrs.Env r x label) = codes "env"
word_of (instrs.Eq x y label) = codes "eq"
word_of (instrs.Jump label) = codes "jump"
word_of (instrs.Exit n) = codes "exit"
word_of (instrs.Say x) = codes "say"
word_of (instrs.Read r x label) = codes "read"
word_of (instrs.Probe r x) = codes "probe"
word_of (instrs.List r x) = codes "list"
word_of (instrs.Match r x y) = codes "list"
word_of (instrs.Write x y) = codes "write"

-- texts of a number of operands, each of its kind
abbrev pub One : (List ℕ → Type 0) → List (List ℕ) → Type 0
One A texts = (a : List ℕ) × (texts ≡ a ∷ []) × A a

abbrev pub Two : (A B : List ℕ → Type 0) → List (List ℕ) → Type 0
Two A B texts = (a b : List ℕ) × (texts ≡ a ∷ b ∷ []) × A a × B b

abbrev pub Three : (A B C : List ℕ → Type 0) → List (List ℕ) → Type 0
Three A B C texts = (a b c : List ℕ) × (texts ≡ a ∷ b ∷ c ∷ []) × A a × B b × C c

abbrev pub Four : (A B C D : List ℕ → Type 0) → List (List ℕ) → Type 0
Four A B C D texts = (a b c d : List ℕ) × (texts ≡ a ∷ b ∷ c ∷ d ∷ []) × A a × B b × C c × D d

-- the operands of an instruction
abbrev pub AreOperands : Labels → List (List ℕ) → Instr → Type 0
AreOperands labels texts (instrs.Set r x) = Two (λ a. IsRegister a r) (λ a. IsValue a x) texts
AreOperands labels texts (instrs.Cat r x y) =
    Three (λ a. IsRegister a r) (λ a. IsValue a x) (λ a. IsValue a y) texts
AreOperands labels texts (instrs.Len r x) = Two (λ a. IsRegister a r) (λ a. IsValue a x) texts
AreOperands labels texts (instrs.Head r x n) =
    Three (λ a. IsRegister a r) (λ a. IsValue a x) (λ a. IsValue a n) texts
AreOperands labels texts (instrs.Tail r x n) =
    Three (λ a. IsRegister a r) (λ a. IsValue a x) (λ a. IsValue a n) texts
AreOperands labels texts (instrs.Split r s x y) =
    Four (λ a. IsRegister a r) (λ a. IsRegister a s) (λ a. IsValue a x) (λ a. IsValue a y) texts
AreOperands labels texts (instrs.Arg r n label) =
    Three (λ a. IsRegister a r) (λ a. IsValue a n) (λ a. IsTarget labels a label) texts
AreOperands labels texts (instrs.Args r) = One (λ a. IsRegister a r) texts
AreOperands labels texts (instrs.Env r x label) =
    Three (λ a. IsRegister a r) (λ a. IsValue a x) (λ a. IsTarget labels a label) texts
AreOperands labels texts (instrs.Eq x y label) =
    Three (λ a. IsValue a x) (λ a. IsValue a y) (λ a. IsTarget labels a label) texts
AreOperands labels texts (instrs.Jump label) = One (λ a. IsTarget labels a label) texts
AreOperands labels texts (instrs.Exit n) = One (λ a. IsCode a n) texts
AreOperands labels texts (instrs.Say x) = One (λ a. IsValue a x) texts
AreOperands labels texts (instrs.Read r x label) =
    Three (λ a. IsRegister a r) (λ a. IsValue a x) (λ a. IsTarget labels a label) texts
AreOperands labels texts (instrs.Probe r x) = Two (λ a. IsRegister a r) (λ a. IsValue a x) texts
AreOperands labels texts (instrs.List r x) = Two (λ a. IsRegister a r) (λ a. IsValue a x) texts
AreOperands labels texts (instrs.Match r x y) =
    Three (λ a. IsRegister a r) (λ a. IsValue a x) (λ a. IsValue a y) texts
AreOperands labels texts (instrs.Write x y) = Two (λ a. IsValue a x) (λ a. IsValue a y) texts

-- spaces, and nothing else
abbrev pub AreSpaces : List ℕ → Type 0
AreSpaces text = AllByRecursion (λ b. b ≡ 32) text

-- spaces and tabs, and nothing else
abbrev pub AreBlanks : List ℕ → Type 0
AreBlanks text = AllByRecursion (λ b. (b ≡ 32) ⊎ (b ≡ 9)) text

-- the text is these parts with commas between them, and spaces around each
abbrev pub AreSeparated : List (List ℕ) → List ℕ → Type 0
AreSeparated [] text = ⊥
AreSeparated (part ∷ []) text =
    (left right : List ℕ) × AreSpaces left × AreSpaces right × (text ≡ left ++ part ++ right)
AreSeparated (part ∷ next ∷ parts) text =
    (left right rest : List ℕ) × AreSpaces left × AreSpaces right
    × (text ≡ left ++ part ++ right ++ 44 ∷ rest) × AreSeparated (next ∷ parts) rest

-- an instruction: its word, a space, and its operands
pub record IsInstr (labels : Labels) (text : List ℕ) (instr : Instr) : Type 0 where
  pub rest : List ℕ
  pub texts : List (List ℕ)
  pub word : text ≡ word_of instr ++ 32 ∷ rest
  pub separated : AreSeparated texts rest
  pub operands : AreOperands labels texts instr

-- ## Lines

-- what precedes the instruction of a line: its label and a `:`, if it has one, and blanks
abbrev pub IsStart : List ℕ → Option (List ℕ) → Type 0
IsStart text None = AreBlanks text
IsStart text (Some label) =
    IsLabel label × ((blanks : List ℕ) × AreBlanks blanks × (text ≡ label ++ 58 ∷ blanks))

-- a line with this label, or with none, and this instruction
abbrev pub IsLine : Labels → List ℕ → Option (List ℕ) → Instr → Type 0
IsLine labels text label instr =
    (start rest : List ℕ) × (text ≡ start ++ rest) × IsStart start label × IsInstr labels rest instr

-- each of the lines has its label, or none, and its instruction
abbrev pub AreLines : Labels → List (List ℕ) → Labels → List Instr → Type 0
AreLines labels [] [] [] = Unit {0}
AreLines labels (line ∷ lines) (label ∷ own) (instr ∷ tool) =
    IsLine labels line label instr × AreLines labels lines own tool
AreLines labels _ _ _ = ⊥

-- whether a line says something: it is not empty and does not begin with `#`
abbrev pub says : List ℕ → Bool
says [] = false
says (b ∷ bs) = not (b == 35)

-- ## Versions

-- the first line of a tool: there are two versions of the language
abbrev pub first_line : Bool → List ℕ
first_line second = if second then codes "tool 2" else codes "tool 1"

-- whether an instruction stands in tools of the second version alone
abbrev pub is_of_second : Instr → Bool
is_of_second (instrs.Set r x) = false
is_of_second (instrs.Cat r x y) = false
is_of_second (instrs.Len r x) = false
is_of_second (instrs.Head r x n) = false
is_of_second (instrs.Tail r x n) = false
is_of_second (instrs.Split r s x y) = false
is_of_second (instrs.Arg r n label) = false
is_of_second (instrs.Args r) = false
is_of_second (instrs.Env r x label) = false
is_of_second (instrs.Eq x y label) = false
is_of_second (instrs.Jump label) = false
is_of_second (instrs.Exit n) = false
is_of_second (instrs.Say x) = false
is_of_second (instrs.Read r x label) = false
is_of_second (instrs.Probe r x) = false
is_of_second (instrs.List r x) = false
is_of_second (instrs.Match r x y) = true
is_of_second (instrs.Write x y) = false

-- whether all instructions of a tool stand in this version: the second has those of the first
abbrev pub is_in_version : Bool → List Instr → Bool
is_in_version second tool = second || not (list_any is_of_second tool)

-- The text of a tool: lines that end at newlines, the first of which says its version; those after it that say
-- something have these instructions, all of that version, and labels that differ.
pub record IsTool (text : List ℕ) (tool : List Instr) : Type 0 where
  pub second : Bool
  pub rest : List (List ℕ)
  pub labels : Labels
  pub first : slice_split (λ b. b == 10) text ≡ first_line second ∷ rest
  pub lines : AreLines labels (filter says rest) labels tool
  pub distinct : AreDistinct labels
  pub version : IsTrue (is_in_version second tool)
