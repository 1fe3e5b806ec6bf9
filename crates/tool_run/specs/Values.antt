-- What the instructions on values compute.
use Rattle.std.specs.Prelude.{ℕ, ◌&&◌, nat_le, List, [], ◌∷◌, length, map, Option, Some, None, if◌then◌else◌}
use Rattle.std.specs.Prelude.{slice_index_or}
use Rattle.std.specs.Str.{bytes_eq}
use Rattle.std.specs.Str.Parse.{digits_value}
use Rattle.pip_model_types.specs.declared.args.EnvPair.{EnvPair}
use Rattle.tool_text.specs.Reading.{is_number}
use Rattle.tool_text.specs.declared.tool.Operand.{Operand}
use Rattle.tool_text.specs.declared.tool.Operand.TheVariants.{Register, Constant}
use Rattle.observed.specs.Texts.{after_prefix}
use Rattle.tool_run.specs.declared.digits.TheConstants.{MAX_DIGITS}

-- the content of a register, or the bytes of a constant
abbrev pub value_of : List (List ℕ) → Operand → List ℕ
value_of registers (Register r) = slice_index_or registers r []
value_of registers (Constant bytes) = bytes

-- the number that a text stands for, if it is one of at most nine digits
abbrev pub number_of : List ℕ → Option ℕ
number_of text =
    if is_number text && nat_le (length text) MAX_DIGITS then Some (digits_value 10 text) else None

abbrev pub with_first : ℕ → List ℕ × List ℕ → List ℕ × List ℕ
with_first b (before, after) = (b ∷ before, after)

abbrev pub cut_here : ℕ → Option (List ℕ) → List ℕ × List ℕ → List ℕ × List ℕ
cut_here b (Some after) later = ([], after)
cut_here b None later = with_first b later

-- what precedes the first occurrence of y in x, and what follows it; all of x and nothing if there is none
abbrev pub split_parts : List ℕ → List ℕ → List ℕ × List ℕ
split_parts y [] = ([], [])
split_parts y (b ∷ bs) = cut_here b (after_prefix y (b ∷ bs)) (split_parts y bs)

-- each variable's name and value
abbrev pub variables : List EnvPair → List (List ℕ × List ℕ)
variables = map (λ (v : EnvPair). (v.name, v.value))

-- the value of the variable of this name, the first where there are several
abbrev pub variable : List (List ℕ × List ℕ) → List ℕ → Option (List ℕ)
variable [] name = None
variable (pair ∷ pairs) name = if bytes_eq pair.0 name then Some pair.1 else variable pairs name
