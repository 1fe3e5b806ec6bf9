-- The settings of a command: an option with its value, in one word or in two.
use Rattle.std.specs.Prelude.{◌≡◌, ℕ, ◌≤◌, ◌^◌, ◌-◌, List, [], ◌∷◌, ◌++◌, codes, ◌⊎◌}
use Rattle.std.specs.Prelude.{Bool, true, false, not, if◌then◌else◌}
use Rattle.std.specs.Prelude.{Option, Some, None, length, nat_lt, ◌||◌, ◌&&◌, ◌==◌}
use Rattle.std.specs.Fmt.{decimal}
use Rattle.std.specs.List.{list_any}
use Rattle.std.specs.Option.{unwrap_or}
use Rattle.bx_engine_words.specs.declared.order.Order.{Order}
use Rattle.bx_engine_words.specs.declared.order.Order.TheVariants.{Build}
use Rattle.bx_engine_words.specs.declared.order.TheConstants.{DEFAULT_EVAL_BUDGET, DEFAULT_TOOL_BUDGET}
use Rattle.bx_engine_words.specs.declared.order.TheConstants.{DEFAULT_WORKERS, MAX_EVAL_BUDGET, MAX_TOOL_BUDGET}
use Rattle.bx_engine_words.specs.declared.order.TheConstants.{MAX_WORKERS}
use Rattle.bx_engine_words.specs.declared.setting.FlagOption.{FlagOption}
use Rattle.bx_engine_words.specs.declared.setting.FlagOption.TheVariants as flags
use Rattle.bx_engine_words.specs.declared.setting.NumberOption.{NumberOption}
use Rattle.bx_engine_words.specs.declared.setting.NumberOption.TheVariants as options
use Rattle.bx_engine_words.specs.declared.setting.Setting.{Setting}
use Rattle.bx_engine_words.specs.declared.setting.Setting.TheVariants.{Number, Flag}

-- ## Options

-- the text of an option
abbrev pub option_text : NumberOption → List ℕ
option_text options.Workers = codes "--workers"
option_text options.EvalBudget = codes "--eval-budget"
option_text options.ToolBudget = codes "--tool-budget"
option_text options.Keep = codes "--keep"
option_text options.Seed = codes "--seed"
option_text options.Pips = codes "--pips"

-- the text of an option without a value
abbrev pub flag_text : FlagOption → List ℕ
flag_text flags.NoCache = codes "--no-cache"
flag_text flags.Types = codes "--types"
flag_text flags.GraphCache = codes "--graph-cache"

-- the least value of an option
abbrev pub least : NumberOption → ℕ
least options.Workers = 1
least options.EvalBudget = 1
least options.ToolBudget = 1
least options.Keep = 0
least options.Seed = 0
least options.Pips = 1

-- the greatest value of an option
abbrev pub greatest : NumberOption → ℕ
greatest options.Workers = MAX_WORKERS
greatest options.EvalBudget = MAX_EVAL_BUDGET
greatest options.ToolBudget = MAX_TOOL_BUDGET
greatest options.Keep = 64
greatest options.Seed = 2 ^ 64 - 1
greatest options.Pips = 16384

abbrev pub same_option : NumberOption → NumberOption → Bool
same_option options.Workers options.Workers = true
same_option options.EvalBudget options.EvalBudget = true
same_option options.ToolBudget options.ToolBudget = true
same_option options.Keep options.Keep = true
same_option options.Seed options.Seed = true
same_option options.Pips options.Pips = true
same_option _ _ = false

abbrev pub same_flag : FlagOption → FlagOption → Bool
same_flag flags.NoCache flags.NoCache = true
same_flag flags.Types flags.Types = true
same_flag flags.GraphCache flags.GraphCache = true
same_flag _ _ = false

-- the text begins with a plus, or with a zero before something else
abbrev pub odd_start : List ℕ → Bool
odd_start [] = false
odd_start (b ∷ bs) = b == 43 || (b == 48 && nat_lt 0 (length bs))

-- ## Settings in words

-- the number is a value of the option
pub record IsValue (option : NumberOption) (n : ℕ) : Type 0 where
  pub at_least : least option ≤ n
  pub most : n ≤ greatest option

-- The words begin with this setting, and these come after it. A number is written in decimal digits without
-- a zero before them, in the word of its option after a `=`, or in the next word.
abbrev pub BeginWith : List (List ℕ) → Setting → List (List ℕ) → Type 0
BeginWith words (Flag flag) rest = words ≡ flag_text flag ∷ rest
BeginWith words (Number option n) rest =
    IsValue option n
    × ((words ≡ (option_text option ++ codes "=" ++ decimal n) ∷ rest)
    ⊎ (words ≡ option_text option ∷ decimal n ∷ rest))

-- the words are these settings, one after the other
abbrev pub AreSettings : List (List ℕ) → List Setting → Type 0
AreSettings words [] = words ≡ []
AreSettings words (s ∷ settings) =
    (rest : List (List ℕ)) × BeginWith words s rest × AreSettings rest settings

-- ## What settings say

-- two settings are of one option
abbrev pub is_same : Setting → Setting → Bool
is_same (Number a m) (Number b n) = same_option a b
is_same (Flag a) (Flag b) = same_flag a b
is_same _ _ = false

-- the number that an option is set to
abbrev pub value_of : NumberOption → List Setting → Option ℕ
value_of option [] = None
value_of option (Number other n ∷ settings) =
    if same_option other option then Some n else value_of option settings
value_of option (Flag flag ∷ settings) = value_of option settings

-- the option is set
abbrev pub has_flag : FlagOption → List Setting → Bool
has_flag flag settings = list_any (λ s. is_same s (Flag flag)) settings

-- the build with these settings, and with the default of each option that is not set
abbrev pub build_of : List Setting → Order
build_of settings =
    Build (unwrap_or (value_of options.Workers settings) DEFAULT_WORKERS) (not (has_flag flags.NoCache settings))
    (unwrap_or (value_of options.EvalBudget settings) DEFAULT_EVAL_BUDGET)
    (unwrap_or (value_of options.ToolBudget settings) DEFAULT_TOOL_BUDGET) (has_flag flags.Types settings)
    (has_flag flags.GraphCache settings)
