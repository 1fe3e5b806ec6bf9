-- The settings that were read so far.
use Rattle.std.specs.Prelude.{◌≡◌, ℕ, List, Bool, true, not, Option, Some, ⊤}
use Rattle.std.specs.Fmt.{decimal}
use Rattle.std.specs.Option.{is_some, unwrap_or}
use Rattle.bx_engine_words.specs.declared.given.Given.{Given}
use Rattle.bx_engine_words.specs.declared.order.Order.{Order}
use Rattle.bx_engine_words.specs.declared.order.Order.TheVariants.{Build}
use Rattle.bx_engine_words.specs.declared.order.Order.TheVariants as orders
use Rattle.bx_engine_words.specs.declared.command.Command.{Command}
use Rattle.bx_engine_words.specs.declared.command.Command.TheVariants as commands
use Rattle.bx_engine_words.specs.declared.order.TheConstants.{DEFAULT_EVAL_BUDGET, DEFAULT_TOOL_BUDGET}
use Rattle.bx_engine_words.specs.declared.order.TheConstants.{DEFAULT_WORKERS}
use Rattle.bx_engine_words.specs.declared.setting.FlagOption.TheVariants as flags
use Rattle.bx_engine_words.specs.declared.setting.NumberOption.{NumberOption}
use Rattle.bx_engine_words.specs.declared.setting.NumberOption.TheVariants as options
use Rattle.bx_engine_words.specs.declared.setting.Setting.{Setting}
use Rattle.bx_engine_words.specs.declared.setting.Setting.TheVariants.{Number, Flag}
use Rattle.bx_engine_words.specs.Commands.{trim_to, workload}
use Rattle.bx_engine_words.specs.Settings.{IsValue, has_flag, option_text, value_of}

-- what these settings say
abbrev pub given_of : List Setting → Given
given_of settings = record {
  workers = value_of options.Workers settings;
  eval_budget = value_of options.EvalBudget settings;
  tool_budget = value_of options.ToolBudget settings;
  keep = value_of options.Keep settings;
  seed = value_of options.Seed settings;
  pips = value_of options.Pips settings;
  no_cache = has_flag flags.NoCache settings;
  types = has_flag flags.Types settings;
  graph_cache = has_flag flags.GraphCache settings;
}

-- the option of the setting was given
abbrev pub is_given : Given → Setting → Bool
is_given given (Number options.Workers n) = is_some given.workers
is_given given (Number options.EvalBudget n) = is_some given.eval_budget
is_given given (Number options.ToolBudget n) = is_some given.tool_budget
is_given given (Number options.Keep n) = is_some given.keep
is_given given (Number options.Seed n) = is_some given.seed
is_given given (Number options.Pips n) = is_some given.pips
is_given given (Flag flags.NoCache) = given.no_cache
is_given given (Flag flags.Types) = given.types
is_given given (Flag flags.GraphCache) = given.graph_cache

-- one setting more
abbrev pub with_setting : Given → Setting → Given
with_setting given (Number options.Workers n) = record given { workers = Some n }
with_setting given (Number options.EvalBudget n) = record given { eval_budget = Some n }
with_setting given (Number options.ToolBudget n) = record given { tool_budget = Some n }
with_setting given (Number options.Keep n) = record given { keep = Some n }
with_setting given (Number options.Seed n) = record given { seed = Some n }
with_setting given (Number options.Pips n) = record given { pips = Some n }
with_setting given (Flag flags.NoCache) = record given { no_cache = true }
with_setting given (Flag flags.Types) = record given { types = true }
with_setting given (Flag flags.GraphCache) = record given { graph_cache = true }

-- the two texts are an option and its value
pub record IsNumber (name text : List ℕ) (option : NumberOption) (n : ℕ) : Type 0 where
  pub name_is : name ≡ option_text option
  pub text_is : text ≡ decimal n
  pub value : IsValue option n

-- the setting is a number, which these two texts are
abbrev pub IsNumberSetting : List ℕ → List ℕ → Setting → Type 0
IsNumberSetting name text (Number option n) = IsNumber name text option n
IsNumberSetting name text (Flag flag) = ⊥

-- the number of a setting is a value of its option
abbrev pub HasValue : Setting → Type 0
HasValue (Number option n) = IsValue option n
HasValue (Flag flag) = ⊤

-- the build with these settings
abbrev pub build_with_given : Given → Order
build_with_given given =
    Build (unwrap_or given.workers DEFAULT_WORKERS) (not given.no_cache)
    (unwrap_or given.eval_budget DEFAULT_EVAL_BUDGET) (unwrap_or given.tool_budget DEFAULT_TOOL_BUDGET)
    given.types given.graph_cache

-- the order of a command with these settings, if none that it needs is missing
abbrev pub order_with_given : Command → Given → Option Order
order_with_given commands.Build given = Some (build_with_given given)
order_with_given commands.Check given = Some orders.Check
order_with_given commands.Repair given = Some orders.Repair
order_with_given commands.Trim given = trim_to given.keep
order_with_given commands.Gen given = workload given.seed given.pips
