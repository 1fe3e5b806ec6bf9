-- The commands, and the order of each with its settings.
use Rattle.std.specs.Prelude.{ℕ, List, codes, Option, Some, None, option_map}
use Rattle.bx_engine_words.specs.declared.command.Command.{Command}
use Rattle.bx_engine_words.specs.declared.command.Command.TheVariants as commands
use Rattle.bx_engine_words.specs.declared.order.Order.{Order}
use Rattle.bx_engine_words.specs.declared.order.Order.TheVariants as orders
use Rattle.bx_engine_words.specs.declared.setting.NumberOption.{NumberOption}
use Rattle.bx_engine_words.specs.declared.setting.NumberOption.TheVariants as options
use Rattle.bx_engine_words.specs.declared.setting.Setting.{Setting}
use Rattle.bx_engine_words.specs.declared.setting.Setting.TheVariants.{Number, Flag}
use Rattle.bx_engine_words.specs.Settings.{build_of, value_of}

-- the word of a command
abbrev pub command_text : Command → List ℕ
command_text commands.Build = codes "build"
command_text commands.Check = codes "check"
command_text commands.Repair = codes "repair"
command_text commands.Trim = codes "trim"
command_text commands.Gen = codes "gen"

-- the command that has an option
abbrev pub command_of_option : NumberOption → Command
command_of_option options.Workers = commands.Build
command_of_option options.EvalBudget = commands.Build
command_of_option options.ToolBudget = commands.Build
command_of_option options.Keep = commands.Trim
command_of_option options.Seed = commands.Gen
command_of_option options.Pips = commands.Gen

-- the command that has the option of a setting
abbrev pub command_of : Setting → Command
command_of (Number option n) = command_of_option option
command_of (Flag flag) = commands.Build

-- the trim that leaves so many selectors, which have to be said
abbrev pub trim_to : Option ℕ → Option Order
trim_to keep = option_map orders.Trim keep

-- the workload of a seed and a number of pips, both of which have to be said
abbrev pub workload : Option ℕ → Option ℕ → Option Order
workload (Some seed) (Some pips) = Some (orders.Gen seed pips)
workload (Some seed) None = None
workload None pips = None

-- the order of a command with these settings, if none that it needs is missing
abbrev pub order_of : Command → List Setting → Option Order
order_of commands.Build settings = Some (build_of settings)
order_of commands.Check settings = Some orders.Check
order_of commands.Repair settings = Some orders.Repair
order_of commands.Trim settings = trim_to (value_of options.Keep settings)
order_of commands.Gen settings = workload (value_of options.Seed settings) (value_of options.Pips settings)
