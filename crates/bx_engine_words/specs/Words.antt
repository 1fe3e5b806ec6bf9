-- Which words are a command.
use Rattle.std.specs.Prelude.{◌≡◌, ◌<◌, ◌≤◌, ℕ, Bool, false, List, ◌∷◌, Some, ⊤}
use Rattle.std.specs.List.{AllByRecursion, IsDistinct}
use Rattle.bx_engine_words.specs.declared.command.Command.{Command}
use Rattle.bx_engine_words.specs.declared.order.Order.{Order}
use Rattle.bx_engine_words.specs.declared.order.Order.TheVariants as orders
use Rattle.bx_engine_words.specs.declared.order.TheConstants.{MAX_WORKERS}
use Rattle.bx_engine_words.specs.declared.setting.Setting.{Setting}
use Rattle.bx_engine_words.specs.Commands.{command_of, command_text, order_of}
use Rattle.bx_engine_words.specs.Settings.{AreSettings, is_same}

-- the words are settings that the command has, each option once at most, and none that it needs is missing
pub record AreOptions (command : Command) (words : List (List ℕ)) (order : Order) : Type 0 where
  pub settings : List Setting
  pub settings_are : AreSettings words settings
  pub of_command : AllByRecursion (λ s. command_of s ≡ command) settings
  pub once : IsDistinct is_same settings
  pub order_is : order_of command settings ≡ Some order

-- The words, each by its bytes, are this order: the word of a command, and options of that.
pub record Orders (words : List (List ℕ)) (order : Order) : Type 0 where
  pub command : Command
  pub options : List (List ℕ)
  pub words_are : words ≡ command_text command ∷ options
  pub options_are : AreOptions command options order

-- the order is to build
abbrev pub IsBuild : Order → Type 0
IsBuild (orders.Build workers cached eval_budget tool_budget types graphs) = ⊤
IsBuild orders.Check = ⊥
IsBuild orders.Repair = ⊥
IsBuild (orders.Trim keep) = ⊥
IsBuild (orders.Gen seed pips) = ⊥

-- the words are this order, which is to build
abbrev pub OrdersBuild : List (List ℕ) → Order → Type 0
OrdersBuild words order = Orders words order × IsBuild order

-- whether the order asks for the store of graphs
abbrev pub asks_graphs : Order → Bool
asks_graphs (orders.Build workers cached eval_budget tool_budget types graphs) = graphs
asks_graphs orders.Check = false
asks_graphs orders.Repair = false
asks_graphs (orders.Trim keep) = false
asks_graphs (orders.Gen seed pips) = false

-- the words are this order, which asks for no store of graphs
abbrev pub OrdersPlain : List (List ℕ) → Order → Type 0
OrdersPlain words order = Orders words order × (asks_graphs order ≡ false)

-- the words are this order, which is to build and asks for no store of graphs
abbrev pub OrdersPlainBuild : List (List ℕ) → Order → Type 0
OrdersPlainBuild words order = OrdersPlain words order × IsBuild order

-- the order is to check, to repair or to trim the store
abbrev pub IsCare : Order → Type 0
IsCare (orders.Build workers cached eval_budget tool_budget types graphs) = ⊥
IsCare orders.Check = ⊤
IsCare orders.Repair = ⊤
IsCare (orders.Trim keep) = ⊤
IsCare (orders.Gen seed pips) = ⊥

-- how many workers an order asks for
abbrev pub workers_in : Order → ℕ
workers_in (orders.Build workers cached eval_budget tool_budget types graphs) = workers
workers_in orders.Check = 0
workers_in orders.Repair = 0
workers_in (orders.Trim keep) = 0
workers_in (orders.Gen seed pips) = 0

-- it asks for some, and for no more than there may be
pub record HasCrew (order : Order) : Type 0 where
  pub some : 0 < workers_in order
  pub few : workers_in order ≤ MAX_WORKERS
