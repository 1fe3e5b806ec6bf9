-- Words that are an order to build ask for some workers, and for no more than there may be.
use Rattle.std.proofs.Common.{◌≡◌, ℕ, ◌<◌, ◌≤◌, List, [], ◌∷◌, Option, Some, None, refl, sym, subst, arith}
use Rattle.std.specs.Option.{unwrap_or}
use Rattle.std.proofs.lemmas.Option.{same_Some}
use Rattle.bx_engine_words.specs.declared.command.Command.{Command}
use Rattle.bx_engine_words.specs.declared.command.Command.TheVariants as commands
use Rattle.bx_engine_words.specs.declared.order.Order.{Order}
use Rattle.bx_engine_words.specs.declared.order.Order.TheVariants.{Check, Gen, Repair, Trim}
use Rattle.bx_engine_words.specs.declared.order.TheConstants.{DEFAULT_WORKERS, MAX_WORKERS}
use Rattle.bx_engine_words.specs.declared.setting.NumberOption.TheVariants as options
use Rattle.bx_engine_words.specs.declared.setting.Setting.{Setting}
use Rattle.bx_engine_words.specs.declared.setting.Setting.TheVariants.{Number, Flag}
use Rattle.bx_engine_words.specs.Commands.{order_of, trim_to, workload}
use Rattle.bx_engine_words.specs.Settings.{AreSettings, IsValue, build_of, value_of}
use Rattle.bx_engine_words.specs.Words.{HasCrew, IsBuild, Orders}

-- a number of workers that is set is a value of its option
workers_set : (words : List (List ℕ)) (settings : List Setting) → AreSettings words settings → (n : ℕ) → value_of options.Workers settings ≡ Some n
    → IsValue options.Workers n
workers_set words [] are n e = absurd cc
workers_set words (Flag flag ∷ settings) are n e = workers_set are.0 settings are.2 n e
workers_set words (Number options.Workers m ∷ settings) are n e = subst (IsValue options.Workers) (same_Some m n e) are.1.0
workers_set words (Number options.EvalBudget m ∷ settings) are n e = workers_set are.0 settings are.2 n e
workers_set words (Number options.ToolBudget m ∷ settings) are n e = workers_set are.0 settings are.2 n e
workers_set words (Number options.Keep m ∷ settings) are n e = workers_set are.0 settings are.2 n e
workers_set words (Number options.Seed m ∷ settings) are n e = workers_set are.0 settings are.2 n e
workers_set words (Number options.Pips m ∷ settings) are n e = workers_set are.0 settings are.2 n e

some_or_default : (o : Option ℕ) → ((n : ℕ) → o ≡ Some n → IsValue options.Workers n) → 0 < unwrap_or o DEFAULT_WORKERS
some_or_default None set = omega arith
some_or_default (Some n) set =
    let some : 1 ≤ n = (set n refl).at_least in
    omega (arith, some)

few_or_default : (o : Option ℕ) → ((n : ℕ) → o ≡ Some n → IsValue options.Workers n) → unwrap_or o DEFAULT_WORKERS ≤ MAX_WORKERS
few_or_default None set = omega arith
few_or_default (Some n) set = (set n refl).most

has_crew : (words : List (List ℕ)) (settings : List Setting) → AreSettings words settings → HasCrew (build_of settings)
has_crew words settings are = record {
  some = some_or_default (value_of options.Workers settings) (workers_set words settings are);
  few = few_or_default (value_of options.Workers settings) (workers_set words settings are);
}

trim_builds_none : (keep : Option ℕ) (order : Order) → trim_to keep ≡ Some order → IsBuild order → ⊥
trim_builds_none None order is builds = absurd cc
trim_builds_none (Some n) order is builds = subst IsBuild (sym (same_Some (Trim n) order is)) builds

workload_builds_none : (seed pips : Option ℕ) (order : Order) → workload seed pips ≡ Some order → IsBuild order → ⊥
workload_builds_none (Some s) (Some n) order is builds = subst IsBuild (sym (same_Some (Gen s n) order is)) builds
workload_builds_none (Some s) None order is builds = absurd cc
workload_builds_none None pips order is builds = absurd cc

crew_of : (command : Command) (words : List (List ℕ)) (settings : List Setting) (order : Order) → AreSettings words settings
    → order_of command settings ≡ Some order → IsBuild order → HasCrew order
crew_of commands.Build words settings order are is builds = subst HasCrew (same_Some (build_of settings) order is) (has_crew words settings are)
crew_of commands.Check words settings order are is builds = absurd (subst IsBuild (sym (same_Some Check order is)) builds)
crew_of commands.Repair words settings order are is builds = absurd (subst IsBuild (sym (same_Some Repair order is)) builds)
crew_of commands.Trim words settings order are is builds = absurd (trim_builds_none (value_of options.Keep settings) order is builds)
crew_of commands.Gen words settings order are is builds =
    absurd (workload_builds_none (value_of options.Seed settings) (value_of options.Pips settings) order is builds)

pub some_crew : (words : List (List ℕ)) (order : Order) → Orders words order → IsBuild order → HasCrew order
some_crew words order orders builds =
    let are = orders.options_are in
    crew_of orders.command orders.options are.settings order are.settings_are are.order_is builds
