-- Words that begin with the word of a command.
use Rattle.std.proofs.Common.{◌≡◌, ℕ, List, ◌∷◌, Option, Some, None, Result, sym, subst, ◌∙◌}
use Rattle.std.specs.Prelude.{MatchOption, MatchResult}
use Rattle.std.specs.Option.{ok_or}
use Rattle.bx_engine_words.specs.declared.command.Command.{Command}
use Rattle.bx_engine_words.specs.declared.order.Order.{Order}
use Rattle.bx_engine_words.specs.Commands.{command_text}
use Rattle.bx_engine_words.specs.Words.{AreOptions, Orders}
use Rattle.bx_engine_words.proofs.OneSetting.{first_same, rest_same, same_commands}

abbrev IsReadAs : {E : Type 0} → List (List ℕ) → Result Order E → Type 0
IsReadAs words r = MatchResult r (λ order. Orders words order) (λ _. (order : Order) → Orders words order → ⊥)

read_as : {E : Type 0} (command : Command) (words options : List (List ℕ)) (found : Option Order) (fault : E)
    → words ≡ command_text command ∷ options
    → MatchOption found ((order : Order) → AreOptions command options order → ⊥) (λ order. AreOptions command options order)
    → IsReadAs words (ok_or found fault)
read_as command words options None fault is none = λ order h.
    let both = sym h.words_are ∙ is in
    none order
    (subst (λ (c : Command). AreOptions c options order) (same_commands h.command command (first_same both))
    (subst (λ (ws : List (List ℕ)). AreOptions h.command ws order) (rest_same both) h.options_are))
read_as command words options (Some order) fault is are =
    record { command = command; options = options; words_are = is; options_are = are }

-- what the words after a command's word come to, all of them do
pub read_after_command : {E : Type 0} (command : Command) (words options : List (List ℕ)) (found : Option Order) (fault : E)
    (r : Result Order E) → words ≡ command_text command ∷ options → r ≡ ok_or found fault
    → MatchOption found ((order : Order) → AreOptions command options order → ⊥) (λ order. AreOptions command options order)
    → MatchResult r (λ order. Orders words order) (λ _. (order : Order) → Orders words order → ⊥)
read_after_command {E = E} command words options found fault r is e h =
    subst (λ (x : Result Order E). IsReadAs words x) (sym e) (read_as command words options found fault is h)

-- words whose first is that of no command
pub no_command : (words options : List (List ℕ)) (first : List ℕ) (order : Order) → words ≡ first ∷ options
    → ((command : Command) → first ≡ command_text command → ⊥) → Orders words order → ⊥
no_command words options first order is none h = none h.command (first_same (sym is ∙ h.words_are))
