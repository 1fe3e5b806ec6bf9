use Rattle.std.proofs.Common.{◌≡◌, ℕ, List, length}
use Rattle.std.specs.List.{position_from}
use Rattle.std.specs.Option.{option_or}
use Rattle.std.specs.Str.{bytes_eq}
use Rattle.dscript_names_scopes.proofs.places.places_of_texts.Given as goal
use Rattle.bx_tree.specs.TextTables.{at_text}

abbrev pub invariant-last : goal.invariant-last
invariant-last l = (x : List ℕ) →
    option_or (position_from (λ y. bytes_eq y x) 0 l.left) (at_text l.places.table x)
    ≡ position_from (λ y. bytes_eq y x) 0 l.fn.texts

abbrev pub decreases-last : goal.decreases-last
decreases-last l = length l.left
