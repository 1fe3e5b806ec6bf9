use Rattle.std.proofs.Common.{◌≡◌, ◌||◌, ℕ, List, Some, length}
use Rattle.std.specs.List.{list_any}
use Rattle.std.specs.Option.{is_some}
use Rattle.dscript_names_scopes.specs.Lookup.{opens}
use Rattle.dscript_names_scopes.specs.Tables.{place_at_module}
use Rattle.dscript_names_scopes.proofs.opened.opened_of_modules.Given as goal

abbrev pub invariant-last : goal.invariant-last
invariant-last l = (m : ℕ) (x : List ℕ) →
    (list_any (opens x (Some m)) l.left || is_some (place_at_module l.opened.tables m x))
    ≡ list_any (opens x (Some m)) l.fn.files

abbrev pub decreases-last : goal.decreases-last
decreases-last l = length l.left
