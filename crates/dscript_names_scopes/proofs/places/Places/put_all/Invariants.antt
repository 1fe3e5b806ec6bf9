use Rattle.std.proofs.Common.{◌≡◌, ℕ, List, Some, cond, take}
use Rattle.std.specs.List.{list_any}
use Rattle.std.specs.Str.{bytes_eq}
use Rattle.dscript_names_scopes.proofs.places.Places.put_all.Given as goal
use Rattle.bx_tree.specs.TextTables.{at_text}

abbrev pub invariant-names : goal.invariant-names
invariant-names l = (x : List ℕ) → at_text l.self.table x
    ≡ cond (list_any (bytes_eq x) (take l.name-index l.names)) (Some l.place) (at_text l.initial.self.table x)
