-- Lists as sets.
use Rattle.std.specs.Prelude.{List, [], ◌∷◌}
use Rattle.std.specs.BTreeSet.{insert_key}
use Rattle.std.specs.declared.cmp.Ordering.{Ordering}

-- the elements in rising order, each once
abbrev pub set_by : {K : Type 0} → (K → K → Ordering) → List K → List K
set_by order [] = []
set_by order (x ∷ xs) = insert_key order (set_by order xs) x
