-- Lent texts as contracts see them.
use Rattle.std.specs.Borrow.{Bor}
use Rattle.std.specs.Prelude.{List, map, ℕ}

-- texts, without their addresses
abbrev pub texts_now : List (Bor (List ℕ)) → List (List ℕ)
texts_now = map (λ (text : Bor (List ℕ)). text.now)
