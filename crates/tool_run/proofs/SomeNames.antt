-- Names that have bytes.
use Rattle.std.proofs.Common.{suc, ◌≡◌, ℕ, ◌==◌, not, List, [], ◌∷◌, length, refl, ap}
use Rattle.std.proofs.lemmas.Bool.{ne_eqb}
use Rattle.tool_run.specs.Listings.{is_some_name}

-- a name is there where it has bytes
pub some_name : (name : List ℕ) → not (length name == 0) ≡ is_some_name name
some_name [] = refl
some_name (b ∷ bs) = ap not (ne_eqb (suc (length bs)) 0 (λ e. cc))
