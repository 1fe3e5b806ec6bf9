-- The rule that there are not too many pips.
use Rattle.std.specs.Prelude.{◌≡◌, ℕ, ◌<◌, List, length}
use Rattle.pip_model_types.specs.declared.pip.Pip.{Pip}
use Rattle.pip_model.specs.declared.plan.TheConstants.{MAX_PIPS}

-- pip i is the first beyond the limit
abbrev pub LimitAt : List Pip → ℕ → Type 0
LimitAt pips i = (i < length pips) × (i ≡ MAX_PIPS)
