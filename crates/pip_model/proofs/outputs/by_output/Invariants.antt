use Rattle.std.proofs.Common.{◌≡◌, ◌++◌, ℕ, List, drop}
use Rattle.pip_model.specs.Outputs.{found_in, numbers_from}
use Rattle.pip_model.proofs.outputs.by_output.Given as goal

abbrev pub invariant-pips : goal.invariant-pips
invariant-pips l = (text : List ℕ) →
    found_in l.found text ++ numbers_from l.place text (drop l.place l.pips) ≡ numbers_from 0 text l.pips
