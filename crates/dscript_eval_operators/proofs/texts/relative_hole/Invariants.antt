use Rattle.std.proofs.Common.{◌≡◌, ◌++◌, codes, drop}
use Rattle.std.specs.List.{flat_map}
use Rattle.dscript_eval_operators.specs.Texts.{written_relative}
use Rattle.dscript_eval_operators.proofs.texts.relative_hole.Given as goal

abbrev pub invariant-atoms : goal.invariant-atoms
invariant-atoms l =
    l.text.items ++ flat_map (λ atom. codes "/" ++ atom) (drop l.atom-index l.more) ≡ written_relative l.atoms
