use Rattle.std.proofs.Common.{◌≡◌, drop}
use Rattle.dscript_eval_operators.specs.RelativeLiterals.{atoms_of}
use Rattle.dscript_eval_operators.proofs.AtomSteps.{before}
use Rattle.dscript_eval_operators.proofs.relative_literals.atoms_of.Given as goal
use Rattle.bx_tree.specs.Lent.{texts_now}

abbrev pub invariant-parts : goal.invariant-parts
invariant-parts l =
    before l.atoms.items (atoms_of (texts_now (drop l.part-index l.parts))) ≡ atoms_of (texts_now l.parts)
