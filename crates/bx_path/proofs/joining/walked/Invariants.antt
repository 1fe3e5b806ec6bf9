use Rattle.std.proofs.Common.{◌≡◌, drop}
use Rattle.std.specs.List.{AllByRecursion}
use Rattle.bx_tree.specs.Paths.{IsAtom}
use Rattle.bx_path.specs.Joining.{walk}
use Rattle.bx_path.proofs.joining.walked.Given as goal
use Rattle.bx_tree.specs.Lent.{texts_now}

abbrev pub invariant-loop-part : goal.invariant-loop-part
invariant-loop-part l =
    AllByRecursion IsAtom (texts_now l.atoms.items)
    × (walk (texts_now l.atoms.items) (texts_now (drop l.part-index l.part-items)) ≡ walk (texts_now l.initial.atoms.items) (texts_now l.part-items))
