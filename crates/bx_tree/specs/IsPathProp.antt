-- A list of atoms has at most one proof that it is a path, so a struct may carry this proof.
use Rattle.std.specs.Prelude.{ℕ, List}
use Rattle.std.specs.List.{AllByRecursion-prop}
use Rattle.std.proofs.Props.{props}
use Rattle.bx_tree.specs.Paths.{Atoms, IsAtom, IsPath}

pub IsAtom-prop : (atom : List ℕ) → IsProp (IsAtom atom)
IsAtom-prop atom = hlevel props

pub IsPath-prop : (path : Atoms) → IsProp (IsPath path)
IsPath-prop path = hlevel (props, AllByRecursion-prop IsAtom IsAtom-prop path)
