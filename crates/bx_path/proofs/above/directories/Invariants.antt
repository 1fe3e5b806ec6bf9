use Rattle.std.proofs.Common.{◌≡◌, ◌||◌}
use Rattle.std.specs.List.{list_any}
use Rattle.bx_tree.specs.Paths.{Atoms, same_path}
use Rattle.bx_tree.specs.Below.{is_below}
use Rattle.bx_path.proofs.Ancestors.{lies_at_or_below, size_of}
use Rattle.bx_path.proofs.above.directories.Given as goal

abbrev pub invariant-dirs : goal.invariant-dirs
invariant-dirs l = (q : Atoms) → (list_any (λ dir. same_path dir q) l.dirs.items || lies_at_or_below l.next q) ≡ is_below l.path q

abbrev pub decreases-dirs : goal.decreases-dirs
decreases-dirs l = size_of l.next
