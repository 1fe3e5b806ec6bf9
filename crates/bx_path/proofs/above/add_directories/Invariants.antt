use Rattle.std.proofs.Common.{◌≡◌, ◌||◌, take}
use Rattle.std.specs.BTreeSet.{contains}
use Rattle.std.specs.List.{list_any}
use Rattle.bx_tree.specs.Paths.{Atoms, path_cmp, same_path}
use Rattle.bx_path.proofs.above.add_directories.Given as goal

abbrev pub invariant-above : goal.invariant-above
invariant-above l =
    (q : Atoms) → contains path_cmp l.dirs q ≡ (list_any (λ dir. same_path dir q) (take l.dir-index l.dir-items) || contains path_cmp l.initial.dirs q)
