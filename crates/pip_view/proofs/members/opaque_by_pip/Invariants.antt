use Rattle.std.proofs.Common.{◌≡◌, ◌++◌, List, filter, length, map}
use Rattle.std.specs.Borrow.{Bor}
use Rattle.pip_model_types.specs.declared.dir_inputs.DirInput.{DirInput}
use Rattle.pip_view.specs.InputFiles.{by_pip, is_opaque}
use Rattle.pip_view.proofs.members.opaque_by_pip.Given as goal

abbrev pub invariant-dirs : goal.invariant-dirs
invariant-dirs l =
    (after : List DirInput) × (l.left ++ after ≡ l.fn.dirs)
    × (map (λ (d : Bor DirInput). d.now) l.sorted.items ≡ by_pip (filter is_opaque after))

abbrev pub decreases-dirs : goal.decreases-dirs
decreases-dirs l = length l.left
