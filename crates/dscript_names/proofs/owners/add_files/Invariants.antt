use Rattle.std.proofs.Common.{◌≡◌, Some, cond, take}
use Rattle.std.specs.List.{list_any}
use Rattle.bx_tree.specs.Paths.{Atoms, same_path}
use Rattle.dscript_names.specs.Owners.{owner_at}
use Rattle.dscript_names.proofs.owners.add_files.Given as goal

abbrev pub invariant-files : goal.invariant-files
invariant-files l = (q : Atoms) → owner_at l.numbers q
    ≡ cond (list_any (same_path q) (take l.file-index l.files)) (Some l.number) (owner_at l.initial.numbers q)
