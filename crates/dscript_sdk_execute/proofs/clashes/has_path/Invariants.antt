use Rattle.std.proofs.Common.{◌≡◌, drop}
use Rattle.std.specs.List.{list_any}
use Rattle.bx_tree.specs.Paths.{same_path}
use Rattle.pip_model_types.specs.declared.outputs.OutDir.{OutDir}
use Rattle.dscript_sdk_execute.proofs.clashes.has_path.Given as goal

abbrev pub invariant-dirs : goal.invariant-dirs
invariant-dirs l =
    list_any (λ (d : OutDir). same_path l.path d.path) (drop l.dir-index l.dirs)
    ≡ list_any (λ (d : OutDir). same_path l.path d.path) l.dirs
