use Rattle.std.proofs.Common.{◌≡◌, ◌++◌, drop}
use Rattle.std.specs.List.{flat_map}
use Rattle.pip_model_types.specs.declared.outputs.OutDir.{OutDir}
use Rattle.pip_graph.specs.GraphText.{dir_line}
use Rattle.pip_graph.proofs.nodes.add_dirs.Given as goal

abbrev pub invariant-dirs : goal.invariant-dirs
invariant-dirs l =
    l.text.items ++ flat_map (λ (dir : OutDir). dir_line dir.path) (drop l.dir-index l.dirs)
    ≡ l.fn.text.items ++ flat_map (λ (dir : OutDir). dir_line dir.path) l.dirs
