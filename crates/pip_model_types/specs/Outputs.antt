-- Output directories, and the order of lists of them.
use Rattle.std.specs.Prelude.{Bool, List, Option, false, map, true, ℕ, ◌==◌}
use Rattle.std.specs.Ordering.{nat_cmp, on, then_cmp, eq_of_both}
use Rattle.std.specs.declared.cmp.Ordering.{Ordering}
use Rattle.bx_tree.specs.Paths.{Atoms, path_cmp, same_path}
use Rattle.pip_model_types.specs.declared.outputs.OutDir.{OutDir}
use Rattle.std.specs.Option.{option_map_or}

-- a directory that one process alone writes comes before a shared one
abbrev pub sharing_rank : Bool → ℕ
sharing_rank false = 0
sharing_rank true = 1

abbrev pub outdir_cmp : OutDir → OutDir → Ordering
outdir_cmp =
    then_cmp (on (λ (d : OutDir). d.path) path_cmp) (on (λ (d : OutDir). sharing_rank d.shared) nat_cmp)

abbrev pub same_outdir : OutDir → OutDir → Bool
same_outdir =
    eq_of_both (on (λ (d : OutDir). d.path) same_path) (on (λ (d : OutDir). sharing_rank d.shared) ◌==◌)

-- the paths of output directories
abbrev pub outdir_paths : List OutDir → List Atoms
outdir_paths = map (λ (dir : OutDir). dir.path)

-- whether the path is that of the console file
abbrev pub is_console : Option Atoms → Atoms → Bool
is_console console path = option_map_or (λ p. same_path p path) console false
