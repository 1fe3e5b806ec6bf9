-- Writes of two processes in shared directories that clash.
use Rattle.std.specs.Prelude.{ℕ, ◌+◌, Bool, ◌&&◌, ◌||◌, if◌then◌else◌, List, [], ◌∷◌, filter, take, Option}
use Rattle.std.specs.Prelude.{Some, None, slice_get}
use Rattle.std.specs.List.{list_any}
use Rattle.bx_tree.specs.Paths.{Atoms, same_path}
use Rattle.bx_tree.specs.Trees.{Files, paths_of}
use Rattle.pip_model_types.specs.declared.outputs.OutDir.{OutDir}
use Rattle.pip_model_types.specs.declared.pip.Pip.{Pip}
use Rattle.pip_model_types.specs.declared.pip.PipKind.{PipKind}
use Rattle.pip_model_types.specs.declared.pip.PipKind.TheVariants.{Process, Copy, Write, Seal}
use Rattle.bx_tree.specs.Below.{is_below, is_nested}
use Rattle.violations.specs.Verdicts.{with_pip}
use Rattle.violations.specs.declared.verdict.Violation.{Violation}
use Rattle.violations.specs.declared.verdict.ViolationKind.TheVariants as violations
use Rattle.violations.specs.declared.verdict.DeedKind.TheVariants as deeds
use Rattle.pip_model_types.specs.Kinds.{outdirs_of}

-- whether the path lies strictly below a directory that the pip shares
abbrev pub is_shared : List OutDir → Atoms → Bool
is_shared dirs path = list_any (λ (dir : OutDir). dir.shared && is_below path dir.path) dirs

-- the paths among files that lie in directories which the pip shares
abbrev pub shared_paths : List OutDir → Files → List Atoms
shared_paths dirs files = filter (is_shared dirs) (paths_of files)

-- whether two paths cannot both be files: they are equal, or one lies below the other
abbrev pub is_clash : Atoms → Atoms → Bool
is_clash p q = same_path p q || is_nested p q

-- whether a file of the pip, in a directory that it shares, clashes with the path
abbrev pub has_clash : Atoms → PipKind → Files → Bool
has_clash path kind files = list_any (is_clash path) (shared_paths (outdirs_of kind) files)

-- the least of these pips, numbered from j on and with the files that each made, whose files in directories
-- which it shares clash with the path
abbrev pub least_clash : Atoms → ℕ → List Pip → List Files → Option ℕ
least_clash path j [] made = None
least_clash path j (pip ∷ pips) [] = None
least_clash path j (pip ∷ pips) (files ∷ made) =
    if has_clash path pip.kind files then Some j
    else least_clash path (j + 1) pips made

-- a write that clashes with one of this pip is a violation
abbrev pub or_next : Atoms → Option ℕ → Option Violation → Option Violation
or_next path (Some j) next = Some (with_pip violations.DoubleWrite deeds.Write path j)
or_next path None next = next

-- the violation of the first of the paths that clashes with a file of one of these pips: the least such pip
abbrev pub first_clash : List Atoms → List Pip → List Files → Option Violation
first_clash [] before made = None
first_clash (path ∷ paths) before made =
    or_next path (least_clash path 0 before made) (first_clash paths before made)

-- The violation of a process with these output directories that made these files, which rise by path, after
-- these pips made theirs: the least path in a directory that it shares which clashes with a file that an
-- earlier pip made in one of its own, and the least such pip. A pip that did not succeed made no files.
abbrev pub clash_of : List Pip → List Files → List OutDir → Files → Option Violation
clash_of before made dirs files = first_clash (shared_paths dirs files) before made

abbrev pub outdirs_in : Option Pip → List OutDir
outdirs_in None = []
outdirs_in (Some pip) = outdirs_of pip.kind

-- the violation of pip i that made these files, where the first pips made those
abbrev pub clash_at : List Pip → List Files → ℕ → Files → Option Violation
clash_at pips made i files = clash_of (take i pips) made (outdirs_in (slice_get pips i)) files
