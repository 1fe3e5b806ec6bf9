-- The members of opaque directories, and where they lie.
use Rattle.std.specs.Prelude.{◌||◌, if◌then◌else◌, List, [], filter, map, Option, Some, None}
use Rattle.std.specs.Borrow.{Bor}
use Rattle.std.specs.List.{flat_map}
use Rattle.bx_tree.specs.Paths.{Atoms, same_path}
use Rattle.bx_tree.specs.Trees.{Files}
use Rattle.bx_tree.specs.Below.{is_below}
use Rattle.pip_model_types.specs.declared.dir_inputs.DirInput.{DirInput}
use Rattle.pip_model_types.specs.declared.dir_inputs.DirInput.TheVariants.{Sealed, Opaque}
use Rattle.pip_view.specs.InputFiles.{by_pip, insert_by_pip, is_opaque}
use Rattle.pip_view_inputs.specs.Results.{ByPip, files_by}

-- the files that lie below a directory
abbrev pub below_of : Atoms → Files → Files
below_of dir files = filter (λ f. is_below f.0 dir) files

-- the members of an opaque directory, and none of a seal
abbrev pub opaque_members : ByPip → DirInput → Files
opaque_members made (Sealed pip form root) = []
opaque_members made (Opaque pip path) = below_of path (files_by made pip)

-- directories that are borrowed
abbrev pub dirs_now : List (Bor DirInput) → List DirInput
dirs_now = map (λ (d : Bor DirInput). d.now)

-- the members of all these directories, one directory after the other
abbrev pub members_of : ByPip → List DirInput → Files
members_of made dirs = flat_map (opaque_members made) dirs

-- directories in the order of their pips with one more, if it is opaque
abbrev pub with_opaque : DirInput → List DirInput → List DirInput
with_opaque dir dirs = if is_opaque dir then insert_by_pip dir dirs else dirs

-- the opaque ones of the directories that were found, by pip; all, where there was no answer
abbrev pub opaque_of : Option (List DirInput) → List DirInput → List DirInput
opaque_of None all = all
opaque_of (Some near) all = by_pip (filter is_opaque near)

-- the deeper of two directories, if one contains the other or is the other
abbrev pub deeper : Atoms → Atoms → Option Atoms
deeper dir other =
    if is_below other dir then Some other
    else (if same_path dir other || is_below dir other then Some dir else None)
