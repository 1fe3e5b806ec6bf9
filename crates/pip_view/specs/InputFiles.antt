-- The input files of a pip, with their bytes.
use Rattle.std.specs.Prelude.{Bool, true, false, nat_le, not, if◌then◌else◌, List, [], ◌∷◌, ◌++◌, map}
use Rattle.std.specs.Prelude.{filter}
use Rattle.std.specs.Prelude.{slice_get}
use Rattle.std.specs.List.{flat_map}
use Rattle.bx_tree.specs.Paths.{Atoms}
use Rattle.bx_tree.specs.Trees.{Files}
use Rattle.bx_tree.specs.declared.file_input.FileInput.{FileInput}
use Rattle.bx_tree.specs.Below.{is_below, is_directly_in}
use Rattle.pip_model_types.specs.Dirs.{dir_pip, is_source_form}
use Rattle.pip_model_types.specs.Kinds.{listed_in}
use Rattle.pip_model_types.specs.declared.dir_inputs.SealForm.{SealForm}
use Rattle.pip_model_types.specs.declared.dir_inputs.SealForm.TheVariants.{Full, Partial, SourceTop, SourceAll}
use Rattle.pip_model_types.specs.declared.dir_inputs.DirInput.{DirInput}
use Rattle.pip_model_types.specs.declared.dir_inputs.DirInput.TheVariants.{Sealed, Opaque}
use Rattle.pip_model_types.specs.declared.pip.Pip.{Pip}
use Rattle.pip_model_types.specs.declared.pip.PipKind.{PipKind}
use Rattle.pip_model_types.specs.declared.pip.PipKind.TheVariants.{Process, Copy, Write, Seal}
use Rattle.pip_model_types.specs.declared.pip.ProcessDesc.{ProcessDesc}
use Rattle.pip_view_inputs.specs.Contents.{bytes_at, input_file}
use Rattle.pip_view_inputs.specs.Results.{ByPip, files_by}

-- ## Members of directories

-- the members of a seal: the files that it lists, or those source files directly in its root or below it
abbrev pub sealed_members : List FileInput → Files → ByPip → SealForm → Atoms → Files
sealed_members listed tree made Full root = map (input_file tree made) listed
sealed_members listed tree made Partial root = map (input_file tree made) listed
sealed_members listed tree made SourceTop root = filter (λ f. is_directly_in f.0 root) tree
sealed_members listed tree made SourceAll root = filter (λ f. is_below f.0 root) tree

-- the members of a directory that a process takes; those of an opaque one are what its process wrote below
-- it
abbrev pub dir_members : List Pip → Files → ByPip → DirInput → Files
dir_members pips tree made (Sealed pip form root) =
    sealed_members (listed_in (slice_get pips pip)) tree made form root
dir_members pips tree made (Opaque pip path) = filter (λ f. is_below f.0 path) (files_by made pip)

-- ## Input files

abbrev pub is_opaque : DirInput → Bool
is_opaque (Sealed pip form root) = false
is_opaque (Opaque pip path) = true

abbrev pub is_source : DirInput → Bool
is_source (Sealed pip form root) = is_source_form form
is_source (Opaque pip path) = false

-- whether a source file at this path is a member of a seal of this form and root
abbrev pub is_source_member : Atoms → SealForm → Atoms → Bool
is_source_member path Full root = false
is_source_member path Partial root = false
is_source_member path SourceTop root = is_directly_in path root
is_source_member path SourceAll root = is_below path root

abbrev pub is_source_of : Atoms → DirInput → Bool
is_source_of path (Sealed pip form root) = is_source_member path form root
is_source_of path (Opaque pip dir) = false

abbrev pub is_listed : DirInput → Bool
is_listed (Sealed pip form root) = not (is_source_form form)
is_listed (Opaque pip path) = false

-- a directory put before the first of a greater pip
abbrev pub insert_by_pip : DirInput → List DirInput → List DirInput
insert_by_pip dir [] = dir ∷ []
insert_by_pip dir (other ∷ rest) =
    if nat_le (dir_pip dir) (dir_pip other) then dir ∷ other ∷ rest else other ∷ insert_by_pip dir rest

-- the directories in the order of their pips
abbrev pub by_pip : List DirInput → List DirInput
by_pip [] = []
by_pip (dir ∷ dirs) = insert_by_pip dir (by_pip dirs)

-- The executable of a process, its declared files, the files of seals that list them, and the members of
-- opaque directories. Where two have one path, the first in this order counts. Of members of opaque
-- directories that is the one of the least pip, though one of these directories may lie in another.
abbrev pub named_files : List Pip → Files → ByPip → ProcessDesc → Files
named_files pips tree made d =
    (d.exe, bytes_at tree d.exe) ∷ map (input_file tree made) d.files
    ++ flat_map (dir_members pips tree made) (filter is_listed d.dirs)
    ++ flat_map (dir_members pips tree made) (by_pip (filter is_opaque d.dirs))

-- the source files that are members of seals of source files
abbrev pub source_members : List Pip → Files → ByPip → ProcessDesc → Files
source_members pips tree made d = flat_map (dir_members pips tree made) (filter is_source d.dirs)

-- all input files of a process; of two with one path the first counts
abbrev pub process_files : List Pip → Files → ByPip → ProcessDesc → Files
process_files pips tree made d = named_files pips tree made d ++ source_members pips tree made d

-- the input files of a pip, where the pips with these numbers made these files; only a process has any
abbrev pub input_files : List Pip → Files → ByPip → PipKind → Files
input_files pips tree made (Process d) = process_files pips tree made d
input_files pips tree made (Copy d) = []
input_files pips tree made (Write d) = []
input_files pips tree made (Seal d) = []
