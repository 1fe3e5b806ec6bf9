-- What a view keeps.
use Rattle.std.specs.Prelude.{◌≡◌, ◌↔◌, ℕ, Bool, ◌||◌, if◌then◌else◌, List, [], Contains}
use Rattle.std.specs.Prelude.{Option, Some, None, is_some}
use Rattle.std.specs.Prelude.{◌<◌, filter, length, slice_get}
use Rattle.std.specs.List.{list_any}
use Rattle.bx_tree.specs.Paths.{Atoms, is_root}
use Rattle.bx_tree.specs.Trees.{Files, file_at}
use Rattle.observed.specs.declared.access.Answer.{Answer}
use Rattle.observed.specs.declared.access.Answer.TheVariants as answers
use Rattle.observed.specs.declared.ask.Ask.{Ask}
use Rattle.observed.specs.declared.ask.AskKind.{AskKind}
use Rattle.bx_tree.specs.Below.{is_at_or_below}
use Rattle.tool_run.specs.Listings.{add_names}
use Rattle.tool_run_writes.specs.Writes.{has_below, own_names}
use Rattle.pip_view_directories.specs.Ranges.{AreOthers}
use Rattle.pip_model_types.specs.Dirs.{RiseByForm}
use Rattle.pip_model_types.specs.declared.dir_inputs.DirInput.{DirInput}
use Rattle.pip_model_types.specs.declared.pip.Pip.{Pip}
use Rattle.pip_model_types.specs.declared.pip.ProcessDesc.{ProcessDesc}
use Rattle.violations.specs.Producing.{dirs_at, least_unseen}
use Rattle.pip_view.specs.Gathered.{members_of}
use Rattle.pip_view.specs.InputFiles.{by_pip, is_opaque, is_source_of, named_files}
use Rattle.pip_view_inputs.specs.Plain.{process_in}
use Rattle.pip_view_inputs.specs.Results.{ByPip}
use Rattle.pip_view.specs.Sees.{as_input, as_source, sees}
use Rattle.pip_view.specs.Taken.{taken_bytes, taken_files}

-- a view: the pips, the source files, what the inputs made, and the pip that sees
pub record ViewData : Type 0 where
  pub pips : List Pip
  pub tree : Files
  pub inputs : ByPip
  pub pip : ℕ

abbrev pub view_answers : ViewData → Ask → Answer
view_answers v ask = sees v.pips v.tree v.inputs v.pip ask

abbrev pub named_by : ViewData → Option ProcessDesc → Files
named_by v None = []
named_by v (Some d) = named_files v.pips v.tree v.inputs d

-- the input files of the pip, but for source files that are members of seals
abbrev pub named_in : ViewData → Files
named_in v = named_by v (process_in (slice_get v.pips v.pip))

-- the files that a process takes by name, with their bytes
abbrev pub taken_by : ViewData → Option ProcessDesc → Files
taken_by v None = []
taken_by v (Some d) = taken_bytes v.tree v.inputs (taken_files v.pips d)

abbrev pub taken_in : ViewData → Files
taken_in v = taken_by v (process_in (slice_get v.pips v.pip))

-- the members of the opaque directories that a process takes
abbrev pub opaque_by : ViewData → Option ProcessDesc → Files
opaque_by v None = []
opaque_by v (Some d) = members_of v.inputs (by_pip (filter is_opaque d.dirs))

abbrev pub opaque_in : ViewData → Files
opaque_in v = opaque_by v (process_in (slice_get v.pips v.pip))

-- the names in a directory: of the source files, of the files that the pip takes by name, and of the members of
-- its opaque directories
abbrev pub names_in : ViewData → Atoms → List (List ℕ)
names_in v dir =
    add_names (add_names (add_names [] (own_names v.tree dir)) (own_names (taken_in v) dir))
    (own_names (opaque_in v) dir)

-- ## Steps of an answer

-- whether the path is that of a source file which is a member of one of the directories that the pip takes
abbrev pub is_sealed_at : ViewData → Atoms → Bool
is_sealed_at v path = list_any (is_source_of path) (dirs_at (slice_get v.pips v.pip))

abbrev pub is_unseen_at : ViewData → Atoms → Bool
is_unseen_at v path = is_some (least_unseen (dirs_at (slice_get v.pips v.pip)) v.pip path 0 v.pips)

-- what is answered of a path at which neither an input file nor a source file is, where `below` says whether
-- a named input file lies below it
abbrev pub answer_elsewhere : ViewData → Atoms → Bool → Answer
answer_elsewhere v path below =
    if is_unseen_at v path then answers.Denied
    else (if below || is_root path || has_below v.tree path then answers.Directory else answers.Absent)

abbrev pub answer_by_source : ViewData → AskKind → Atoms → Bool → Option (List ℕ) → Answer
answer_by_source v kind path below (Some bytes) =
    if is_sealed_at v path then as_input kind bytes else as_source kind
answer_by_source v kind path below None = answer_elsewhere v path below

-- what is answered of a path at which no named input file is
abbrev pub answer_unnamed : ViewData → AskKind → Atoms → Bool → Answer
answer_unnamed v kind path below = answer_by_source v kind path below (file_at v.tree path)

-- The files answer all that is asked of files as these others do, of which the first at a path counts.
pub record AnswerAs (files others : Files) : Type 0 where
  pub contents : (p : Atoms) → file_at files p ≡ file_at others p
  pub directories : (p : Atoms) → has_below files p ≡ has_below others p
  pub names : (p : Atoms) (n : List ℕ) → Contains (own_names files p) n ↔ Contains (own_names others p) n

-- what a view keeps: the opaque directories that its pip takes, those of the least pip first, and all that do not
-- list their files
pub record KeepsView (v : ViewData) (kept others : List DirInput) : Type 0 where
  pub there : v.pip < length v.pips
  pub rising : RiseByForm (dirs_at (slice_get v.pips v.pip))
  pub dirs : kept ≡ by_pip (filter is_opaque (dirs_at (slice_get v.pips v.pip)))
  pub unlisted : AreOthers (dirs_at (slice_get v.pips v.pip)) others

-- whether a file is at the path or below it
abbrev pub lies_near : Atoms → Atoms × List ℕ → Bool
lies_near path file = is_at_or_below file.0 path

-- What is searched at a path in place of all directories that the pip takes: its opaque ones have the members
-- at the path and below it that all have, and a source file at the path is a member of a seal as it is of all.
pub record SearchedAt (v : ViewData) (path : Atoms) (near : List DirInput) : Type 0 where
  pub members : filter (lies_near path) (members_of v.inputs (by_pip (filter is_opaque near)))
      ≡ filter (lies_near path) (opaque_in v)
  pub sealed : list_any (is_source_of path) near ≡ is_sealed_at v path
