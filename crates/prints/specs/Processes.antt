-- What a weak text says of a process.
use Rattle.std.specs.Prelude.{◌≡◌, ℕ, ◌+◌, ◌<◌, ◌^◌, IfSome, List, [], ◌∷◌, length, map}
use Rattle.std.specs.List.{AllByRecursion}
use Rattle.std.specs.List.Sorted.{IsStrictlySortedBy}
use Rattle.sha2.specs.Sha256.{sha256}
use Rattle.bx_tree.specs.Paths.{Atoms, IsPath, path_cmp}
use Rattle.bx_tree.specs.Trees.{Files, paths_of}
use Rattle.bx_tree.specs.declared.file_input.FileInput.TheVariants.{Source}
use Rattle.bx_digest.specs.Digests.{IsDigest}
use Rattle.pip_model_types.specs.Args.{IsSortedByName}
use Rattle.pip_model_types.specs.Dirs.{RiseByForm, dir_path}
use Rattle.pip_model_types.specs.Inputs.{RiseByPath}
use Rattle.pip_model_types.specs.Outputs.{outdir_cmp}
use Rattle.pip_model_types.specs.declared.args.EnvPair.{EnvPair}
use Rattle.pip_model_types.specs.declared.desc.Desc.{Desc}
use Rattle.pip_model_types.specs.declared.dir_inputs.DirInput.{DirInput}
use Rattle.pip_model_types.specs.declared.dir_inputs.DirInput.TheVariants.{Sealed, Opaque}
use Rattle.pip_model_types.specs.declared.outputs.OutDir.{OutDir}
use Rattle.pip_model_types.specs.declared.pip.ProcessDesc.{ProcessDesc}
use Rattle.prints.specs.declared.weak_lines.DirLine.{DirLine}
use Rattle.prints.specs.declared.weak_lines.FileLine.{FileLine}
use Rattle.prints.specs.declared.weak_parts.WeakParts.{WeakParts}
use Rattle.prints.specs.Weak.{file_lines}
use Rattle.bx_tree.specs.FileInputs.{input_path}

-- bytes whose number fits 64 bits
abbrev pub IsCountable : List ℕ → Type 0
IsCountable bytes = length bytes < 2 ^ 64

-- ## What its lines say

abbrev pub IsVariable : EnvPair → Type 0
IsVariable v = IsCountable v.name × IsCountable v.value

abbrev pub IsFileLine : FileLine → Type 0
IsFileLine f = IsPath f.path × IsDigest f.digest

abbrev pub IsDirLine : DirLine → Type 0
IsDirLine d = IsPath d.path

abbrev pub IsOutDir : OutDir → Type 0
IsOutDir d = IsPath d.path

-- What its lines say that are there once: paths, digests, and steps of 64 bits.
pub record IsHeadWeak (w : WeakParts) : Type 0 where
  pub exe : IsPath w.process.exe
  pub digest : IsDigest w.exe
  pub dir : IsPath w.process.dir
  pub budget : w.budget < 2 ^ 64
  pub console : IfSome w.process.console IsPath

-- What its lists are: of paths and digests, one digest for each declared file, and each list in its order.
pub record AreListsWeak (w : WeakParts) : Type 0 where
  pub args : AllByRecursion IsCountable w.process.args
  pub env : AllByRecursion IsVariable w.process.env
  pub env_order : IsSortedByName w.process.env
  pub files : AllByRecursion IsFileLine (file_lines (map input_path w.process.files) w.files)
  pub files_order : RiseByPath w.process.files
  pub one_each : length w.process.files ≡ length w.files
  pub dirs : AllByRecursion (λ d. IsPath (dir_path d)) w.process.dirs
  pub dirs_order : RiseByForm w.process.dirs
  pub outs : AllByRecursion IsPath w.process.outs
  pub outs_order : IsStrictlySortedBy path_cmp w.process.outs
  pub outdirs : AllByRecursion IsOutDir w.process.outdirs
  pub outdirs_order : IsStrictlySortedBy outdir_cmp w.process.outdirs

-- What has a weak text.
pub record IsWeak (w : WeakParts) : Type 0 where
  pub head : IsHeadWeak w
  pub lists : AreListsWeak w

-- ## Without pips

-- the directory, as one of another pip
abbrev pub with_pip : ℕ → DirInput → DirInput
with_pip pip (Sealed other form root) = Sealed pip form root
with_pip pip (Opaque other path) = Opaque pip path

-- the directories, numbered from here on
abbrev pub numbered_from : ℕ → List DirInput → List DirInput
numbered_from k [] = []
numbered_from k (d ∷ ds) = with_pip k d ∷ numbered_from (k + 1) ds

-- The process without the pips that make its files and directories, which no weak text names: its
-- declared files are source files, and directory number k is that of pip k.
abbrev pub unlinked : ProcessDesc → ProcessDesc
unlinked p = record {
  exe = p.exe;
  args = p.args;
  env = p.env;
  dir = p.dir;
  files = map (λ f. Source (input_path f)) p.files;
  dirs = numbered_from 0 p.dirs;
  outs = p.outs;
  outdirs = p.outdirs;
  console = p.console;
}

abbrev pub without_pips : WeakParts → WeakParts
without_pips w = record { process = unlinked w.process; budget = w.budget; exe = w.exe; files = w.files }

-- ## Of a description

-- the process with these declared files, as source files
abbrev pub with_sources : Files → ProcessDesc → ProcessDesc
with_sources files p = record {
  exe = p.exe;
  args = p.args;
  env = p.env;
  dir = p.dir;
  files = map Source (paths_of files);
  dirs = numbered_from 0 p.dirs;
  outs = p.outs;
  outdirs = p.outdirs;
  console = p.console;
}

-- A description with its contents named by digest.
abbrev pub weak_parts : Desc → WeakParts
weak_parts d = record {
  process = with_sources d.files d.process;
  budget = d.budget;
  exe = sha256 d.exe;
  files = map (λ (f : Atoms × List ℕ). sha256 f.1) d.files;
}
