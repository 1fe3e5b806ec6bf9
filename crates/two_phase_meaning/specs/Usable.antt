-- What a lookup may take.
use Rattle.std.specs.Prelude.{◌≡◌, ◌⊎◌, ℕ, Bool, true, ◌||◌, ◌&&◌, IsTrue, List, [], ◌∷◌, map}
use Rattle.std.specs.List.{list_all, list_any}
use Rattle.std.specs.Option.{option_map_or}
use Rattle.sha2.specs.Sha256.{sha256}
use Rattle.bx_tree.specs.Paths.{Atoms, has_path}
use Rattle.bx_tree.specs.Trees.{Files, NoneNested}
use Rattle.bx_tree.specs.Members.{Has}
use Rattle.pip_model_types.specs.declared.desc.Desc.{Desc}
use Rattle.pip_model_types.specs.declared.outputs.OutDir.{OutDir}
use Rattle.pip_model_types.specs.declared.pip.ProcessDesc.{ProcessDesc}
use Rattle.observed.specs.Texts.{has_match}
use Rattle.observed.specs.declared.ask.Ask.{Ask}
use Rattle.observed.specs.declared.access.Answer.{Answer}
use Rattle.bx_io.specs.Holdings.{Holdings}
use Rattle.bx_tree.specs.Below.{is_below}
use Rattle.prints.specs.Strong.{strong_parts, strong_text}
use Rattle.memo_format.specs.Entries.{output_paths}
use Rattle.memo_format.specs.Found.{output_lines}
use Rattle.memo_format.specs.StoreNames.{HoldsList}
use Rattle.memo_format.specs.declared.entry.Entry.{Entry}
use Rattle.memo_format.specs.declared.selector.Selector.{Selector}
use Rattle.content_store.specs.HeldEntries.{IsHeld}
use Rattle.run_record.specs.Collisions.{contents_of}
use Rattle.run_record.specs.Digests.{weak_of}
use Rattle.two_phase_meaning.specs.Contents.{HoldsAll, HoldsPaths}
use Rattle.pip_model_types.specs.Outputs.{is_console}

-- ## Outputs

-- whether a process may make a file at the path: it is a declared output file or the console file, or lies
-- strictly below an output directory
abbrev pub may_make : ProcessDesc → Atoms → Bool
may_make p path =
    has_path p.outs path || is_console p.console path
    || list_any (λ (dir : OutDir). is_below path dir.path) p.outdirs

-- whether the paths have all output files of the process and its console file, and each of them is one that
-- the process may make
abbrev pub fits : ProcessDesc → List Atoms → Bool
fits p paths =
    list_all (has_path paths) p.outs && option_map_or (has_path paths) p.console true
    && list_all (may_make p) paths

-- ## Selectors

-- the strong text of a path set that is asked now, by the digest of its text
abbrev pub asked_text : Desc → (Ask → Answer) → List ℕ → List Ask → List ℕ
asked_text d see paths asks =
    strong_text (strong_parts (has_match asks) (weak_of d) paths (map see asks))

-- A selector is usable where its path set is held; that path set, asked now, gives the selector's strong
-- digest; the entry of that digest is held, and names this weak digest and this path set; its outputs fit the
-- process, and none is a directory of another; and each output is held.
pub record UsableBy (S : Holdings) (d : Desc) (see : Ask → Answer) (s : Selector) : Type 0 where
  pub asks : List Ask
  pub paths : HoldsPaths S s.paths asks
  pub asked : sha256 (asked_text d see s.paths asks) ≡ s.strong
  pub entry : Entry
  pub held : IsHeld S s.strong entry
  pub weak_is : entry.weak ≡ weak_of d
  pub paths_are : entry.paths ≡ s.paths
  pub fit : IsTrue (fits d.process (output_paths entry.outputs))
  pub unnested : NoneNested (output_paths entry.outputs)
  pub files : Files
  pub outputs : output_lines files ≡ entry.outputs
  pub made : HoldsAll S (contents_of files)

-- some selector of the list is usable
abbrev pub AnyUsable : Holdings → Desc → (Ask → Answer) → List Selector → Type 0
AnyUsable S d see [] = ⊥
AnyUsable S d see (s ∷ rest) = UsableBy S d see s ⊎ AnyUsable S d see rest

-- A list of selectors is held for the process, and one of them is usable on this view.
pub record Usable (S : Holdings) (d : Desc) (see : Ask → Answer) : Type 0 where
  pub list : List Selector
  pub held : HoldsList S (weak_of d) list
  pub any : AnyUsable S d see list

-- The list that is held for the process has this selector, which is usable on this view by this path set.
pub record UsableAt (S : Holdings) (d : Desc) (see : Ask → Answer) (s : Selector) (asks : List Ask)
    : Type 0 where
  pub list : List Selector
  pub held : HoldsList S (weak_of d) list
  pub listed : Has list s
  pub by : UsableBy S d see s
  pub asks_are : by.asks ≡ asks
