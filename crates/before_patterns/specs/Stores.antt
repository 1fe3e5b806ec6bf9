-- Which stores were honest, and which selectors usable, before there were listings with a pattern.
use Rattle.std.specs.Prelude.{◌≡◌, ◌⊎◌, ℕ, IsTrue, List, [], ◌∷◌, length, map, Some, if◌then◌else◌}
use Rattle.sha2.specs.Sha256.{sha256}
use Rattle.bx_tree.specs.Trees.{Files, NoneNested}
use Rattle.pip_model_types.specs.declared.desc.Desc.{Desc}
use Rattle.observed.specs.declared.ask.Ask.{Ask}
use Rattle.observed.specs.declared.access.Answer.{Answer}
use Rattle.observed.specs.declared.access.Answer.TheVariants as answers
use Rattle.bx_io.specs.Holdings.{Holdings}
use Rattle.tool_run.specs.Description.{Description}
use Rattle.run_record.specs.Collisions.{contents_of}
use Rattle.run_record.specs.Digests.{weak_of}
use Rattle.run_record.specs.Outcomes.{outcome_of}
use Rattle.run_record.specs.declared.outcome.Outcome.TheVariants.{Good}
use Rattle.prints.specs.Processes.{weak_parts}
use Rattle.prints.specs.declared.strong_parts.StrongParts.{StrongParts}
use Rattle.memo_format.specs.Entries.{output_paths}
use Rattle.memo_format.specs.Found.{output_lines}
use Rattle.memo_format.specs.StoreNames.{HoldsEntry, HoldsList}
use Rattle.memo_format.specs.declared.entry.Entry.{Entry}
use Rattle.memo_format.specs.declared.selector.Selector.{Selector}
use Rattle.content_store.specs.Contents.{IsContent}
use Rattle.content_store.specs.HeldEntries.{IsHeld}
use Rattle.two_phase_meaning.specs.Contents.{HoldsAll, HoldsWeak, desc_contents, given_contents}
use Rattle.two_phase_meaning.specs.Usable.{fits}
use Rattle.before_patterns.specs.Asks.{same_ask}
use Rattle.before_patterns.specs.PathTexts.{read_paths_text}
use Rattle.before_patterns.specs.Runs.{described, path_set, run_of}
use Rattle.before_patterns.specs.StrongTexts.{read_strong_text, strong_parts, strong_text}

-- the answer that is stored for an ask, or absent
abbrev pub answered : List Ask → List Answer → Ask → Answer
answered [] stored q = answers.Absent
answered (x ∷ xs) [] q = answers.Absent
answered (x ∷ xs) (a ∷ stored) q = if same_ask x q then a else answered xs stored q

-- the text of this path set is held under the digest
abbrev pub HoldsPaths : Holdings → List ℕ → List Ask → Type 0
HoldsPaths S digest asks = (text : List ℕ) × IsContent S digest text × (read_paths_text text ≡ Some asks)

-- a strong text that says this is held under the digest
abbrev pub HoldsStrong : Holdings → List ℕ → StrongParts → Type 0
HoldsStrong S digest parts =
    (text : List ℕ) × IsContent S digest text × (read_strong_text text ≡ Some parts)

-- ## Honest stores

pub record IsGoodRun (d : Description) (a : Ask → Answer) (paths : List Ask) (files : Files)
    : Type 0 where
  pub paths_are : path_set d (run_of d a).accesses ≡ paths
  pub outcome : outcome_of d (run_of d a) ≡ Good files

pub record HonestEntry (S : Holdings) (e : Entry) : Type 0 where
  pub desc : Desc
  pub asks : List Ask
  pub given : List Answer
  pub files : Files
  pub weak : HoldsWeak S e.weak (weak_parts desc)
  pub paths : HoldsPaths S e.paths asks
  pub strong : HoldsStrong S e.strong (strong_parts e.weak e.paths given)
  pub one_each : length given ≡ length asks
  pub declared : HoldsAll S (desc_contents desc)
  pub answers : HoldsAll S (given_contents given)
  pub made : HoldsAll S (contents_of files)
  pub outputs : output_lines files ≡ e.outputs
  pub run : IsGoodRun (described desc) (answered asks given) asks files

abbrev pub Honest : Holdings → Type 0
Honest S = (e : Entry) → HoldsEntry S e → HonestEntry S e

-- ## Usable selectors

abbrev pub asked_text : Desc → (Ask → Answer) → List ℕ → List Ask → List ℕ
asked_text d see paths asks = strong_text (strong_parts (weak_of d) paths (map see asks))

pub record UsableBy (S : Holdings) (d : Desc) (see : Ask → Answer) (s : Selector) : Type 0 where
  pub asks : List Ask
  pub paths : HoldsPaths S s.paths asks
  pub asked : sha256 (asked_text d see s.paths asks) ≡ s.strong
  pub entry : Entry
  pub held : IsHeld S s.strong entry
  pub weak_is : entry.weak ≡ weak_of d
  pub paths_are : entry.paths ≡ s.paths
  pub fit : IsTrue (fits d.process (output_paths entry.outputs))
  pub unnested : NoneNested (output_paths entry.outputs)
  pub files : Files
  pub outputs : output_lines files ≡ entry.outputs
  pub made : HoldsAll S (contents_of files)

abbrev pub AnyUsable : Holdings → Desc → (Ask → Answer) → List Selector → Type 0
AnyUsable S d see [] = ⊥
AnyUsable S d see (s ∷ rest) = UsableBy S d see s ⊎ AnyUsable S d see rest

pub record Usable (S : Holdings) (d : Desc) (see : Ask → Answer) : Type 0 where
  pub list : List Selector
  pub held : HoldsList S (weak_of d) list
  pub any : AnyUsable S d see list
