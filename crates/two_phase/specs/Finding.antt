-- What is found in a store, or that nothing is.
use Rattle.std.specs.Prelude.{◌≡◌, ◌⊎◌, ℕ, true, false, List, map, Option, Some, None, IsTrue}
use Rattle.sha2.specs.Sha256.{sha256}
use Rattle.bx_tree.specs.Paths.{Atoms}
use Rattle.bx_tree.specs.Trees.{Files, NoneNested, paths_of}
use Rattle.tool_run_writes.specs.Writes.{put_file}
use Rattle.pip_model_types.specs.declared.desc.Desc.{Desc}
use Rattle.observed.specs.declared.ask.Ask.{Ask}
use Rattle.observed.specs.declared.access.Answer.{Answer}
use Rattle.bx_io.specs.Holdings.{Holdings}
use Rattle.memo_format.specs.Entries.{output_paths}
use Rattle.memo_format.specs.Found.{FoundParts, output_lines}
use Rattle.memo_format.specs.declared.entry.Entry.{Entry}
use Rattle.memo_format.specs.declared.entry.OutputLine.{OutputLine}
use Rattle.memo_format.specs.declared.selector.Selector.{Selector}
use Rattle.content_store.specs.Contents.{IsContent}
use Rattle.content_store.specs.HeldEntries.{IsHeld}
use Rattle.run_record.specs.Collisions.{contents_of}
use Rattle.run_record.specs.Digests.{weak_of}
use Rattle.two_phase_meaning.specs.Contents.{HoldsAll}
use Rattle.two_phase_meaning.specs.Usable.{asked_text, fits}

-- What is found has the property, and where nothing is found, nothing has it.
abbrev pub IsOne : {X : Type 0} → Holdings → (Holdings → X → Type 0) → Option X → Type 0
IsOne {X = X} S P None = (x : X) → P S x → ⊥
IsOne S P (Some x) = P S x

-- That of what is told to be held.
abbrev pub FindsOne : {X : Type 0} → Option Holdings → (Holdings → X → Type 0) → Option X → Type 0
FindsOne told P found = (S : Holdings) → told ≡ Some S → IsOne S P found

-- Each of the files is held, they are these outputs by path and digest, and none is below another.
pub record AreOutputs (S : Holdings) (outputs : List OutputLine) (files : Files) : Type 0 where
  pub outputs_are : output_lines files ≡ outputs
  pub held : HoldsAll S (contents_of files)
  pub unnested : NoneNested (output_paths outputs)

-- what a file put among others leaves, and nothing where its path clashes with one of them
abbrev pub PutsIn : Files → Atoms → List ℕ → Option Files → Type 0
PutsIn files path bytes None = (now : Files) × ((now, false) ≡ put_file files path bytes)
PutsIn files path bytes (Some now) = (now, true) ≡ put_file files path bytes

-- These are the files with the content of the output put among them.
pub record IsAdded (held : Option Holdings) (files : Files) (o : OutputLine) (now : Files) : Type 0 where
  pub bytes : List ℕ
  pub found : FindsOne held (λ S x. IsContent S o.digest x) (Some bytes)
  pub digest_is : sha256 bytes ≡ o.digest
  pub put : (now, true) ≡ put_file files o.path bytes

-- The output is added to the files, or it is not held, or clashes with one of them.
abbrev pub AddsTo : Option Holdings → Files → OutputLine → Option Files → Type 0
AddsTo held files o (Some now) = IsAdded held files o now
AddsTo held files o None =
    FindsOne held (λ S x. IsContent S o.digest x) None ⊎ ((bytes : List ℕ) × PutsIn files o.path bytes None)

-- The entry of the selector is held, names the weak text of the process and the selector's path set, and has
-- outputs that fit the process.
pub record IsEntryFor (S : Holdings) (d : Desc) (s : Selector) (e : Entry) : Type 0 where
  pub held : IsHeld S s.strong e
  pub weak_is : e.weak ≡ weak_of d
  pub paths_are : e.paths ≡ s.paths
  pub fit : IsTrue (fits d.process (output_paths e.outputs))

-- The entry names the weak text of the process, and the selector's path set and strong text.
pub record IsNamedBy (d : Desc) (s : Selector) (e : Entry) : Type 0 where
  pub weak_is : e.weak ≡ weak_of d
  pub paths_are : e.paths ≡ s.paths
  pub strong_is : e.strong ≡ s.strong

-- The entry with its outputs, under this path set and these answers.
pub record IsWith (S : Holdings) (e : Entry) (asks : List Ask) (given : List Answer) (found : FoundParts)
    : Type 0 where
  pub entry_is : found.entry ≡ e
  pub made : AreOutputs S e.outputs found.made
  pub asks_are : found.paths ≡ asks
  pub given_are : found.answers ≡ given

-- An entry of the selector with its outputs, under this path set and these answers.
pub record IsOn (S : Holdings) (d : Desc) (s : Selector) (asks : List Ask) (given : List Answer)
    (found : FoundParts) : Type 0 where
  pub entry : IsEntryFor S d s found.entry
  pub made : AreOutputs S found.entry.outputs found.made
  pub asks_are : found.paths ≡ asks
  pub given_are : found.answers ≡ given

-- The path set, asked now, gives the strong digest of the selector, and this is an entry of it with its
-- outputs.
pub record IsStrongMatch (S : Holdings) (d : Desc) (see : Ask → Answer) (s : Selector) (asks : List Ask)
    (found : FoundParts) : Type 0 where
  pub asked : sha256 (asked_text d see s.paths asks) ≡ s.strong
  pub on : IsOn S d s asks (map see asks) found

-- ## Whatever is held

-- it is this entry, under this path set and these answers, with files for the outputs, none below another
pub record HasParts (e : Entry) (asks : List Ask) (given : List Answer) (found : FoundParts) : Type 0 where
  pub entry_is : found.entry ≡ e
  pub asks_are : found.paths ≡ asks
  pub given_are : found.answers ≡ given
  pub lines_are : output_lines found.made ≡ e.outputs
  pub unnested : NoneNested (paths_of found.made)

-- it is of this process, under this path set and these answers, with files that fit the process, none below
-- another
pub record IsOf (d : Desc) (asks : List Ask) (given : List Answer) (found : FoundParts) : Type 0 where
  pub weak_is : found.entry.weak ≡ weak_of d
  pub asks_are : found.paths ≡ asks
  pub given_are : found.answers ≡ given
  pub fit : IsTrue (fits d.process (paths_of found.made))
  pub unnested : NoneNested (paths_of found.made)
