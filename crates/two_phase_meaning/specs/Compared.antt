-- The contents compared, among which there may be no hash collision.
use Rattle.std.specs.Prelude.{◌≡◌, ◌⊎◌, ℕ, List, map}
use Rattle.sha2.specs.Sha256.{sha256}
use Rattle.bx_tree.specs.Trees.{Files}
use Rattle.bx_tree.specs.Members.{Has}
use Rattle.pip_model_types.specs.declared.desc.Desc.{Desc}
use Rattle.observed.specs.Texts.{paths_text}
use Rattle.observed.specs.declared.ask.Ask.{Ask}
use Rattle.observed.specs.declared.access.Answer.{Answer}
use Rattle.bx_io.specs.Holdings.{Holdings}
use Rattle.tool_run.specs.Described.{described}
use Rattle.tool_run.specs.Run.{path_set}
use Rattle.run_record.specs.Facts.{run_for}
use Rattle.run_record.specs.Outcomes.{outcome_of}
use Rattle.run_record.specs.declared.outcome.Outcome.TheVariants.{Good}
use Rattle.prints.specs.Processes.{weak_parts}
use Rattle.prints.specs.Weak.{weak_text}
use Rattle.memo_format.specs.StoreNames.{HoldsBlob, HoldsList}
use Rattle.memo_format.specs.declared.selector.Selector.{Selector}
use Rattle.run_record.specs.Collisions.{contents_of}
use Rattle.run_record.specs.Digests.{weak_of}
use Rattle.two_phase_meaning.specs.Contents.{HoldsPaths, desc_contents, given_contents}
use Rattle.two_phase_meaning.specs.Usable.{asked_text}

-- the path set of the run on this view
abbrev pub own_paths : Desc → (Ask → Answer) → List Ask
own_paths d see = path_set (described d) (run_for d see).accesses

-- the list that is held for the process has a selector with a path set of this digest
abbrev pub IsSelected : Holdings → Desc → List ℕ → Type 0
IsSelected S d digest =
    (list : List Selector) × HoldsList S (weak_of d) list × ((s : Selector) × Has list s × (s.paths ≡ digest))

-- a path set that is asked at one process, by the digest of its text: that of the run, or one that is held and
-- that a selector of the process names
abbrev pub IsComparedPathSet : Holdings → Desc → (Ask → Answer) → List ℕ → List Ask → Type 0
IsComparedPathSet S d see digest asks =
    ((own_paths d see ≡ asks) × (sha256 (paths_text asks) ≡ digest))
    ⊎ (IsSelected S d digest × HoldsPaths S digest asks)

-- What is compared at one process on its view: what the store holds under its own digest; the weak text, the
-- contents of the declared files and the path set of the run; of that path set, and of each that is held and that
-- a selector of the process names, the strong text of asking it now, and the contents and names that it is
-- answered; and the files that the run made. There are finitely many of them, as the store holds finitely many
-- texts.
pub data ComparedInRun (S : Holdings) (d : Desc) (see : Ask → Answer) (x : List ℕ) : Type 0 where
  stored : HoldsBlob S x → ComparedInRun S d see x
  weak : weak_text (weak_parts d) ≡ x → ComparedInRun S d see x
  declared : Has (desc_contents d) x → ComparedInRun S d see x
  own_set : paths_text (own_paths d see) ≡ x → ComparedInRun S d see x
  strong : (digest : List ℕ) (asks : List Ask) → IsComparedPathSet S d see digest asks
      → asked_text d see digest asks ≡ x → ComparedInRun S d see x
  given : (digest : List ℕ) (asks : List Ask) → IsComparedPathSet S d see digest asks
      → Has (given_contents (map see asks)) x → ComparedInRun S d see x
  made : (files : Files) → outcome_of (described d) (run_for d see) ≡ Good files
      → Has (contents_of files) x → ComparedInRun S d see x
