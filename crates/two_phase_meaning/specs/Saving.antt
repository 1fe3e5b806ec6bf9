-- What is put for a record, and in which order.
use Rattle.std.specs.Prelude.{◌≡◌, ◌⊎◌, ℕ, Bool, IsTrue, ◌&&◌, not, List, [], ◌∷◌, ◌++◌, map, filter, take}
use Rattle.std.specs.Prelude.{Option, Some, None}
use Rattle.std.specs.FinMap.{get}
use Rattle.std.specs.Str.{bytes_eq}
use Rattle.sha2.specs.Sha256.{sha256}
use Rattle.bx_tree.specs.Trees.{Files, NoneNested}
use Rattle.bx_tree.specs.Members.{Has}
use Rattle.pip_model_types.specs.declared.desc.Desc.{Desc}
use Rattle.observed.specs.Texts.{has_match, paths_text, read_paths_text}
use Rattle.observed.specs.declared.ask.Ask.{Ask}
use Rattle.observed.specs.declared.access.Answer.{Answer}
use Rattle.bx_io.specs.Holdings.{Change, Holdings, Put}
use Rattle.run_record.specs.Facts.{Facts}
use Rattle.run_record.specs.declared.outcome.Outcome.{Outcome}
use Rattle.run_record.specs.declared.outcome.Outcome.TheVariants.{Good, Failed}
use Rattle.prints.specs.Processes.{weak_parts}
use Rattle.prints.specs.Strong.{strong_parts, strong_text}
use Rattle.prints.specs.Weak.{weak_text}
use Rattle.memo_format.specs.Entries.{entry_text, output_paths, read_entry_text}
use Rattle.memo_format.specs.Found.{output_lines}
use Rattle.memo_format.specs.Selectors.{read_selectors_text, selectors_text}
use Rattle.memo_format.specs.StoreNames.{HoldsBlob, at_entry, at_list}
use Rattle.memo_format.specs.declared.entry.Entry.{Entry}
use Rattle.memo_format.specs.declared.selector.Selector.{Selector}
use Rattle.memo_format.specs.declared.selector.TheConstants.{MAX_SELECTORS}
use Rattle.content_store.specs.Contents.{blob_put}
use Rattle.run_record.specs.Collisions.{contents_of}
use Rattle.run_record.specs.Digests.{IsReadBack, weak_of}
use Rattle.two_phase_meaning.specs.Contents.{desc_contents, given_contents}
use Rattle.two_phase_meaning.specs.Usable.{asked_text, fits}

-- ## Records of successes

-- the files that were made, none where the run failed
abbrev pub outcome_files : Outcome → Files
outcome_files (Good files) = files
outcome_files (Failed cause) = []

-- the record is of a success
abbrev pub IsGood : Facts → Type 0
IsGood f = f.outcome ≡ Good (outcome_files f.outcome)

-- The files of the record are what its process declares to make and may make, and none is below another.
pub record FilesFit (f : Facts) : Type 0 where
  pub fit : IsTrue (fits f.desc.process (output_paths (output_lines (outcome_files f.outcome))))
  pub unnested : NoneNested (output_paths (output_lines (outcome_files f.outcome)))

-- the digest of the path set's text
abbrev pub paths_digest : Facts → List ℕ
paths_digest f = sha256 (paths_text f.paths)

-- the strong text of the answers
abbrev pub answers_text : Facts → List ℕ
answers_text f =
    strong_text (strong_parts (has_match f.paths) (weak_of f.desc) (paths_digest f) f.answers)

abbrev pub record_selector : Facts → Selector
record_selector f = record { paths = paths_digest f; strong = sha256 (answers_text f) }

abbrev pub entry_with : List ℕ → List ℕ → List ℕ → Files → Entry
entry_with weak paths strong files =
    record { weak = weak; paths = paths; strong = strong; outputs = output_lines files }

abbrev pub record_entry : Facts → Entry
record_entry f = entry_with (weak_of f.desc) (paths_digest f) (sha256 (answers_text f)) (outcome_files f.outcome)

-- the three texts, and all contents that they and the entry name
abbrev pub blobs_of : Facts → List (List ℕ)
blobs_of f =
    weak_text (weak_parts f.desc) ∷ paths_text f.paths ∷ answers_text f
    ∷ (desc_contents f.desc ++ (given_contents f.answers ++ contents_of (outcome_files f.outcome)))

-- ## Lists of selectors

abbrev pub same_selector : Selector → Selector → Bool
same_selector a b = bytes_eq a.paths b.paths && bytes_eq a.strong b.strong

-- the list with this selector first and no other equal to it, cut to the greatest length
abbrev pub with_first : Selector → List Selector → List Selector
with_first s list = take MAX_SELECTORS (s ∷ filter (λ other. not (same_selector s other)) list)

abbrev pub or_none : Option (List Selector) → List Selector
or_none None = []
or_none (Some list) = list

abbrev pub selectors_in : Option (List ℕ) → List Selector
selectors_in None = []
selectors_in (Some text) = or_none (read_selectors_text text)

-- the selectors that are held for a weak text with this digest, none where their list is not well-formed
abbrev pub list_at : Holdings → List ℕ → List Selector
list_at S weak = selectors_in (get S (at_list weak))

-- ## Puts

abbrev pub entry_put : Facts → Change
entry_put f = Put (at_entry (sha256 (answers_text f))) (entry_text (record_entry f))

abbrev pub list_put : Facts → List Selector → Change
list_put f list = Put (at_list (weak_of f.desc)) (selectors_text list)

-- What is put for a record: its texts and contents, then its entry, then the list of its selectors.
abbrev pub puts_of : Facts → List Selector → List Change
puts_of f list = map blob_put (blobs_of f) ++ (entry_put f ∷ list_put f list ∷ [])

-- ## Texts that are read back

-- The texts of a record are read as what they were written of. The strong text of any answers is.
pub record Spelled (f : Facts) : Type 0 where
  pub weak : IsReadBack f.desc
  pub paths : read_paths_text (paths_text f.paths) ≡ Some f.paths
  pub entry : read_entry_text (entry_text (record_entry f)) ≡ Some (record_entry f)

-- what is compared where a record is put into a store: what the store holds under its own digest, and what is put
abbrev pub ComparedInSave : Holdings → Facts → List ℕ → Type 0
ComparedInSave S f x = HoldsBlob S x ⊎ Has (blobs_of f) x

-- what is compared where a record is put into a store in which a selector with this path set is usable for a
-- process
abbrev pub ComparedInStay : Holdings → Facts → Desc → (Ask → Answer) → List ℕ → List Ask → List ℕ → Type 0
ComparedInStay S f d see digest asks x = ComparedInSave S f x ⊎ (asked_text d see digest asks ≡ x)
