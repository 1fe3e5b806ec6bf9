-- What puts of a record leave.
use Rattle.std.specs.Prelude.{◌≡◌, ◌⊎◌, ℕ, List, [], ◌∷◌, ◌++◌, map, Option, Some, IsSome}
use Rattle.sha2.specs.Sha256.{sha256}
use Rattle.observed.specs.Texts.{paths_text}
use Rattle.bx_io.specs.Holdings.{Change, Holdings, IsPrefix, Makes, Put, StoreTold, holdings_after}
use Rattle.run_record.specs.Facts.{Facts}
use Rattle.memo_format.specs.declared.selector.Selector.{Selector}
use Rattle.prints.specs.Processes.{weak_parts}
use Rattle.prints.specs.Weak.{weak_text}
use Rattle.memo_format.specs.Entries.{entry_text}
use Rattle.memo_format.specs.Selectors.{selectors_text}
use Rattle.memo_format.specs.StoreNames.{at_entry, at_list}
use Rattle.content_store.specs.Contents.{blob_put}
use Rattle.run_record.specs.Collisions.{contents_of}
use Rattle.run_record.specs.Digests.{weak_of}
use Rattle.two_phase_meaning.specs.Contents.{desc_contents, given_contents}
use Rattle.two_phase_meaning.specs.Honest.{Honest}
use Rattle.two_phase_meaning.specs.Saving.{Spelled, answers_text, list_at, outcome_files, puts_of, record_entry, record_selector, with_first}
use Rattle.two_phase.specs.Applying.{AppliesAll}
use Rattle.two_phase.specs.declared.recording.Written.{Written}

-- These selectors are told to be held for the weak text.
abbrev pub IsListAt : Option Holdings → List ℕ → List Selector → Type 0
IsListAt told weak list = (S : Holdings) → told ≡ Some S → list ≡ list_at S weak

-- the selector of what was written
abbrev pub written_selector : Written → Selector
written_selector w = record { paths = sha256 w.paths; strong = w.strong.digest }

-- The text is that of the list that is held, with the selector of what was written first.
pub record IsNextList (told : Option Holdings) (w : Written) (text : List ℕ) : Type 0 where
  pub old : List Selector
  pub old_is : IsListAt told w.weak.digest old
  pub text_is : text ≡ selectors_text (with_first (written_selector w) old)

-- what is put for a record where these selectors are held for its process
abbrev pub planned : Facts → List Selector → List Change
planned f old = puts_of f (with_first (record_selector f) old)

-- The texts of the record, each with its digest and all but the strong one read back, its contents, and the
-- text of its entry.
pub record IsWritten (f : Facts) (w : Written) : Type 0 where
  pub weak : w.weak.text.items ≡ weak_text (weak_parts f.desc)
  pub weak_digest : w.weak.digest ≡ weak_of f.desc
  pub paths : w.paths ≡ paths_text f.paths
  pub strong : w.strong.text.items ≡ answers_text f
  pub strong_digest : w.strong.digest ≡ sha256 (answers_text f)
  pub contents : w.contents.items
      ≡ desc_contents f.desc ++ (given_contents f.answers ++ contents_of (outcome_files f.outcome))
  pub entry : w.entry.items ≡ entry_text (record_entry f)
  pub spelled : Spelled f

-- the texts and contents that were written
abbrev pub all_blobs : Written → List (List ℕ)
all_blobs w = w.weak.text.items ∷ w.paths ∷ w.strong.text.items ∷ w.contents.items

-- the puts of all that was written, and of the text of a list
abbrev pub all_puts : Written → List ℕ → List Change
all_puts w list =
    map blob_put (all_blobs w)
    ++ (Put (at_entry w.strong.digest) w.entry.items ∷ Put (at_list w.weak.digest) list ∷ [])

-- The puts of the record were made up to some place, but for those that would have changed nothing, and
-- nothing else; where that is not the first place, the texts of the record are read back. The selectors that
-- were held are those that were told before, where the store still tells.
pub record PutsUpTo (before now : StoreTold) (f : Facts) : Type 0 where
  pub old : List Selector
  pub old_is : IsSome now.held → IsListAt before.held (weak_of f.desc) old
  pub first : List Change
  pub is_first : IsPrefix first (planned f old)
  pub applies : AppliesAll before first now
  pub spelled : (first ≡ []) ⊎ Spelled f

-- All puts of the record were made, but for those that would have changed nothing, and nothing else.
pub record PutsAll (before now : StoreTold) (f : Facts) : Type 0 where
  pub old : List Selector
  pub old_is : IsSome now.held → IsListAt before.held (weak_of f.desc) old
  pub applies : AppliesAll before (planned f old) now
  pub spelled : Spelled f

-- These changes were made, and what is held, which was this before them, was honest before them and after each.
pub record LeavesHonest (held : Holdings) (before now : StoreTold) : Type 0 where
  pub made : List Change
  pub makes : Makes before made now
  pub along : (start : List Change) → IsPrefix start made → Honest (holdings_after held start)
