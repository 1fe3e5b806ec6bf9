-- Path sets and entries that are read of what a store holds.
use Rattle.std.specs.Prelude.{◌≡◌, ℕ, List, Option, Some, None}
use Rattle.sha2.specs.Sha256.{sha256}
use Rattle.observed.specs.Texts.{read_paths_text}
use Rattle.observed.specs.declared.ask.Ask.{Ask}
use Rattle.memo_format.specs.Entries.{IsEntry, read_entry_text}
use Rattle.memo_format.specs.PathsTexts.{IsPathsText, PathsText}
use Rattle.memo_format.specs.declared.entry.Entry.{Entry}
use Rattle.two_phase.specs.declared.fetching.HeldEntry.{HeldEntry}

-- The text is read as a path set, or it is the text of none.
abbrev pub ReadsText : List ℕ → Option PathsText → Type 0
ReadsText text None = (asks : List Ask) → read_paths_text text ≡ Some asks → ⊥
ReadsText text (Some p) = IsPathsText p × (p.text ≡ text)

-- Bytes that are held under a digest are read as a path set, or have another digest or are the text of none.
abbrev pub ReadsSet : List ℕ → List ℕ → Option PathsText → Type 0
ReadsSet bytes digest None = (asks : List Ask) → sha256 bytes ≡ digest → read_paths_text bytes ≡ Some asks → ⊥
ReadsSet bytes digest (Some p) = IsPathsText p × ((p.text ≡ bytes) × (p.digest ≡ digest))

-- The text is that of the entry.
abbrev pub IsEntryText : HeldEntry → Type 0
IsEntryText h = IsEntry h.entry × (read_entry_text h.text.items ≡ Some h.entry)

-- the entry alone, if there is one
abbrev pub entry_in : Option HeldEntry → Option Entry
entry_in None = None
entry_in (Some h) = Some h.entry

-- A text that is held under a strong digest is read as an entry of it, or it is the text of none.
abbrev pub ReadsEntry : List ℕ → List ℕ → Option HeldEntry → Type 0
ReadsEntry text strong None = (e : Entry) → read_entry_text text ≡ Some e → e.strong ≡ strong → ⊥
ReadsEntry text strong (Some h) = IsEntryText h × ((h.text.items ≡ text) × (h.entry.strong ≡ strong))
