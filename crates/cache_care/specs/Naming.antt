-- The digests that an entry names.
use Rattle.std.specs.Prelude.{ℕ, List, [], ◌∷◌, ◌++◌, map, Option, Some, None, if◌then◌else◌}
use Rattle.std.specs.FinMap.{get}
use Rattle.std.specs.List.{flat_map}
use Rattle.std.specs.Str.{bytes_eq}
use Rattle.sha2.specs.Sha256.{sha256}
use Rattle.bx_io.specs.Holdings.{Holdings}
use Rattle.prints.specs.Reading.{◌>>=◌}
use Rattle.prints.specs.ReadWeak.{read_weak_text}
use Rattle.prints.specs.Strong.{read_strong_text}
use Rattle.prints.specs.declared.strong_parts.AnswerLine.{AnswerLine}
use Rattle.prints.specs.declared.strong_parts.AnswerLine.TheVariants as lines
use Rattle.prints.specs.declared.strong_parts.StrongParts.{StrongParts}
use Rattle.prints.specs.declared.weak_parts.WeakParts.{WeakParts}
use Rattle.memo_format.specs.Entries.{entry_body, read_entry_text}
use Rattle.memo_format.specs.StoreNames.{at_blob, at_entry}
use Rattle.memo_format.specs.declared.entry.Entry.{Entry}
use Rattle.memo_format.specs.declared.entry.OutputLine.{OutputLine}

-- ## What is held

-- the content of a digest, if it is held under that
abbrev pub content_at : Holdings → List ℕ → Option (List ℕ)
content_at S digest = get S (at_blob digest) >>= λ bytes. if bytes_eq (sha256 bytes) digest then Some bytes else None

-- what the weak text of a digest says, if one is held
abbrev pub weak_at : Holdings → List ℕ → Option WeakParts
weak_at S digest = content_at S digest >>= read_weak_text

-- what the strong text of a digest says, if one is held
abbrev pub strong_at : Holdings → List ℕ → Option StrongParts
strong_at S digest = content_at S digest >>= read_strong_text

-- the entry that a name says, if it is held there
abbrev pub entry_at : Holdings → List ℕ → Option Entry
entry_at S name =
    get S name >>= read_entry_text >>= λ (e : Entry). if bytes_eq (at_entry e.strong) name then Some e else None

-- ## What is named

-- by the lines of an entry, of which the last is its seal
abbrev pub in_entry : Entry → List (List ℕ)
in_entry e =
    e.weak ∷ e.paths ∷ e.strong ∷ (map (λ (o : OutputLine). o.digest) e.outputs ++ sha256 (entry_body e) ∷ [])

-- by a weak text, if it is one
abbrev pub in_weak : Option WeakParts → List (List ℕ)
in_weak None = []
in_weak (Some w) = w.exe ∷ w.files

abbrev pub in_line : AnswerLine → List (List ℕ)
in_line lines.Absent = []
in_line (lines.Content digest) = digest ∷ []
in_line lines.File = []
in_line lines.Directory = []
in_line (lines.Names digest) = digest ∷ []
in_line lines.Denied = []

-- by a strong text, if it is one
abbrev pub in_strong : Option StrongParts → List (List ℕ)
in_strong None = []
in_strong (Some s) = s.weak ∷ s.paths ∷ flat_map in_line s.lines

-- by an entry and by its weak and its strong text, where these are held
abbrev pub named_by : Holdings → Entry → List (List ℕ)
named_by S e = in_entry e ++ (in_weak (weak_at S e.weak) ++ in_strong (strong_at S e.strong))

-- by a name of an entry: one that is not well-formed names nothing
abbrev pub named_at_entry : Holdings → Option Entry → List (List ℕ)
named_at_entry S None = []
named_at_entry S (Some e) = named_by S e

abbrev pub named_at : Holdings → List ℕ → List (List ℕ)
named_at S name = named_at_entry S (entry_at S name)
