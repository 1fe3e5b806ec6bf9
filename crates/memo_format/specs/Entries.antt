-- Entries: their text, and what a text is read as.
use Rattle.std.specs.Prelude.{ℕ, Bool, List, ◌++◌, codes, map, Option}
use Rattle.std.specs.List.{AllByRecursion, flat_map}
use Rattle.std.specs.List.Sorted.{IsStrictlySortedBy}
use Rattle.std.specs.Ordering.{is_lt}
use Rattle.bx_tree.specs.Paths.{Atoms, IsPath, path_cmp}
use Rattle.bx_digest.specs.Digests.{IsDigest}
use Rattle.prints.specs.Lines.{begins, lines_at, rises}
use Rattle.prints.specs.Parts.{digest_at, digest_part, path_at, path_part}
use Rattle.prints.specs.Reading.{Taken, ◌>>=◌, after_word, as_at, both_at, only_at, whole_of}
use Rattle.memo_format.specs.Seals.{sealed, unsealed}
use Rattle.memo_format.specs.declared.entry.Entry.{Entry}
use Rattle.memo_format.specs.declared.entry.OutputLine.{OutputLine}

abbrev pub output_paths : List OutputLine → List Atoms
output_paths = map (λ (o : OutputLine). o.path)

-- outputs in strictly rising order of their paths
abbrev pub OutputsRise : List OutputLine → Type 0
OutputsRise outputs = IsStrictlySortedBy path_cmp (output_paths outputs)

abbrev pub IsOutput : OutputLine → Type 0
IsOutput o = IsPath o.path × IsDigest o.digest

-- What is an entry: its digests are digests, and its outputs rise by path.
pub record IsEntry (e : Entry) : Type 0 where
  pub weak : IsDigest e.weak
  pub paths : IsDigest e.paths
  pub strong : IsDigest e.strong
  pub outputs : AllByRecursion IsOutput e.outputs
  pub order : OutputsRise e.outputs

-- ## The text

-- a file that was made, with its digest
abbrev pub output_line : OutputLine → List ℕ
output_line o = codes "output " ++ (path_part 32 o.path ++ digest_part 10 o.digest)

abbrev pub weak_line : List ℕ → List ℕ
weak_line digest = codes "weak " ++ digest_part 10 digest

abbrev pub paths_line : List ℕ → List ℕ
paths_line digest = codes "paths " ++ digest_part 10 digest

abbrev pub strong_line : List ℕ → List ℕ
strong_line digest = codes "strong " ++ digest_part 10 digest

abbrev pub entry_body : Entry → List ℕ
entry_body e =
    codes "entry 1\n" ++ (weak_line e.weak
    ++ (paths_line e.paths ++ (strong_line e.strong ++ flat_map output_line e.outputs)))

abbrev pub entry_text : Entry → List ℕ
entry_text e = sealed (entry_body e)

-- ## What a text is read as

abbrev pub output_of : Atoms × List ℕ → OutputLine
output_of p = record { path = p.0; digest = p.1 }

abbrev pub output_at : List ℕ → Taken OutputLine
output_at = as_at output_of (after_word (codes "output ") (both_at (path_at 32) (digest_at 10)))

abbrev pub output_before : OutputLine → OutputLine → Bool
output_before a b = is_lt (path_cmp a.path b.path)

unfoldable pub outputs_at : List ℕ → Taken (List OutputLine)
outputs_at = only_at (rises output_before) (lines_at (begins (codes "output ")) output_at)

abbrev pub entry_from_parts : List ℕ × (List ℕ × (List ℕ × List OutputLine)) → Entry
entry_from_parts p = record { weak = p.0; paths = p.1.0; strong = p.1.1.0; outputs = p.1.1.1 }

abbrev pub entry_at : List ℕ → Taken Entry
entry_at =
    as_at entry_from_parts (after_word (codes "entry 1\n") (both_at (after_word (codes "weak ") (digest_at 10))
    (both_at (after_word (codes "paths ") (digest_at 10))
    (both_at (after_word (codes "strong ") (digest_at 10)) outputs_at))))

unfoldable pub body_entry : List ℕ → Option Entry
body_entry = whole_of entry_at

-- the entry that has this text, if one has
unfoldable pub read_entry_text : List ℕ → Option Entry
read_entry_text text = unsealed text >>= body_entry
