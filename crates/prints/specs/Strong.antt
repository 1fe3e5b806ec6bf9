-- The strong text: what the asks of a path set are answered, contents named by digest.
use Rattle.std.specs.Prelude.{ℕ, Bool, not, List, [], ◌∷◌, ◌++◌, map, codes, is_some, Option, Some, None}
use Rattle.std.specs.Prelude.{if◌then◌else◌}
use Rattle.std.specs.List.{AllByRecursion, flat_map}
use Rattle.std.specs.Str.{bytes_eq}
use Rattle.hex.specs.Hex.{encode_lower}
use Rattle.sha2.specs.Sha256.{sha256}
use Rattle.bx_digest.specs.Digests.{IsDigest}
use Rattle.observed.specs.declared.access.Answer.{Answer}
use Rattle.observed.specs.declared.access.Answer.TheVariants as answers
use Rattle.observed.specs.declared.ask.Ask.{Ask}
use Rattle.observed.specs.Texts.{after_prefix, has_match, paths_text}
use Rattle.prints.specs.Lines.{lines_at}
use Rattle.prints.specs.Parts.{digest_at, digest_part, named_digest, part_at}
use Rattle.prints.specs.Reading.{Taken, ◌>>=◌, after_word, as_at, both_at, one_word, whole_of}
use Rattle.prints.specs.declared.strong_parts.AnswerLine.{AnswerLine}
use Rattle.prints.specs.declared.strong_parts.AnswerLine.TheVariants as lines
use Rattle.prints.specs.declared.strong_parts.StrongParts.{StrongParts}

-- ## What it says

-- an answer, with its content named by digest
abbrev pub line_of : Answer → AnswerLine
line_of answers.Absent = lines.Absent
line_of (answers.Content bytes) = lines.Content (sha256 bytes)
line_of answers.File = lines.File
line_of answers.Directory = lines.Directory
line_of (answers.Names names) = lines.Names (sha256 names)
line_of answers.Denied = lines.Denied

-- answers to the asks of a path set of a version with this digest, under a weak text with that digest
abbrev pub strong_parts : Bool → List ℕ → List ℕ → List Answer → StrongParts
strong_parts second weak paths given =
    record { second = second; weak = weak; paths = paths; lines = map line_of given }

-- what the asks of a path set are answered, under a weak text with this digest
abbrev pub asked_parts : List ℕ → List Ask → (Ask → Answer) → StrongParts
asked_parts weak paths see =
    strong_parts (has_match paths) weak (sha256 (paths_text paths)) (map see paths)

-- the digests in a line are digests
abbrev pub IsAnswerLine : AnswerLine → Type 0
IsAnswerLine lines.Absent = Unit {0}
IsAnswerLine (lines.Content digest) = IsDigest digest
IsAnswerLine lines.File = Unit {0}
IsAnswerLine lines.Directory = Unit {0}
IsAnswerLine (lines.Names digest) = IsDigest digest
IsAnswerLine lines.Denied = Unit {0}

-- What has a strong text.
pub record IsStrong (s : StrongParts) : Type 0 where
  pub weak : IsDigest s.weak
  pub paths : IsDigest s.paths
  pub lines : AllByRecursion IsAnswerLine s.lines

-- ## The text

abbrev pub answer_words : AnswerLine → List ℕ
answer_words lines.Absent = codes "absent"
answer_words (lines.Content digest) = codes "content " ++ encode_lower digest
answer_words lines.File = codes "file"
answer_words lines.Directory = codes "directory"
answer_words (lines.Names digest) = codes "names " ++ encode_lower digest
answer_words lines.Denied = codes "denied"

abbrev pub answer_line : AnswerLine → List ℕ
answer_line line = answer_words line ++ codes "\n"

-- the first line: a strong text is of the version of its path set
abbrev pub strong_head : Bool → List ℕ
strong_head second = if second then codes "strong 2\n" else codes "strong 1\n"

abbrev pub strong_text : StrongParts → List ℕ
strong_text s =
    strong_head s.second ++ ((codes "weak " ++ digest_part 10 s.weak)
    ++ ((codes "paths " ++ digest_part 10 s.paths) ++ flat_map answer_line s.lines))

-- ## What a text is read as

abbrev pub with_digest : Option (List ℕ) → Option (List ℕ) → Option AnswerLine
with_digest (Some content) names = named_digest content >>= λ digest. Some (lines.Content digest)
with_digest None (Some names) = named_digest names >>= λ digest. Some (lines.Names digest)
with_digest None None = None

-- the answer that is written so
abbrev pub named_answer : List ℕ → Option AnswerLine
named_answer text =
    if bytes_eq text (codes "absent") then Some lines.Absent
    else if bytes_eq text (codes "file") then Some lines.File
    else if bytes_eq text (codes "directory") then Some lines.Directory
    else if bytes_eq text (codes "denied") then Some lines.Denied
    else with_digest (after_prefix (codes "content ") text) (after_prefix (codes "names ") text)

abbrev pub answer_at : List ℕ → Taken AnswerLine
answer_at text = part_at 10 text >>= λ part. named_answer part.0 >>= λ line. Some (line, part.1)

-- whether something is left
abbrev pub has_more : List ℕ → Bool
has_more [] = Rattle.std.specs.Prelude.false
has_more (b ∷ bs) = Rattle.std.specs.Prelude.true

abbrev pub parts_of : Bool × (List ℕ × (List ℕ × List AnswerLine)) → StrongParts
parts_of p = record { second = p.0; weak = p.1.0; paths = p.1.1.0; lines = p.1.1.1 }

-- the version of a strong text, by its first line
abbrev pub version_at : List ℕ → Taken Bool
version_at = one_word (codes "strong 2\n") (codes "strong 1\n")

abbrev pub strong_at : List ℕ → Taken StrongParts
strong_at =
    as_at parts_of (both_at version_at (both_at (after_word (codes "weak ") (digest_at 10))
    (both_at (after_word (codes "paths ") (digest_at 10)) (lines_at has_more answer_at))))

-- what has this strong text, if anything has
unfoldable pub read_strong_text : List ℕ → Option StrongParts
read_strong_text = whole_of strong_at
