-- The strong text as it was before there were listings with a pattern: it had one first line.
use Rattle.std.specs.Prelude.{ℕ, false, List, ◌++◌, codes, map, Option}
use Rattle.std.specs.List.{flat_map}
use Rattle.observed.specs.declared.access.Answer.{Answer}
use Rattle.prints.specs.Lines.{lines_at}
use Rattle.prints.specs.Parts.{digest_at, digest_part}
use Rattle.prints.specs.Reading.{Taken, after_word, as_at, both_at, whole_of}
use Rattle.prints.specs.Strong.{answer_at, answer_line, has_more, line_of}
use Rattle.prints.specs.declared.strong_parts.AnswerLine.{AnswerLine}
use Rattle.prints.specs.declared.strong_parts.StrongParts.{StrongParts}

abbrev pub strong_parts : List ℕ → List ℕ → List Answer → StrongParts
strong_parts weak paths given = record { second = false; weak = weak; paths = paths; lines = map line_of given }

abbrev pub strong_text : StrongParts → List ℕ
strong_text s =
    codes "strong 1\n" ++ ((codes "weak " ++ digest_part 10 s.weak)
    ++ ((codes "paths " ++ digest_part 10 s.paths) ++ flat_map answer_line s.lines))

abbrev pub parts_of : List ℕ × (List ℕ × List AnswerLine) → StrongParts
parts_of p = record { second = false; weak = p.0; paths = p.1.0; lines = p.1.1 }

abbrev pub strong_at : List ℕ → Taken StrongParts
strong_at =
    as_at parts_of (after_word (codes "strong 1\n") (both_at (after_word (codes "weak ") (digest_at 10))
    (both_at (after_word (codes "paths ") (digest_at 10)) (lines_at has_more answer_at))))

-- what had this strong text, if anything had
unfoldable pub read_strong_text : List ℕ → Option StrongParts
read_strong_text = whole_of strong_at
