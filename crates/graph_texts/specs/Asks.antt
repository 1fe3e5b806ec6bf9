-- The lines of asks.
use Rattle.std.specs.Prelude.{ℕ, Bool, ◌||◌, List, ◌++◌, codes}
use Rattle.bx_digest.specs.Digests.{IsDigest}
use Rattle.bx_path.specs.Globbing.{IsPattern, is_pattern}
use Rattle.bx_tree.specs.Paths.{Atoms, IsPath}
use Rattle.dscript_sdk_calls.specs.declared.tree_ask.TreeAsk.{TreeAsk}
use Rattle.dscript_sdk_calls.specs.declared.tree_ask.TreeAsk.TheVariants.{Glob, GlobDeep, Below}
use Rattle.prints.specs.Lines.{begins, lines_at}
use Rattle.prints.specs.Parts.{digest_at, digest_part, part_at, path_at, path_part}
use Rattle.prints.specs.Reading.{Taken, after_word, as_at, both_at, only_at}
use Rattle.graph_texts.specs.Either.{first_of}
use Rattle.graph_texts.specs.declared.asks.AskLine.{AskLine}

abbrev pub IsTreeAsk : TreeAsk → Type 0
IsTreeAsk (Glob dir pattern) = IsPath dir × IsPattern pattern
IsTreeAsk (GlobDeep dir pattern) = IsPath dir × IsPattern pattern
IsTreeAsk (Below dir) = IsPath dir

abbrev pub IsAskLine : AskLine → Type 0
IsAskLine a = IsTreeAsk a.ask × IsDigest a.listing

-- ## Lines

-- a directory, a pattern and the digest of a listing
abbrev pub glob_part : Atoms → List ℕ → List ℕ → List ℕ
glob_part dir pattern listing = path_part 32 dir ++ ((pattern ++ codes " ") ++ digest_part 10 listing)

abbrev pub words_of : TreeAsk → List ℕ → List ℕ
words_of (Glob dir pattern) listing = codes "glob " ++ glob_part dir pattern listing
words_of (GlobDeep dir pattern) listing = codes "globr " ++ glob_part dir pattern listing
words_of (Below dir) listing = codes "below " ++ (path_part 32 dir ++ digest_part 10 listing)

-- an ask, with the digest of the listing that was answered
abbrev pub ask_line : AskLine → List ℕ
ask_line a = words_of a.ask a.listing

-- whether the line of an ask comes next
abbrev pub is_ask : List ℕ → Bool
is_ask text = begins (codes "glob ") text || begins (codes "globr ") text || begins (codes "below ") text

-- ## What a line is read as

abbrev pub ask_with : TreeAsk → List ℕ → AskLine
ask_with ask listing = record { ask = ask; listing = listing }

abbrev pub pattern_at : List ℕ → Taken (List ℕ)
pattern_at = only_at is_pattern (part_at 32)

abbrev pub globbed_at : List ℕ → Taken (Atoms × (List ℕ × List ℕ))
globbed_at = both_at (path_at 32) (both_at pattern_at (digest_at 10))

abbrev pub glob_line : Atoms × (List ℕ × List ℕ) → AskLine
glob_line p = ask_with (Glob p.0 p.1.0) p.1.1

abbrev pub deep_line : Atoms × (List ℕ × List ℕ) → AskLine
deep_line p = ask_with (GlobDeep p.0 p.1.0) p.1.1

abbrev pub below_line : Atoms × List ℕ → AskLine
below_line p = ask_with (Below p.0) p.1

unfoldable pub ask_at : List ℕ → Taken AskLine
ask_at =
    first_of (codes "glob ") (as_at glob_line globbed_at) (first_of (codes "globr ") (as_at deep_line globbed_at)
    (after_word (codes "below ") (as_at below_line (both_at (path_at 32) (digest_at 10)))))

unfoldable pub asks_at : List ℕ → Taken (List AskLine)
asks_at = lines_at is_ask ask_at
