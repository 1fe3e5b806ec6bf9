-- The text of a path set as it was before there were listings with a pattern, and what a text was read as.
use Rattle.std.specs.Prelude.{ℕ, Bool, true, ◌&&◌, ◌==◌, if◌then◌else◌, List, [], ◌∷◌, ◌++◌, codes, Option, Some, None, option_and_then}
use Rattle.std.specs.List.{flat_map, slice_split}
use Rattle.std.specs.Str.{bytes_eq}
use Rattle.std.specs.Ordering.{is_lt}
use Rattle.bx_tree.specs.Paths.{path_text}
use Rattle.observed.specs.declared.ask.AskKind.{AskKind}
use Rattle.observed.specs.declared.ask.AskKind.TheVariants as kinds
use Rattle.observed.specs.declared.ask.Ask.{Ask}
use Rattle.observed.specs.Texts.{after_prefix, ask_at, named_path, with_ask}
use Rattle.before_patterns.specs.Asks.{ask_cmp}

-- ## The text

abbrev pub kind_text : AskKind → List ℕ
kind_text kinds.Read = codes "read"
kind_text kinds.Probe = codes "probe"
kind_text kinds.List = codes "list"
kind_text (kinds.Match pattern) = []

-- one ask: its kind, a space, its path, the root written `.`, and a newline
abbrev pub ask_line : Ask → List ℕ
ask_line ask = kind_text ask.kind ++ codes " " ++ path_text ask.path ++ codes "\n"

-- the first line of each path set
abbrev pub first_line : List ℕ
first_line = codes "paths 1"

abbrev pub paths_text : List Ask → List ℕ
paths_text asks = first_line ++ codes "\n" ++ flat_map ask_line asks

-- ## What a text is read as

-- the ask of what follows the word of its kind in a line
abbrev pub ask_after : (read probe list : Option (List ℕ)) → Option Ask
ask_after (Some text) probe list = ask_at kinds.Read (named_path text)
ask_after None (Some text) list = ask_at kinds.Probe (named_path text)
ask_after None None (Some text) = ask_at kinds.List (named_path text)
ask_after None None None = None

-- the ask of a line
abbrev pub named_ask : List ℕ → Option Ask
named_ask line =
    ask_after (after_prefix (codes "read ") line)
    (after_prefix (codes "probe ") line) (after_prefix (codes "list ") line)

-- the asks of lines, each ended by a newline: nothing follows the last newline
abbrev pub named_asks : List (List ℕ) → Option (List Ask)
named_asks [] = None
named_asks ([] ∷ []) = Some []
named_asks ((b ∷ bs) ∷ []) = None
named_asks (line ∷ next ∷ lines) = with_ask (named_ask line) (named_asks (next ∷ lines))

-- whether asks strictly rise
abbrev pub is_rising : List Ask → Bool
is_rising [] = true
is_rising (a ∷ []) = true
is_rising (a ∷ b ∷ rest) = is_lt (ask_cmp a b) && is_rising (b ∷ rest)

abbrev pub if_rising : List Ask → Option (List Ask)
if_rising asks = if is_rising asks then Some asks else None

abbrev pub read_lines : List (List ℕ) → Option (List Ask)
read_lines [] = None
read_lines (first ∷ lines) =
    if bytes_eq first first_line then option_and_then if_rising (named_asks lines) else None

-- the path set that has this text, if there is one
abbrev pub read_paths_text : List ℕ → Option (List Ask)
read_paths_text text = read_lines (slice_split (λ b. b == 10) text)
