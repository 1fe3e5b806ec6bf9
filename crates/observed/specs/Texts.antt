-- The text of a path set, and what a text is read as.
use Rattle.std.specs.Prelude.{◌≡◌, ℕ, Bool, true, false, not, ◌&&◌, ◌==◌, nat_le, if◌then◌else◌}
use Rattle.std.specs.Prelude.{List, [], ◌∷◌, ◌++◌, length, codes, Option, Some, None, Result, Ok, Err}
use Rattle.std.specs.Prelude.{option_and_then}
use Rattle.std.proofs.Common.{Vec, Global}
use Rattle.std.specs.List.{flat_map, list_all, list_any, slice_split}
use Rattle.std.specs.Str.{bytes_eq}
use Rattle.std.specs.Ordering.{is_lt}
use Rattle.bx_tree.specs.Paths.{Atoms, path_of, path_text}
use Rattle.bx_tree.specs.declared.limits.TheConstants.{MAX_PATH_BYTES}
use Rattle.bx_path.specs.Globbing.{is_pattern}
use Rattle.bx_path.specs.Joining.{is_atom}
use Rattle.observed.specs.declared.ask.AskKind.{AskKind}
use Rattle.observed.specs.declared.ask.AskKind.TheVariants as kinds
use Rattle.observed.specs.declared.ask.Ask.{Ask}
use Rattle.observed.specs.declared.path_set.SetFault.{SetFault}
use Rattle.observed.specs.declared.path_set.SetFault.TheVariants as set_faults
use Rattle.observed.specs.Asks.{ask_cmp, has_pattern}

-- ## The text

-- the word of a kind, and for a listing by a pattern a space and the pattern
abbrev pub kind_text : AskKind → List ℕ
kind_text kinds.Read = codes "read"
kind_text kinds.Probe = codes "probe"
kind_text kinds.List = codes "list"
kind_text (kinds.Match pattern) = codes "match " ++ pattern

-- one ask: its kind, a space, its path, the root written `.`, and a newline
abbrev pub ask_line : Ask → List ℕ
ask_line ask = kind_text ask.kind ++ codes " " ++ path_text ask.path ++ codes "\n"

-- whether a listing by a pattern is among the asks
abbrev pub has_match : List Ask → Bool
has_match asks = list_any (λ (a : Ask). has_pattern a.kind) asks

-- The first line of each path set: a path set with a listing by a pattern is of the second version.
abbrev pub first_line : Bool → List ℕ
first_line second = if second then codes "paths 2" else codes "paths 1"

abbrev pub paths_text : List Ask → List ℕ
paths_text asks = first_line (has_match asks) ++ codes "\n" ++ flat_map ask_line asks

-- ## What a text is read as

-- A reader gives what the function on lists gives, unless memory ran out.
abbrev pub ReadsPathSet : {X : Type 0} → Result X SetFault → Option X → Type 0
ReadsPathSet (Ok x) read = read ≡ Some x
ReadsPathSet (Err set_faults.BadSet) read = read ≡ None
ReadsPathSet (Err set_faults.Memory) read = Unit {0}

-- whether asks in a vector are what a text reads as, or the text is refused where it reads as nothing
abbrev pub ReadsAsks : Result (Vec Ask Global) SetFault → Option (List Ask) → Type 0
ReadsAsks (Ok asks) read = read ≡ Some asks.items
ReadsAsks (Err set_faults.BadSet) read = read ≡ None
ReadsAsks (Err set_faults.Memory) read = Unit {0}

-- what follows a prefix of a text, if the text begins with it
abbrev pub after_prefix : List ℕ → List ℕ → Option (List ℕ)
after_prefix [] text = Some text
after_prefix (p ∷ ps) [] = None
after_prefix (p ∷ ps) (b ∷ bs) = if p == b then after_prefix ps bs else None

-- the path that a text stands for, the root for `.`, if its parts are atoms and it is short enough
abbrev pub named_path : List ℕ → Option Atoms
named_path text =
    if list_all is_atom (path_of text) && nat_le (length text) MAX_PATH_BYTES
    then Some (path_of text) else None

-- the ask of a kind at a path, if there is one
abbrev pub ask_at : AskKind → Option Atoms → Option Ask
ask_at kind None = None
ask_at kind (Some path) = Some (record { kind = kind; path = path })

abbrev pub in_front : ℕ → Option (List ℕ × List ℕ) → Option (List ℕ × List ℕ)
in_front b None = None
in_front b (Some parts) = Some (b ∷ parts.0, parts.1)

-- what a text has before its first space, and after it
abbrev pub blank_parts : List ℕ → Option (List ℕ × List ℕ)
blank_parts [] = None
blank_parts (b ∷ bs) = if b == 32 then Some ([], bs) else in_front b (blank_parts bs)

-- a listing by a pattern, where the first part is one and the second a path
abbrev pub match_by : Option (List ℕ × List ℕ) → Option Ask
match_by None = None
match_by (Some parts) =
    if is_pattern parts.0 then ask_at (kinds.Match parts.0) (named_path parts.1) else None

-- the listing by the pattern that a text has before its first space, at the path after it
abbrev pub match_at : List ℕ → Option Ask
match_at text = match_by (blank_parts text)

-- the ask of what follows the word of its kind in a line
abbrev pub ask_after : (read probe list by_pattern : Option (List ℕ)) → Option Ask
ask_after (Some text) probe list by_pattern = ask_at kinds.Read (named_path text)
ask_after None (Some text) list by_pattern = ask_at kinds.Probe (named_path text)
ask_after None None (Some text) by_pattern = ask_at kinds.List (named_path text)
ask_after None None None (Some text) = match_at text
ask_after None None None None = None

-- the ask of a line
abbrev pub named_ask : List ℕ → Option Ask
named_ask line =
    ask_after (after_prefix (codes "read ") line) (after_prefix (codes "probe ") line)
    (after_prefix (codes "list ") line) (after_prefix (codes "match ") line)

abbrev pub with_ask : Option Ask → Option (List Ask) → Option (List Ask)
with_ask None asks = None
with_ask (Some ask) None = None
with_ask (Some ask) (Some asks) = Some (ask ∷ asks)

-- the ask of each line
abbrev pub all_asks : List (List ℕ) → Option (List Ask)
all_asks [] = Some []
all_asks (line ∷ lines) = with_ask (named_ask line) (all_asks lines)

-- the asks of lines, each ended by a newline: nothing follows the last newline
abbrev pub named_asks : List (List ℕ) → Option (List Ask)
named_asks [] = None
named_asks ([] ∷ []) = Some []
named_asks ((b ∷ bs) ∷ []) = None
named_asks (line ∷ next ∷ lines) = with_ask (named_ask line) (named_asks (next ∷ lines))

-- asks before those that were read
abbrev pub after_asks : List Ask → Option (List Ask) → Option (List Ask)
after_asks earlier None = None
after_asks earlier (Some asks) = Some (earlier ++ asks)

-- whether asks strictly rise
abbrev pub is_rising : List Ask → Bool
is_rising [] = true
is_rising (a ∷ []) = true
is_rising (a ∷ b ∷ rest) = is_lt (ask_cmp a b) && is_rising (b ∷ rest)

-- whether a version is that of these asks
abbrev pub is_version : Bool → List Ask → Bool
is_version second asks = if second then has_match asks else not (has_match asks)

-- asks that strictly rise, where this is their version
abbrev pub if_set : Bool → List Ask → Option (List Ask)
if_set second asks = if is_rising asks && is_version second asks then Some asks else None

abbrev pub set_of_lines : Bool → List (List ℕ) → Option (List Ask)
set_of_lines second lines = option_and_then (if_set second) (named_asks lines)

abbrev pub read_lines : List (List ℕ) → Option (List Ask)
read_lines [] = None
read_lines (first ∷ lines) =
    if bytes_eq first (first_line true) then set_of_lines true lines
    else if bytes_eq first (first_line false) then set_of_lines false lines else None

-- the path set that has this text, if there is one
abbrev pub read_paths_text : List ℕ → Option (List Ask)
read_paths_text text = read_lines (slice_split (λ b. b == 10) text)
