-- The order of asks, and which names a listing asks for.
use Rattle.std.specs.Prelude.{ℕ, Bool, true, false, List, [], filter, nat_eq}
use Rattle.std.specs.Cmp.Lexicographic.{slice_cmp}
use Rattle.std.specs.Ordering.{nat_cmp, on, then_cmp, eq_of_both}
use Rattle.std.specs.Str.{bytes_eq}
use Rattle.std.specs.declared.cmp.Ordering.{Ordering}
use Rattle.bx_tree.specs.Paths.{path_cmp, same_path}
use Rattle.bx_path.specs.Globbing.{is_match}
use Rattle.observed.specs.declared.ask.AskKind.{AskKind}
use Rattle.observed.specs.declared.ask.AskKind.TheVariants as kinds
use Rattle.observed.specs.declared.ask.Ask.{Ask}

-- reads come first, then probes, then listings, then those by a pattern
abbrev pub kind_place : AskKind → ℕ
kind_place kinds.Read = 0
kind_place kinds.Probe = 1
kind_place kinds.List = 2
kind_place (kinds.Match pattern) = 3

-- the bytes of the pattern, none where there is none
abbrev pub kind_pattern : AskKind → List ℕ
kind_pattern kinds.Read = []
kind_pattern kinds.Probe = []
kind_pattern kinds.List = []
kind_pattern (kinds.Match pattern) = pattern

-- by path, then by kind, and then by the bytes of the pattern
abbrev pub ask_cmp : Ask → Ask → Ordering
ask_cmp =
    then_cmp (on (λ (a : Ask). a.path) path_cmp)
    (then_cmp (on (λ (a : Ask). kind_place a.kind) nat_cmp)
    (on (λ (a : Ask). kind_pattern a.kind) (slice_cmp nat_cmp)))

-- one ask, tested by its path, its kind and its pattern
abbrev pub same_ask : Ask → Ask → Bool
same_ask =
    eq_of_both (on (λ (a : Ask). a.path) same_path)
    (eq_of_both (on (λ (a : Ask). kind_place a.kind) nat_eq)
    (on (λ (a : Ask). kind_pattern a.kind) bytes_eq))

-- ## Listings

-- whether a pattern says which names are asked for
abbrev pub has_pattern : AskKind → Bool
has_pattern kinds.Read = false
has_pattern kinds.Probe = false
has_pattern kinds.List = false
has_pattern (kinds.Match pattern) = true

-- whether names are asked for, which is never denied
abbrev pub is_listing : AskKind → Bool
is_listing kinds.Read = false
is_listing kinds.Probe = false
is_listing kinds.List = true
is_listing (kinds.Match pattern) = true

-- those of the names that are asked for: all, or those that the pattern matches
abbrev pub asked_names : AskKind → List (List ℕ) → List (List ℕ)
asked_names kinds.Read names = names
asked_names kinds.Probe names = names
asked_names kinds.List names = names
asked_names (kinds.Match pattern) names = filter (is_match pattern) names
