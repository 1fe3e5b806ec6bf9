-- Listings: names, each with a newline, and what a run's own writes add to them.
use Rattle.std.specs.Prelude.{ℕ, Bool, true, false, ◌==◌, List, [], ◌∷◌, ◌++◌, codes, filter}
use Rattle.std.specs.List.{flat_map, slice_split}
use Rattle.std.specs.Cmp.Lexicographic.{slice_cmp}
use Rattle.std.specs.Ordering.{nat_cmp}
use Rattle.std.specs.BTreeSet.{insert_key}

abbrev pub is_some_name : List ℕ → Bool
is_some_name [] = false
is_some_name (b ∷ bs) = true

-- the lines of bytes that are not empty
abbrev pub names_in : List ℕ → List (List ℕ)
names_in bytes = filter is_some_name (slice_split (λ b. b == 10) bytes)

-- a set of names, in the order of their bytes and each once, with more names
abbrev pub add_names : List (List ℕ) → List (List ℕ) → List (List ℕ)
add_names set [] = set
add_names set (name ∷ names) = add_names (insert_key (slice_cmp nat_cmp) set name) names

-- names, each with a newline after it
abbrev pub names_text : List (List ℕ) → List ℕ
names_text names = flat_map (λ name. name ++ codes "\n") names

-- A listing with more names: unchanged where there are none, and else all its names and these.
abbrev pub listed : List ℕ → List (List ℕ) → List ℕ
listed bytes [] = bytes
listed bytes (name ∷ more) = names_text (add_names (add_names [] (names_in bytes)) (name ∷ more))
