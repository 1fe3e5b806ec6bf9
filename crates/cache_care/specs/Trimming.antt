-- The changes of a trim of a store, which leaves so many selectors of each list.
use Rattle.std.specs.Prelude.{◌≡◌, ◌≤◌, ℕ, Bool, not, nat_lt, List, [], ◌∷◌, ◌++◌, codes, filter, length, map, take, Option, Some, None, if◌then◌else◌}
use Rattle.std.specs.FinMap.{get, keys}
use Rattle.std.specs.List.{AllByRecursion, flat_map, list_any}
use Rattle.std.specs.Str.{bytes_eq}
use Rattle.bx_digest.specs.Digests.{IsDigest}
use Rattle.bx_tree.specs.Members.{Has}
use Rattle.bx_io.specs.Holdings.{Change, Drop, Holdings, Makes, Put, StoreTold, name_of}
use Rattle.prints.specs.Lines.{begins}
use Rattle.prints.specs.Reading.{◌>>=◌}
use Rattle.memo_format.specs.Selectors.{AreSelectors, read_selectors_text, selectors_text}
use Rattle.memo_format.specs.StoreNames.{at_blob, at_entry, at_list}
use Rattle.memo_format.specs.declared.selector.Selector.{Selector}
use Rattle.two_phase_meaning.specs.Saving.{selectors_in}
use Rattle.cache_care.specs.Counts.{IsCount, drop_count}
use Rattle.cache_care.specs.Naming.{named_at}
use Rattle.cache_care.specs.declared.planning.CareCount.{CareCount}

-- ## Names by kind

abbrev pub entry_names : Holdings → List (List ℕ)
entry_names S = filter (begins (codes "e/")) (keys S)

abbrev pub list_names : Holdings → List (List ℕ)
list_names S = filter (begins (codes "w/")) (keys S)

abbrev pub blob_names : Holdings → List (List ℕ)
blob_names S = filter (begins (codes "b/")) (keys S)

-- ## What stays

-- the first selectors of a list; one that is not well-formed has none
abbrev pub left_at : Holdings → ℕ → List ℕ → List Selector
left_at S keep name = take keep (selectors_in (get S name))

-- those of each list
abbrev pub remaining : Holdings → ℕ → List Selector
remaining S keep = flat_map (left_at S keep) (list_names S)

-- a selector that stays names the entry
abbrev pub is_selected : Holdings → ℕ → List ℕ → Bool
is_selected S keep name = list_any (λ (s : Selector). bytes_eq (at_entry s.strong) name) (remaining S keep)

-- the digests that the entries name which stay
abbrev pub named_digests : Holdings → ℕ → List (List ℕ)
named_digests S keep = flat_map (named_at S) (filter (is_selected S keep) (entry_names S))

-- an entry that stays names the content
abbrev pub is_named : Holdings → ℕ → List ℕ → Bool
is_named S keep name = list_any (λ digest. bytes_eq (at_blob digest) name) (named_digests S keep)

-- ## The changes

-- a list of which nothing is left is dropped, and one that was cut is put
abbrev pub cut_to : ℕ → List ℕ → List Selector → List Selector → List Change
cut_to keep name list [] = Drop name ∷ []
cut_to keep name list (s ∷ rest) =
    if nat_lt keep (length list) then Put name (selectors_text (s ∷ rest)) ∷ [] else []

-- one that is not well-formed is dropped too
abbrev pub list_change : ℕ → List ℕ → Option (List Selector) → List Change
list_change keep name None = Drop name ∷ []
list_change keep name (Some list) = cut_to keep name list (take keep list)

-- the selectors that are read under a name
abbrev pub read_at : Holdings → List ℕ → Option (List Selector)
read_at S name = get S name >>= read_selectors_text

-- what becomes of the list under a name
abbrev pub cut_at : Holdings → ℕ → List ℕ → List Change
cut_at S keep name = list_change keep name (read_at S name)

abbrev pub list_changes : Holdings → ℕ → List Change
list_changes S keep = flat_map (cut_at S keep) (list_names S)

-- First each entry is dropped that no selector names which stays; then lists are put or dropped; and then each content is
-- dropped that no entry names which stays. Names of a kind are gone through in their order.
abbrev pub trims : Holdings → ℕ → List Change
trims S keep =
    map Drop (filter (λ name. not (is_selected S keep name)) (entry_names S))
    ++ (list_changes S keep ++ map Drop (filter (λ name. not (is_named S keep name)) (blob_names S)))

-- ## What a call does

-- The store was trimmed, and its names are counted.
pub record DoesTrim (S : Holdings) (keep : ℕ) (before now : StoreTold) (count : CareCount) : Type 0 where
  pub makes : Makes before (trims S keep) now
  pub counted : IsCount (keys S) (trims S keep) count

-- a change that drops a name, or puts a list of selectors
abbrev pub IsTrim : Change → Type 0
IsTrim (Put name bytes) =
    (weak : List ℕ) × (list : List Selector) × IsDigest weak × AreSelectors list × (name ≡ at_list weak)
    × (bytes ≡ selectors_text list)
IsTrim (Drop name) = Unit {0}

-- Nothing was done but that names were dropped and lists put.
pub record OnlyTrims (before now : StoreTold) : Type 0 where
  pub made : List Change
  pub trims : AllByRecursion IsTrim made
  pub makes : Makes before made now

-- ## Whatever is held

-- the name of a list of selectors
abbrev pub IsListName : List ℕ → Type 0
IsListName name = (weak : List ℕ) × IsDigest weak × (name ≡ at_list weak)

-- Changes of a trim, each of one of the names, and no more drops than names.
pub record AreTrims (names : List (List ℕ)) (changes : List Change) : Type 0 where
  pub each : AllByRecursion (λ c. IsTrim c × Has names (name_of c)) changes
  pub few : drop_count changes ≤ length names
