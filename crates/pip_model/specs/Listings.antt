-- Which seals list a file at a path or below it, and whether a process takes many directories.
use Rattle.std.specs.Prelude.{◌≡◌, ℕ, ◌+◌, Bool, true, List, [], ◌∷◌, ◌++◌, ◌⊎◌, Any, Contains, IsSomeAnd}
use Rattle.std.specs.Prelude.{length, map, nat_lt, slice_get}
use Rattle.std.specs.List.{list_any}
use Rattle.std.specs.List.Sorted.{IsPermutation}
use Rattle.bx_tree.specs.Paths.{Atoms, TextGoesOn, path_text}
use Rattle.bx_tree.specs.declared.file_input.FileInput.{FileInput}
use Rattle.pip_model_types.specs.declared.pip.Pip.{Pip}
use Rattle.pip_model_types.specs.declared.pip.PipKind.{PipKind}
use Rattle.pip_model.specs.declared.listings.TheConstants.{FEW_DIRS}
use Rattle.pip_model.specs.declared.listings.Listing.{Listing}
use Rattle.bx_tree_paths.specs.Searches.{RiseByText}
use Rattle.pip_model_types.specs.Kinds.{listed_files, taken_dirs}
use Rattle.bx_tree.specs.FileInputs.{input_path}

-- whether a pip takes more than a few directories
abbrev pub is_wide : PipKind → Bool
is_wide kind = nat_lt FEW_DIRS (length (taken_dirs kind))

-- whether one of the pips takes more than a few directories
abbrev pub has_wide : List Pip → Bool
has_wide pips = list_any (λ (pip : Pip). is_wide pip.kind) pips

-- the path has this text, or lies below the path with this text
abbrev pub IsNearText : List ℕ → Atoms → Type 0
IsNearText text path = (path_text path ≡ text) ⊎ TextGoesOn text (path_text path)

-- the path with this text is that of the file, or the file lies below it
abbrev pub IsNear : List ℕ → FileInput → Type 0
IsNear text file = IsNearText text (input_path file)

-- pip j is a seal that lists a file at the path with this text or below it
abbrev pub ListsNear : List Pip → ℕ → List ℕ → Type 0
ListsNear pips j text = IsSomeAnd (slice_get pips j) (λ (pip : Pip). Any (IsNear text) (listed_files pip.kind))

-- ## Files that seals list, by path

abbrev pub listing_path : Listing → Atoms
listing_path l = l.path

abbrev pub listing_seal : Listing → ℕ
listing_seal l = l.seal

-- a file that pip j lists
abbrev pub listing : ℕ → FileInput → Listing
listing j file = record { path = input_path file; seal = j }

-- the files that the pips list, which are counted from j on
abbrev pub listings_from : ℕ → List Pip → List Listing
listings_from j [] = []
listings_from j (pip ∷ pips) = map (listing j) (listed_files pip.kind) ++ listings_from (j + 1) pips

-- these files, in the order of their paths, and beside each its seal
pub record AreListings (files : List Listing) (seals : List ℕ) : Type 0 where
  pub rising : RiseByText listing_path files
  pub beside : seals ≡ map listing_seal files

-- the seal of each of these files at the path with the text or below it
abbrev pub HasNear : List ℕ → List Listing → List ℕ → Type 0
HasNear text listings seals = (l : Listing) → Contains listings l → IsNearText text l.path → Contains seals l.seal

-- all files that seals list, where a pip takes more than a few directories
abbrev pub HasListingsOf : List Pip → List Listing → Type 0
HasListingsOf pips listings = has_wide pips ≡ true → IsPermutation (listings_from 0 pips) listings
