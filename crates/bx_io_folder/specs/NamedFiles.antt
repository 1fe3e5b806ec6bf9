-- The files of names in a folder, and what becomes of them.
use Rattle.std.specs.Prelude.{◌≡◌, ◌<◌, ℕ, Bool, true, false, ◌&&◌, List, [], length, bytes_eq, Option, Some, None, Result, Ok, Err, String, string_bytes, All, option_map, ◌++◌, IsSome, is_some, take, drop, codes, ◌⊎◌}
use Rattle.std.specs.List.{list_any}
use Rattle.std.specs.FinMap.{get}
use Rattle.std.specs.declared.alloc.Global.{Global}
use Rattle.std.specs.declared.io.Error.{Error}
use Rattle.std.specs.Fmt.{decimal}
use Rattle.bx_io.specs.Holdings.{Holdings}
use Rattle.bx_io.specs.Names.{IsName}
use Rattle.bx_io.specs.declared.name.TheConstants.{NAME_LENGTH}
use Rattle.bx_io_folder.specs.declared.ordered.TheConstants.{PLACES}
use Rattle.bx_io_disk.specs.Files.{Files, SameBut, path_in, is_among}

-- the name is that of one of these in the folder of a kind
abbrev pub is_below : List ℕ → List ℕ → List (String Global) → Bool
is_below kind name files =
    list_any (λ (file : String Global). bytes_eq name (path_in kind (string_bytes file))) files

-- there is a file of the name, which is of this kind
abbrev pub has_file : List ℕ → Files → List ℕ → Bool
has_file kind files name = bytes_eq (take 1 name) kind && is_some (get files name)

-- the names that are listed are those with a file
abbrev pub ListsHeld : Files → List (String Global) → Type 0
ListsHeld files names = (name : List ℕ) → IsName name → is_among name names ≡ is_some (get files name)

-- each text is a name
abbrev pub AreAllNames : List (String Global) → Type 0
AreAllNames = All (λ name. IsName (string_bytes name))

-- ## What becomes of the files of names

-- where a file is begun, which is no name
abbrev pub IsBegun : List ℕ → Type 0
IsBegun path = NAME_LENGTH < length path

-- what follows a name in the paths at which a put may begin its file
abbrev pub place_ending : ℕ → List ℕ
place_ending place = codes ".new-" ++ decimal place

-- the path of such a place
abbrev pub begun_at : List ℕ → ℕ → List ℕ
begun_at name place = name ++ place_ending place

-- one of the places
abbrev pub IsPlaceEnding : List ℕ → Type 0
IsPlaceEnding text = (place : ℕ) × (place < PLACES) × (text ≡ place_ending place)

-- what follows a name in the paths at which a put began its file: at one of the places, or, before there were places, where
-- all puts of a name did
abbrev pub IsEnding : List ℕ → Type 0
IsEnding text = (text ≡ codes ".new") ⊎ IsPlaceEnding text

-- A put that was stopped may have left a file at this path.
pub record IsLeft (path : List ℕ) : Type 0 where
  pub name : IsName (take NAME_LENGTH path)
  pub ending : IsEnding (drop NAME_LENGTH path)

-- whether an empty file was made at the path, or one is there
abbrev pub Places : Files → Files → List ℕ → Bool → Type 0
Places before now path true = (get before path ≡ None) × (get now path ≡ Some []) × SameBut before now path
Places before now path false = (now ≡ before) × IsSome (get before path)

-- each place before this one has a file
abbrev pub AreTaken : Files → List ℕ → ℕ → Type 0
AreTaken files name before = (place : ℕ) → place < before → IsSome (get files (begun_at name place))

-- a file is begun at the first place of a name at which there was none
pub record BeginsAt (before now : Files) (name path : List ℕ) : Type 0 where
  pub place : ℕ
  pub one_of : place < PLACES
  pub at : path ≡ begun_at name place
  pub taken : AreTaken before name place
  pub free : get before path ≡ None
  pub others : SameBut before now path

-- no file is there but those that were, and those that no put can have left are as they were
pub record Clears (before now : Files) : Type 0 where
  pub others : (path : List ℕ) → (IsLeft path → ⊥) → get now path ≡ get before path
  pub fewer : (path : List ℕ) → get before path ≡ None → get now path ≡ None

-- each file of a name is as it was
abbrev pub SameNames : Files → Files → Type 0
SameNames before now = (q : List ℕ) → IsName q → get now q ≡ get before q

-- each file of a name but this one is as it was
abbrev pub SameOthers : Files → Files → List ℕ → Type 0
SameOthers before now name = (q : List ℕ) → IsName q → (q ≡ name → ⊥) → get now q ≡ get before q

-- the file of the name has these bytes, unless the put failed, which changes no file of a name
abbrev pub Puts : Files → Files → List ℕ → List ℕ → Result (Unit {0}) Error → Type 0
Puts before now name bytes (Ok x) = (get now name ≡ Some bytes) × SameOthers before now name
Puts before now name bytes (Err e) = SameNames before now

-- what is told of a name
abbrev pub told_at : Option Holdings → List ℕ → Option (Option (List ℕ))
told_at told name = option_map (λ (held : Holdings). get held name) told

-- What is told of each name is its file.
abbrev pub Agrees : Option Holdings → Files → Type 0
Agrees told files = (name : List ℕ) → IsName name → told_at told name ≡ Some (get files name)

-- there is no file of the name, unless the drop failed, which changes no file of a name
abbrev pub Drops : Files → Files → List ℕ → Result (Unit {0}) Error → Type 0
Drops before now name (Ok x) = (get now name ≡ None) × SameOthers before now name
Drops before now name (Err e) = SameNames before now
