-- The files of a folder by path, what calls on them do, and what was called.
use Rattle.std.specs.Prelude.{◌≡◌, ℕ, Bool, true, false, ◌||◌, not, List, [], ◌∷◌, bytes_eq, Some, None, Result, Ok, Err, Vec, String, string_bytes, All, ◌++◌, IsSome, IsErrAnd, is_some, ◌≢◌}
use Rattle.std.specs.List.{list_any}
use Rattle.std.specs.FinMap.{get}
use Rattle.std.specs.IoError.{error_kind}
use Rattle.std.specs.declared.alloc.Global.{Global}
use Rattle.std.specs.declared.io.Error.{Error}
use Rattle.std.specs.declared.io.ErrorKind.{ErrorKind}
use Rattle.std.specs.declared.io.ErrorKind.TheVariants.{AlreadyExists, NotFound, OutOfMemory, WouldBlock}
use Rattle.bx_io.specs.Holdings.{Holdings}
use Rattle.bx_io_disk.specs.Events.{Event}
use Rattle.bx_io_disk.specs.declared.kind.Kind.{Kind}
use Rattle.bx_io_disk.specs.declared.kind.Kind.TheVariants as kinds

-- from the path of each file to its bytes
abbrev pub Files : Type 0
Files = Holdings

-- ## What calls on files do

-- the bytes of the file at a path, or that there is none
abbrev pub Reads : Files → List ℕ → Result (Vec ℕ Global) Error → Type 0
Reads files path (Ok bytes) = get files path ≡ Some bytes.items
Reads files path (Err e) = error_kind e ≡ NotFound → get files path ≡ None

-- each file but that at the path is as it was
abbrev pub SameBut : Files → Files → List ℕ → Type 0
SameBut before now path = (q : List ℕ) → (q ≡ path → ⊥) → get now q ≡ get before q

-- there is no file
abbrev pub HasNone : Files → Type 0
HasNone files = (path : List ℕ) → get files path ≡ None

-- whether there is a file at a path
abbrev pub Looks : Files → List ℕ → Result Bool Error → Type 0
Looks files path (Ok is) = is ≡ is_some (get files path)
Looks files path (Err e) = error_kind e ≡ NotFound → get files path ≡ None

-- There was no file at the path, and there is an empty one, unless the call failed, which changes nothing. That a file is
-- there already is an error of its own.
abbrev pub Creates : Files → Files → List ℕ → Result (Unit {0}) Error → Type 0
Creates before now path (Ok x) = (get before path ≡ None) × (get now path ≡ Some []) × SameBut before now path
Creates before now path (Err e) = (now ≡ before) × (error_kind e ≡ AlreadyExists → IsSome (get before path))

-- the file has these bytes, unless the call failed
abbrev pub Writes : Files → Files → List ℕ → List ℕ → Result (Unit {0}) Error → Type 0
Writes before now path bytes (Ok x) = (get now path ≡ Some bytes) × SameBut before now path
Writes before now path bytes (Err e) = SameBut before now path

-- The file that was at one path is at the other, and no longer at its own, unless the call failed, which changes
-- nothing.
abbrev pub Renames : Files → Files → List ℕ → List ℕ → Result (Unit {0}) Error → Type 0
Renames before now old path (Ok x) =
    IsSome (get before old)
    × (get now path ≡ get before old)
    × ((old ≡ path → ⊥) → get now old ≡ None)
    × ((q : List ℕ) → (q ≡ old → ⊥) → (q ≡ path → ⊥) → get now q ≡ get before q)
Renames before now old path (Err e) = now ≡ before

-- there is no file at the path, unless the call failed, which changes nothing
abbrev pub Removes : Files → Files → List ℕ → Result (Unit {0}) Error → Type 0
Removes before now path (Ok x) = (get now path ≡ None) × SameBut before now path
Removes before now path (Err e) = (now ≡ before) × (error_kind e ≡ NotFound → get before path ≡ None)

-- the path of what lies in a folder
abbrev pub path_in : List ℕ → List ℕ → List ℕ
path_in folder name = folder ++ 47 ∷ name

-- without a slash: the name of what lies right in a folder
abbrev pub IsPlain : List ℕ → Type 0
IsPlain = All (λ c. c ≡ 47 → ⊥)

-- the name is one of these
abbrev pub is_among : List ℕ → List (String Global) → Bool
is_among name names = list_any (λ (text : String Global). bytes_eq name (string_bytes text)) names

-- The names without a slash that are listed are those of the files right in the folder. A folder that is not there
-- has none.
abbrev pub ListsFiles : Files → List ℕ → Result (Vec (String Global) Global) Error → Type 0
ListsFiles files folder (Ok names) =
    (name : List ℕ) → IsPlain name → is_among name names.items ≡ is_some (get files (path_in folder name))
ListsFiles files folder (Err e) =
    error_kind e ≡ NotFound → (name : List ℕ) → IsPlain name → get files (path_in folder name) ≡ None

-- the call failed, and not for want of memory
abbrev pub IsFault : {X : Type 0} → Result X Error → Type 0
IsFault (Ok x) = ⊥
IsFault (Err e) = error_kind e ≢ OutOfMemory

-- the call failed, neither for want of memory nor with the error that is an answer
abbrev pub IsFaultBut : {X : Type 0} → ErrorKind → Result X Error → Type 0
IsFaultBut answer (Ok x) = ⊥
IsFaultBut answer (Err e) = (error_kind e ≢ answer) × (error_kind e ≢ OutOfMemory)

-- ## What was called

-- what a renaming came to
abbrev pub renamed_kind : Result (Unit {0}) Error → Kind
renamed_kind (Ok x) = kinds.Renamed
renamed_kind (Err e) = kinds.Tried

abbrev pub is_created_at : Kind → List ℕ → List ℕ → Bool
is_created_at kinds.Created path wanted = bytes_eq path wanted
is_created_at _ path wanted = false

-- the last call made the file at this path
abbrev pub is_created : List ℕ → List Event → Bool
is_created path [] = false
is_created path (e ∷ earlier) = is_created_at e.0 e.1 path

abbrev pub is_seen_at : Kind → List ℕ → List ℕ → Bool
is_seen_at kinds.Seen path wanted = bytes_eq path wanted
is_seen_at _ path wanted = false

-- the last call saw a plain file at this path
abbrev pub is_seen : List ℕ → List Event → Bool
is_seen path [] = false
is_seen path (e ∷ earlier) = is_seen_at e.0 e.1 path

-- the calls with what a look at a path saw
abbrev pub looked : Bool → List ℕ → List Event → List Event
looked true path earlier = (kinds.Seen, path, []) ∷ earlier
looked false path earlier = earlier

-- ## The lock of the folder

-- to lock the folder alone, or shared with all that lock it so
abbrev pub lock_kind : Bool → Kind
lock_kind true = kinds.Alone
lock_kind false = kinds.Shared

abbrev pub lock_fault : ErrorKind → Kind
lock_fault WouldBlock = kinds.Excluded
lock_fault _ = kinds.Failed

-- what a wish for the lock came to
abbrev pub lock_event : Bool → Result (Unit {0}) Error → Event
lock_event alone (Ok x) = (lock_kind alone, [], [])
lock_event alone (Err e) = (lock_fault (error_kind e), [], [])

-- the calls with what is asked
abbrev pub asked : Bool → List Event → List Event
asked true earlier = (kinds.Asked, [], []) ∷ earlier
asked false earlier = earlier

abbrev pub locked_next : Bool → Kind → Bool → Bool
locked_next alone kinds.Alone before = true
locked_next alone kinds.Shared before = not alone || before
locked_next alone _ before = before

-- The folder was locked: alone, where that is what is wanted. A lock stays until the handle is gone.
abbrev pub is_locked : Bool → List Event → Bool
is_locked alone [] = false
is_locked alone (e ∷ earlier) = locked_next alone e.0 (is_locked alone earlier)

abbrev pub excluded_next : Kind → Bool → Bool
excluded_next kinds.Excluded before = true
excluded_next _ before = before

-- another one held the folder, and excluded this handle
abbrev pub is_excluded : List Event → Bool
is_excluded [] = false
is_excluded (e ∷ earlier) = excluded_next e.0 (is_excluded earlier)

-- the call failed since another one holds the folder
abbrev pub IsExcluded : {X : Type 0} → Result X Error → Type 0
IsExcluded done = IsErrAnd done (λ e. error_kind e ≡ WouldBlock)
