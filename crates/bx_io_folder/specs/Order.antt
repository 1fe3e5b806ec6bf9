-- The order in which the files of a folder are changed and stored.
use Rattle.std.specs.Prelude.{◌≡◌, ℕ, Bool, true, false, ◌&&◌, ◌||◌, not, ◌==◌, nat_lt, List, [], ◌∷◌, length, slice_index, bytes_eq}
use Rattle.bx_io.specs.declared.name.TheConstants.{NAME_LENGTH}
use Rattle.bx_io_disk.specs.Events.{Event}
use Rattle.bx_io_disk.specs.declared.kind.Kind.{Kind}
use Rattle.bx_io_disk.specs.declared.kind.Kind.TheVariants as kinds
use Rattle.bx_io_disk.specs.Files.{is_created, is_locked}

-- ## The order of changes and syncs
--
-- After a loss of power a file or folder may stand without what was put or made before it, unless that was
-- synced.

-- the letters of contents, entries and lists of selectors
abbrev pub blob_letter : ℕ
blob_letter = 98

abbrev pub entry_letter : ℕ
entry_letter = 101

abbrev pub list_letter : ℕ
list_letter = 119

-- the path is that of a name of the kind with this letter
abbrev pub is_name_in : ℕ → List ℕ → Bool
is_name_in letter path = (length path == NAME_LENGTH) && (slice_index path 0 == letter)

abbrev pub unsynced_next : ℕ → Kind → List ℕ → Bool → Bool
unsynced_next letter kinds.Renamed path before = is_name_in letter path || before
unsynced_next letter kinds.Tried path before = is_name_in letter path || before
unsynced_next letter kinds.Removed path before = is_name_in letter path || before
unsynced_next letter kinds.Synced path before = not (bytes_eq path (letter ∷ [])) && before
unsynced_next letter kinds.Absent path before = not (bytes_eq path (letter ∷ [])) && before
unsynced_next letter _ path before = before

-- A name of this kind may have been put or dropped since the folder of its kind was synced, or was not there.
-- Before the first call anything may have been. The calls are the newest first.
abbrev pub unsynced : ℕ → List Event → Bool
unsynced letter [] = true
unsynced letter (e ∷ earlier) = unsynced_next letter e.0 e.1 (unsynced letter earlier)

-- where the path is of the first kind, nothing of the other kind is unsynced
abbrev pub is_after : ℕ → ℕ → List ℕ → List Event → Bool
is_after letter other path earlier = not (is_name_in letter path) || not (unsynced other earlier)

-- a file may get this path: an entry after the contents before it are stored, a list after the entries are
abbrev pub is_ready : List ℕ → List Event → Bool
is_ready path earlier =
    is_after entry_letter blob_letter path earlier && is_after list_letter entry_letter path earlier

abbrev pub is_sync_of : Kind → List ℕ → List ℕ → Bool
is_sync_of kinds.Synced path wanted = bytes_eq path wanted
is_sync_of _ path wanted = false

-- the last call stored the file at this path
abbrev pub is_stored : List ℕ → List Event → Bool
is_stored path [] = false
is_stored path (e ∷ earlier) = is_sync_of e.0 e.1 path

-- the path of the folder that the folder is in
abbrev pub above : List ℕ
above = 46 ∷ 46 ∷ []

-- where a folder is made: the folder itself in the one above it, and that of a kind in the folder itself
abbrev pub made_in : List ℕ → List ℕ
made_in [] = above
made_in (letter ∷ path) = []

abbrev pub has_new_next : List ℕ → Kind → List ℕ → Bool → Bool
has_new_next folder kinds.Made path before = bytes_eq (made_in path) folder || before
has_new_next folder kinds.Synced path before = not (bytes_eq path folder) && before
has_new_next folder _ path before = before

-- A folder may have been made in this one since it was synced. Before the first call anything may have been. The
-- calls are the newest first.
abbrev pub has_new : List ℕ → List Event → Bool
has_new folder [] = true
has_new folder (e ∷ earlier) = has_new_next folder e.0 e.1 (has_new folder earlier)

-- each folder that may have been made is stored
abbrev pub has_folders : List Event → Bool
has_folders earlier = not (has_new above earlier) && not (has_new [] earlier)

-- ## The lock of the folder

abbrev pub asks_next : Kind → Bool → Bool
asks_next kinds.Asked before = true
asks_next _ before = before

-- the folder is to be locked alone
abbrev pub asks_alone : List Event → Bool
asks_alone [] = false
asks_alone (e ∷ earlier) = asks_next e.0 (asks_alone earlier)

-- the folder is locked as was asked
abbrev pub may_change : List Event → Bool
may_change earlier = is_locked (asks_alone earlier) earlier

-- ## Files of a handle's own

abbrev pub own_next : List ℕ → Kind → List ℕ → List ℕ → Bool → Bool
own_next wanted kinds.Created path old before = bytes_eq path wanted || before
own_next wanted kinds.Removed path old before = not (bytes_eq path wanted) && before
own_next wanted kinds.Renamed path old before = not (bytes_eq old wanted) && before
own_next wanted _ path old before = before

-- the file at this path was made by this handle, which has neither removed it since nor given it another path
abbrev pub is_own : List ℕ → List Event → Bool
is_own wanted [] = false
is_own wanted (e ∷ earlier) = own_next wanted e.0 e.1 e.2 (is_own wanted earlier)

-- no file is its own that was not before
abbrev pub OwnsNoMore : List Event → List Event → Type 0
OwnsNoMore before now = (path : List ℕ) → is_own path now ≡ true → is_own path before ≡ true

-- each file but that at the path is its own as before
abbrev pub OwnsBut : List ℕ → List Event → List Event → Type 0
OwnsBut path before now = (q : List ℕ) → (q ≡ path → ⊥) → is_own q now ≡ is_own q before

-- The same files are its own, the folder is locked as before, and what may get a path may get it.
pub record GoesOn (before now : List Event) : Type 0 where
  pub own : (path : List ℕ) → is_own path now ≡ is_own path before
  pub locked : may_change before ≡ true → may_change now ≡ true
  pub ready : (path : List ℕ) → is_ready path before ≡ true → is_ready path now ≡ true

-- a file may be removed: one of a name, one of the handle's own, and any where the folder is locked alone
abbrev pub is_to_remove : List ℕ → List Event → Bool
is_to_remove path earlier = is_own path earlier || (is_locked true earlier || (length path == NAME_LENGTH))

-- ## What may come

-- A call may come now. Files are made, written, renamed and removed under the lock. A file is written right after this
-- handle made it, which it does at no name. It gets another path where it is the handle's own, once its bytes are stored,
-- what has to be there before it and the folders that were made; and a content is removed once the changes of entries
-- before that are stored.
abbrev pub may_come : Kind → List ℕ → List ℕ → List Event → Bool
may_come kinds.Created path old earlier = may_change earlier && nat_lt NAME_LENGTH (length path)
may_come kinds.Wrote path old earlier = may_change earlier && is_created path earlier
may_come kinds.Renamed path old earlier =
    (may_change earlier && is_own old earlier) && (is_stored old earlier && is_ready path earlier && has_folders earlier)
may_come kinds.Tried path old earlier =
    (may_change earlier && is_own old earlier) && (is_stored old earlier && is_ready path earlier && has_folders earlier)
may_come kinds.Removed path old earlier =
    (may_change earlier && is_to_remove path earlier) && is_after blob_letter entry_letter path earlier
may_come _ path old earlier = true

-- Each call came when it might.
abbrev pub is_durable : List Event → Bool
is_durable [] = true
is_durable (e ∷ earlier) = may_come e.0 e.1 e.2 earlier && is_durable earlier
