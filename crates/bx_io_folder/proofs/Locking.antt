-- What follows of the order and the lock from the calls that were made.
use Rattle.std.proofs.Common.{◌≡◌, ◌∙◌, ℕ, Bool, true, false, List, [], ◌∷◌, refl, sym, ap, subst, Result, Ok, Err, IfErr, OnErr, OnOk, arith, inl, inr}
use Rattle.std.specs.Prelude.{not, ◌||◌, ◌&&◌, ◌==◌, ◌⊎◌, length, slice_index}
use borrow.Author.Tests.{eq-eqb, eqb-true, ne_eqb}
use Rattle.std.specs.Str.{bytes_eq}
use Rattle.std.proofs.lemmas.Bool.{false≢true}
use Rattle.std.proofs.lemmas.Slice.Eq.{bytes_eq-Decides}
use Rattle.std.specs.IoError.{error_kind}
use Rattle.std.specs.declared.io.Error.{Error}
use Rattle.std.specs.declared.io.ErrorKind.{ErrorKind}
use Rattle.std.specs.declared.io.ErrorKind.TheVariants.{NotFound, WouldBlock}
use Rattle.bx_io.specs.Names.{IsName}
use Rattle.bx_io.specs.declared.name.TheConstants.{NAME_LENGTH}
use Rattle.bx_io_disk.specs.Events.{Event}
use Rattle.bx_io_folder.specs.NamedFiles.{IsBegun}
use Rattle.bx_io_disk.specs.Files.{IsExcluded, asked, is_created, is_created_at, is_excluded, is_locked, lock_event, lock_fault, lock_kind, renamed_kind}
use Rattle.bx_io_folder.specs.Order.{OwnsBut, OwnsNoMore, above, asks_alone, has_folders, has_new, is_durable, is_name_in, is_own, is_ready, is_stored, is_to_remove, is_after, blob_letter, entry_letter, may_come, may_change, own_next, unsynced}
use Rattle.bx_io_disk.specs.declared.kind.Kind.{Kind}
use Rattle.bx_io_disk.specs.declared.kind.Kind.TheVariants as kinds
use Rattle.bx_io_disk.proofs.Locking.{excluded_fault, locked_any}

-- ## Locks

-- what is asked

pub excluded_asked : (alone : Bool) (earlier : List Event) → is_excluded (asked alone earlier) ≡ is_excluded earlier
excluded_asked true earlier = refl
excluded_asked false earlier = refl

pub own_asked : (alone : Bool) (earlier : List Event) (path : List ℕ) → is_own path (asked alone earlier) ≡ is_own path earlier
own_asked true earlier path = refl
own_asked false earlier path = refl

pub asks_asked : (alone : Bool) (earlier : List Event) → asks_alone earlier ≡ alone → asks_alone (asked alone earlier) ≡ alone
asks_asked true earlier is = refl
asks_asked false earlier is = is

pub asks_once : (earlier : List Event) → asks_alone (asked true earlier) ≡ true
asks_once earlier = refl

pub unsynced_asked : (letter : ℕ) (alone : Bool) (earlier : List Event) → unsynced letter (asked alone earlier) ≡ unsynced letter earlier
unsynced_asked letter true earlier = refl
unsynced_asked letter false earlier = refl

pub new_asked : (folder : List ℕ) (alone : Bool) (earlier : List Event) → has_new folder (asked alone earlier) ≡ has_new folder earlier
new_asked folder true earlier = refl
new_asked folder false earlier = refl

pub durable_asked : (alone : Bool) (earlier : List Event) → is_durable (asked alone earlier) ≡ is_durable earlier
durable_asked true earlier = refl
durable_asked false earlier = refl

-- what a wish for the lock came to

own_fault : (kind : ErrorKind) (earlier : List Event) (path : List ℕ) → is_own path ((lock_fault kind, [], []) ∷ earlier) ≡ is_own path earlier
own_fault WouldBlock earlier path = refl
own_fault _ earlier path = refl

own_event : (alone : Bool) (r : Result (Unit {0}) Error) (earlier : List Event) (path : List ℕ) → is_own path (lock_event alone r ∷ earlier) ≡ is_own path earlier
own_event true (Ok x) earlier path = refl
own_event false (Ok x) earlier path = refl
own_event alone (Err e) earlier path = own_fault (error_kind e) earlier path

pub own_lock : (alone : Bool) (r : Result (Unit {0}) Error) (earlier now : List Event) (path : List ℕ) → now ≡ lock_event alone r ∷ asked alone earlier → is_own path now ≡ is_own path earlier
own_lock alone r earlier now path is = ap (is_own path) is ∙ own_event alone r (asked alone earlier) path ∙ own_asked alone earlier path

asks_fault : (kind : ErrorKind) (earlier : List Event) → asks_alone ((lock_fault kind, [], []) ∷ earlier) ≡ asks_alone earlier
asks_fault WouldBlock earlier = refl
asks_fault _ earlier = refl

asks_event : (alone : Bool) (r : Result (Unit {0}) Error) (earlier : List Event) → asks_alone (lock_event alone r ∷ earlier) ≡ asks_alone earlier
asks_event true (Ok x) earlier = refl
asks_event false (Ok x) earlier = refl
asks_event alone (Err e) earlier = asks_fault (error_kind e) earlier

pub asks_lock : (alone : Bool) (r : Result (Unit {0}) Error) (earlier now : List Event) → now ≡ lock_event alone r ∷ asked alone earlier → asks_alone earlier ≡ alone → asks_alone now ≡ alone
asks_lock alone r earlier now is before = ap asks_alone is ∙ asks_event alone r (asked alone earlier) ∙ asks_asked alone earlier before

pub asks_lock_alone : (r : Result (Unit {0}) Error) (earlier now : List Event) → now ≡ lock_event true r ∷ asked true earlier → asks_alone now ≡ true
asks_lock_alone r earlier now is = ap asks_alone is ∙ asks_event true r (asked true earlier)

unsynced_fault : (letter : ℕ) (kind : ErrorKind) (earlier : List Event) → unsynced letter ((lock_fault kind, [], []) ∷ earlier) ≡ unsynced letter earlier
unsynced_fault letter WouldBlock earlier = refl
unsynced_fault letter _ earlier = refl

unsynced_event : (letter : ℕ) (alone : Bool) (r : Result (Unit {0}) Error) (earlier : List Event) → unsynced letter (lock_event alone r ∷ earlier) ≡ unsynced letter earlier
unsynced_event letter true (Ok x) earlier = refl
unsynced_event letter false (Ok x) earlier = refl
unsynced_event letter alone (Err e) earlier = unsynced_fault letter (error_kind e) earlier

pub unsynced_lock : (letter : ℕ) (alone : Bool) (r : Result (Unit {0}) Error) (earlier now : List Event) → now ≡ lock_event alone r ∷ asked alone earlier → unsynced letter now ≡ unsynced letter earlier
unsynced_lock letter alone r earlier now is = ap (unsynced letter) is ∙ unsynced_event letter alone r (asked alone earlier) ∙ unsynced_asked letter alone earlier

new_fault : (folder : List ℕ) (kind : ErrorKind) (earlier : List Event) → has_new folder ((lock_fault kind, [], []) ∷ earlier) ≡ has_new folder earlier
new_fault folder WouldBlock earlier = refl
new_fault folder _ earlier = refl

new_event : (folder : List ℕ) (alone : Bool) (r : Result (Unit {0}) Error) (earlier : List Event) → has_new folder (lock_event alone r ∷ earlier) ≡ has_new folder earlier
new_event folder true (Ok x) earlier = refl
new_event folder false (Ok x) earlier = refl
new_event folder alone (Err e) earlier = new_fault folder (error_kind e) earlier

new_lock : (folder : List ℕ) (alone : Bool) (r : Result (Unit {0}) Error) (earlier : List Event) → has_new folder (lock_event alone r ∷ asked alone earlier) ≡ has_new folder earlier
new_lock folder alone r earlier = new_event folder alone r (asked alone earlier) ∙ new_asked folder alone earlier

pub folders_lock : (alone : Bool) (r : Result (Unit {0}) Error) (earlier now : List Event) → now ≡ lock_event alone r ∷ asked alone earlier → has_folders now ≡ has_folders earlier
folders_lock alone r earlier now is =
    ap has_folders is ∙ ap (λ (b : Bool). not b && not (has_new [] (lock_event alone r ∷ asked alone earlier))) (new_lock above alone r earlier)
    ∙ ap (λ (b : Bool). not (has_new above earlier) && not b) (new_lock [] alone r earlier)

durable_fault : (kind : ErrorKind) (earlier : List Event) → is_durable ((lock_fault kind, [], []) ∷ earlier) ≡ is_durable earlier
durable_fault WouldBlock earlier = refl
durable_fault _ earlier = refl

durable_event : (alone : Bool) (r : Result (Unit {0}) Error) (earlier : List Event) → is_durable (lock_event alone r ∷ earlier) ≡ is_durable earlier
durable_event true (Ok x) earlier = refl
durable_event false (Ok x) earlier = refl
durable_event alone (Err e) earlier = durable_fault (error_kind e) earlier

pub durable_lock : (alone : Bool) (r : Result (Unit {0}) Error) (earlier now : List Event) → now ≡ lock_event alone r ∷ asked alone earlier → is_durable now ≡ is_durable earlier
durable_lock alone r earlier now is = ap is_durable is ∙ durable_event alone r (asked alone earlier) ∙ durable_asked alone earlier

excluded_event : (alone : Bool) (r : Result (Unit {0}) Error) (earlier : List Event) → is_excluded (lock_event alone r ∷ earlier) ≡ true → IsExcluded r ⊎ (is_excluded earlier ≡ true)
excluded_event true (Ok x) earlier is = inr is
excluded_event false (Ok x) earlier is = inr is
excluded_event alone (Err e) earlier is = excluded_fault (error_kind e) earlier is

excluded_either : (alone : Bool) (r : Result (Unit {0}) Error) (earlier : List Event) → (is_excluded earlier ≡ true → IsExcluded r) → IsExcluded r ⊎ (is_excluded (asked alone earlier) ≡ true) → IsExcluded r
excluded_either alone r earlier stays (inl is) = is
excluded_either alone r earlier stays (inr is) = stays (sym (excluded_asked alone earlier) ∙ is)

-- a wish is refused where the folder is another one's, now or since before
pub excluded_lock : (alone : Bool) (r : Result (Unit {0}) Error) (earlier now : List Event) → now ≡ lock_event alone r ∷ asked alone earlier → (is_excluded earlier ≡ true → IsExcluded r)
    → is_excluded now ≡ true → IsExcluded r
excluded_lock alone r earlier now is stays excluded =
    excluded_either alone r earlier stays (excluded_event alone r (asked alone earlier) (sym (ap is_excluded is) ∙ excluded))

-- the folder is locked as was asked
pub locked_as_asked : (alone : Bool) (earlier now : List Event) → now ≡ (lock_kind alone, [], []) ∷ asked alone earlier → asks_alone earlier ≡ alone → may_change now ≡ true
locked_as_asked true earlier now is asks = ap may_change is
locked_as_asked false earlier now is asks = ap may_change is ∙ subst (λ (b : Bool). (not b || is_locked b earlier) ≡ true) (sym asks) refl

pub locked_alone : (earlier now : List Event) → now ≡ (kinds.Alone, [], []) ∷ asked true earlier → is_locked true now ≡ true
locked_alone earlier now is = ap (is_locked true) is

pub locked_on_ok : (alone : Bool) (r : Result (Unit {0}) Error) (earlier now : List Event) → now ≡ lock_event alone r ∷ asked alone earlier → asks_alone earlier ≡ alone
    → OnOk r (may_change now ≡ true)
locked_on_ok alone (Ok x) earlier now is asks = locked_as_asked alone earlier now is asks
locked_on_ok alone (Err e) earlier now is asks = tt

pub alone_on_ok : (r : Result (Unit {0}) Error) (earlier now : List Event) → now ≡ lock_event true r ∷ asked true earlier → OnOk r (is_locked true now ≡ true)
alone_on_ok (Ok x) earlier now is = locked_alone earlier now is
alone_on_ok (Err e) earlier now is = tt

pub may_change_alone : (earlier : List Event) → is_locked true earlier ≡ true → may_change earlier ≡ true
may_change_alone earlier is = locked_any (asks_alone earlier) earlier is

-- ## Files of a handle's own

pub is_itself : (path : List ℕ) → bytes_eq path path ≡ true
is_itself path = (bytes_eq-Decides path path).1 refl

pub are_apart : (path q : List ℕ) → (q ≡ path → ⊥) → bytes_eq path q ≡ false
are_apart path q apart =
    elim (bytes_eq path q) as (λ b. bytes_eq path q ≡ b → b ≡ false) [
      | true ↦ λ is. absurd (apart (sym ((bytes_eq-Decides path q).0 is)))
      | false ↦ λ _. refl
    ] refl

own_after : (kind : Kind) (path old wanted : List ℕ) (before : Bool) → is_created_at kind path wanted ≡ true → own_next wanted kind path old before ≡ true
own_after kinds.Created path old wanted before is = ap (λ (b : Bool). b || before) is
own_after _ path old wanted before is = absurd (false≢true is)

-- a file that was made just now is the handle's own
pub created_is_own : (path : List ℕ) (earlier : List Event) → is_created path earlier ≡ true → is_own path earlier ≡ true
created_is_own path [] is = absurd (false≢true is)
created_is_own path (e ∷ earlier) is = own_after e.0 e.1 e.2 path (is_own path earlier) is

pub created_now : (path : List ℕ) (earlier : List Event) → is_created path ((kinds.Created, path, []) ∷ earlier) ≡ true
created_now path earlier = is_itself path

pub own_but_created : (path : List ℕ) (earlier : List Event) → OwnsBut path earlier ((kinds.Created, path, []) ∷ earlier)
own_but_created path earlier q apart = ap (λ (b : Bool). b || is_own q earlier) (are_apart path q apart)

pub own_but_removed : (path : List ℕ) (earlier : List Event) → OwnsBut path earlier ((kinds.Removed, path, []) ∷ earlier)
own_but_removed path earlier q apart = ap (λ (b : Bool). not b && is_own q earlier) (are_apart path q apart)

pub own_but_renamed : (path old : List ℕ) (earlier : List Event) → OwnsBut old earlier ((kinds.Renamed, path, old) ∷ earlier)
own_but_renamed path old earlier q apart = ap (λ (b : Bool). not b && is_own q earlier) (are_apart old q apart)

pub removed_is_not_own : (path : List ℕ) (earlier : List Event) → is_own path ((kinds.Removed, path, []) ∷ earlier) ≡ false
removed_is_not_own path earlier = ap (λ (b : Bool). not b && is_own path earlier) (is_itself path)

pub renamed_is_not_own : (path old : List ℕ) (earlier : List Event) → is_own old ((kinds.Renamed, path, old) ∷ earlier) ≡ false
renamed_is_not_own path old earlier = ap (λ (b : Bool). not b && is_own old earlier) (is_itself old)

pub own_but_on : (path : List ℕ) (before between now : List Event) → OwnsBut path before between → OwnsBut path between now → OwnsBut path before now
own_but_on path before between now first next q apart = next q apart ∙ first q apart

-- a file that was begun and is gone leaves none
pub owns_no_more : (begun : List ℕ) (before now : List Event) → OwnsBut begun before now → is_own begun now ≡ false → OwnsNoMore before now
owns_no_more begun before now others gone path is =
    elim (bytes_eq begun path) as (λ b. bytes_eq begun path ≡ b → is_own path before ≡ true) [
      | true ↦ λ here. absurd (false≢true (sym gone ∙ subst (λ (p : List ℕ). is_own p now ≡ true) (sym ((bytes_eq-Decides begun path).0 here)) is))
      | false ↦ λ other. sym (others path (λ same. false≢true (sym other ∙ subst (λ (p : List ℕ). bytes_eq begun p ≡ true) (sym same) (is_itself begun)))) ∙ is
    ] refl

and_right : (a b : Bool) → (a && b) ≡ true → b ≡ true
and_right true b is = is
and_right false b is = absurd (false≢true is)

pub removed_owns_no_more : (path : List ℕ) (earlier now : List Event) → now ≡ (kinds.Removed, path, []) ∷ earlier → OwnsNoMore earlier now
removed_owns_no_more path earlier now is q own = and_right (not (bytes_eq path q)) (is_own q earlier) (sym (ap (is_own q) is) ∙ own)

-- ## What may be removed

or_last : (a b : Bool) → (a || (b || true)) ≡ true
or_last true b = refl
or_last false true = refl
or_last false false = refl

or_middle : (a b : Bool) → (a || (true || b)) ≡ true
or_middle true b = refl
or_middle false b = refl

pub removes_name : (path : List ℕ) (earlier : List Event) → (length path == NAME_LENGTH) ≡ true → is_to_remove path earlier ≡ true
removes_name path earlier is = rw is (or_last (is_own path earlier) (is_locked true earlier))

pub removes_own : (path : List ℕ) (earlier : List Event) → is_own path earlier ≡ true → is_to_remove path earlier ≡ true
removes_own path earlier is = rw is refl

pub removes_alone : (path : List ℕ) (earlier : List Event) → is_locked true earlier ≡ true → is_to_remove path earlier ≡ true
removes_alone path earlier is = rw is (or_middle (is_own path earlier) (length path == NAME_LENGTH))

-- ## One more call

and_both : (a b : Bool) → a ≡ true → b ≡ true → (a && b) ≡ true
and_both a b first second = rw (first, second) refl

pub durable_next : (kind : Kind) (path old : List ℕ) (earlier now : List Event) → now ≡ (kind, path, old) ∷ earlier → may_come kind path old earlier ≡ true → is_durable earlier ≡ true
    → is_durable now ≡ true
durable_next kind path old earlier now is may durable = ap is_durable is ∙ and_both (may_come kind path old earlier) (is_durable earlier) may durable

-- a removal may come now
pub may_remove : (path old : List ℕ) (earlier : List Event) → may_change earlier ≡ true → is_to_remove path earlier ≡ true → is_after blob_letter entry_letter path earlier ≡ true
    → may_come kinds.Removed path old earlier ≡ true
may_remove path old earlier locked removes ready =
    and_both (may_change earlier && is_to_remove path earlier) (is_after blob_letter entry_letter path earlier) (and_both (may_change earlier) (is_to_remove path earlier) locked removes) ready

-- ## Files that are begun

begun_apart : (letter : ℕ) (path : List ℕ) → IsBegun path → is_name_in letter path ≡ false
begun_apart letter path begun = ap (λ (b : Bool). b && (slice_index path 0 == letter)) (ne_eqb (length path) NAME_LENGTH (λ is. omega (arith, is, begun)))

pub begun_after : (letter other : ℕ) (path : List ℕ) (earlier : List Event) → IsBegun path → is_after letter other path earlier ≡ true
begun_after letter other path earlier begun = ap (λ (b : Bool). not b || not (unsynced other earlier)) (begun_apart letter path begun)

-- the removal of such a file leaves what is to be synced
pub unsynced_removed : (letter : ℕ) (path old : List ℕ) (earlier now : List Event) → now ≡ (kinds.Removed, path, old) ∷ earlier → IsBegun path → unsynced letter now ≡ unsynced letter earlier
unsynced_removed letter path old earlier now is begun = ap (unsynced letter) is ∙ ap (λ (b : Bool). b || unsynced letter earlier) (begun_apart letter path begun)

pub removes_named : (name : List ℕ) (earlier : List Event) → IsName name → is_to_remove name earlier ≡ true
removes_named name earlier named = removes_name name earlier (eq-eqb (length name) NAME_LENGTH named.count)

-- ## Syncs

abbrev is_missing : ErrorKind → Bool
is_missing NotFound = true
is_missing _ = false

missing_or : (kind : ErrorKind) → (kind ≡ NotFound) ⊎ (is_missing kind ≡ false)
missing_or NotFound = inl refl
missing_or _ = inr refl

by_missing : (P : List Event → Type 0) (path : List ℕ) (kind : ErrorKind) (before now : List Event) → (kind ≡ NotFound → now ≡ (kinds.Absent, path, []) ∷ before) → ((kind ≡ NotFound → ⊥) → now ≡ before)
    → P ((kinds.Absent, path, []) ∷ before) → P before → (kind ≡ NotFound) ⊎ (is_missing kind ≡ false) → P now
by_missing P path kind before now missing failed absent same (inl is) = subst P (sym (missing is)) absent
by_missing P path kind before now missing failed absent same (inr other) = subst P (sym (failed (λ is. false≢true (sym other ∙ ap is_missing is)))) same

-- what holds after a sync, whatever it came to
pub after_sync : (P : List Event → Type 0) (path : List ℕ) (r : Result (Unit {0}) Error) (before now : List Event) → OnOk r (now ≡ (kinds.Synced, path, []) ∷ before)
    → IfErr r (λ e. error_kind e ≡ NotFound → now ≡ (kinds.Absent, path, []) ∷ before) → IfErr r (λ e. (error_kind e ≡ NotFound → ⊥) → now ≡ before) → P ((kinds.Synced, path, []) ∷ before)
    → P ((kinds.Absent, path, []) ∷ before) → P before → P now
after_sync P path (Ok x) before now synced missing failed stored absent same = subst P (sym synced) stored
after_sync P path (Err e) before now synced missing failed stored absent same = by_missing P path (error_kind e) before now missing failed absent same (missing_or (error_kind e))

pub unsynced_before : (letter : ℕ) (path : List ℕ) (before : List Event) → unsynced letter ((kinds.Synced, path, []) ∷ before) ≡ true → unsynced letter before ≡ true
unsynced_before letter path before is = and_right (not (bytes_eq path (letter ∷ []))) (unsynced letter before) is

still_none : (x a y b : Bool) → (not a && not b) ≡ true → (not (x && a) && not (y && b)) ≡ true
still_none x true y b is = absurd (false≢true is)
still_none x false y true is = absurd (false≢true is)
still_none true false true false is = refl
still_none true false false false is = refl
still_none false false true false is = refl
still_none false false false false is = refl

pub folders_synced : (path : List ℕ) (before : List Event) → has_folders before ≡ true → has_folders ((kinds.Synced, path, []) ∷ before) ≡ true
folders_synced path before is = still_none (not (bytes_eq path above)) (has_new above before) (not (bytes_eq path [])) (has_new [] before) is

-- ## Renamings

named_may_come : (r : Result (Unit {0}) Error) (path old : List ℕ) (earlier : List Event)
    → ((may_change earlier && is_own old earlier) && (is_stored old earlier && is_ready path earlier && has_folders earlier)) ≡ true → may_come (renamed_kind r) path old earlier ≡ true
named_may_come (Ok x) path old earlier may = may
named_may_come (Err e) path old earlier may = may

pub durable_named : (r : Result (Unit {0}) Error) (path old : List ℕ) (earlier now : List Event) → now ≡ (renamed_kind r, path, old) ∷ earlier → may_change earlier ≡ true → is_own old earlier ≡ true
    → is_stored old earlier ≡ true → is_ready path earlier ≡ true → has_folders earlier ≡ true → is_durable earlier ≡ true → is_durable now ≡ true
durable_named r path old earlier now is locked own stored ready folders durable =
    durable_next (renamed_kind r) path old earlier now is (named_may_come r path old earlier (rw (locked, own, stored, ready, folders) refl)) durable

unsynced_kind : (r : Result (Unit {0}) Error) (letter : ℕ) (path old : List ℕ) (earlier : List Event)
    → unsynced letter ((renamed_kind r, path, old) ∷ earlier) ≡ (is_name_in letter path || unsynced letter earlier)
unsynced_kind (Ok x) letter path old earlier = refl
unsynced_kind (Err e) letter path old earlier = refl

or_known : (a b known here : Bool) → (b ≡ true → known ≡ true) → (a ≡ true → here ≡ true) → (a || b) ≡ true → (known || here) ≡ true
or_known true b true here before now is = refl
or_known true b false here before now is = now refl
or_known false b known here before now is = rw (before is) refl

letter_here : (letter : ℕ) (path : List ℕ) → is_name_in letter path ≡ true → slice_index path 0 ≡ letter
letter_here letter path is = eqb-true (slice_index path 0) letter (and_right (length path == NAME_LENGTH) (slice_index path 0 == letter) is)

-- what is known to be unsynced after a renaming
pub known_named : (r : Result (Unit {0}) Error) (letter : ℕ) (path old : List ℕ) (earlier now : List Event) (known here : Bool) → now ≡ (renamed_kind r, path, old) ∷ earlier
    → (unsynced letter earlier ≡ true → known ≡ true) → (slice_index path 0 ≡ letter → here ≡ true) → unsynced letter now ≡ true → (known || here) ≡ true
known_named r letter path old earlier now known here is before at unsynced_now =
    or_known (is_name_in letter path) (unsynced letter earlier) known here before (λ named. at (letter_here letter path named))
    (sym (unsynced_kind r letter path old earlier) ∙ sym (ap (unsynced letter) is) ∙ unsynced_now)

folders_kind : (r : Result (Unit {0}) Error) (path old : List ℕ) (earlier : List Event) → has_folders ((renamed_kind r, path, old) ∷ earlier) ≡ has_folders earlier
folders_kind (Ok x) path old earlier = refl
folders_kind (Err e) path old earlier = refl

pub folders_named : (r : Result (Unit {0}) Error) (path old : List ℕ) (earlier now : List Event) → now ≡ (renamed_kind r, path, old) ∷ earlier → has_folders now ≡ has_folders earlier
folders_named r path old earlier now is = ap has_folders is ∙ folders_kind r path old earlier

asks_kind : (r : Result (Unit {0}) Error) (path old : List ℕ) (earlier : List Event) → asks_alone ((renamed_kind r, path, old) ∷ earlier) ≡ asks_alone earlier
asks_kind (Ok x) path old earlier = refl
asks_kind (Err e) path old earlier = refl

pub asks_named : (r : Result (Unit {0}) Error) (path old : List ℕ) (earlier now : List Event) → now ≡ (renamed_kind r, path, old) ∷ earlier → asks_alone now ≡ asks_alone earlier
asks_named r path old earlier now is = ap asks_alone is ∙ asks_kind r path old earlier

change_kind : (r : Result (Unit {0}) Error) (path old : List ℕ) (earlier : List Event) → may_change ((renamed_kind r, path, old) ∷ earlier) ≡ may_change earlier
change_kind (Ok x) path old earlier = refl
change_kind (Err e) path old earlier = refl

pub change_named : (r : Result (Unit {0}) Error) (path old : List ℕ) (earlier now : List Event) → now ≡ (renamed_kind r, path, old) ∷ earlier → may_change now ≡ may_change earlier
change_named r path old earlier now is = ap may_change is ∙ change_kind r path old earlier

own_kind : (r : Result (Unit {0}) Error) (path old : List ℕ) (earlier : List Event) → OwnsBut old earlier ((renamed_kind r, path, old) ∷ earlier)
own_kind (Ok x) path old earlier = own_but_renamed path old earlier
own_kind (Err e) path old earlier = λ q apart. refl

pub own_but_named : (r : Result (Unit {0}) Error) (path old : List ℕ) (earlier now : List Event) → now ≡ (renamed_kind r, path, old) ∷ earlier → OwnsBut old earlier now
own_but_named r path old earlier now is = subst (OwnsBut old earlier) (sym is) (own_kind r path old earlier)

gone_kind : (r : Result (Unit {0}) Error) (path old : List ℕ) (earlier : List Event) → OnOk r (is_own old ((renamed_kind r, path, old) ∷ earlier) ≡ false)
gone_kind (Ok x) path old earlier = renamed_is_not_own path old earlier
gone_kind (Err e) path old earlier = tt

pub gone_named : (r : Result (Unit {0}) Error) (path old : List ℕ) (earlier now : List Event) → now ≡ (renamed_kind r, path, old) ∷ earlier → OnOk r (is_own old now ≡ false)
gone_named r path old earlier now is = subst (λ (calls : List Event). OnOk r (is_own old calls ≡ false)) (sym is) (gone_kind r path old earlier)

kept_kind : (r : Result (Unit {0}) Error) (path old : List ℕ) (earlier : List Event) → is_own old earlier ≡ true → OnErr r (is_own old ((renamed_kind r, path, old) ∷ earlier) ≡ true)
kept_kind (Ok x) path old earlier own = tt
kept_kind (Err e) path old earlier own = own

pub kept_named : (r : Result (Unit {0}) Error) (path old : List ℕ) (earlier now : List Event) → now ≡ (renamed_kind r, path, old) ∷ earlier → is_own old earlier ≡ true → OnErr r (is_own old now ≡ true)
kept_named r path old earlier now is own = subst (λ (calls : List Event). OnErr r (is_own old calls ≡ true)) (sym is) (kept_kind r path old earlier own)

-- the same files are its own
pub owns_same : (before now : List Event) → ((path : List ℕ) → is_own path now ≡ is_own path before) → OwnsNoMore before now
owns_same before now own path is = sym (own path) ∙ is
