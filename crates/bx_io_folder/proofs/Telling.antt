-- What follows from what a folder tells.
use Rattle.std.proofs.Common.{◌≡◌, ℕ, Bool, true, false, ◌&&◌, List, [], ◌∷◌, Option, Some, None, refl, ap, subst, ◌∙◌, IsSome, Result, Ok, Err, sym, cond, ◌++◌, append-nil, OnOk, OnErr, Vec, Global, String}
use Rattle.std.specs.FinMap.{empty, get, insert, remove, get-empty, get-insert, get-remove, keys}
use Rattle.std.specs.Ordering.{nat_cmp, eq_by_cmp}
use Rattle.std.specs.Cmp.Lexicographic.{slice_cmp, nat_list_cmp_total}
use Rattle.std.proofs.lemmas.Slice.Eq.{bytes_eq-Decides}
use Rattle.bx_io.specs.Holdings.{Holdings, Change, Put, Drop, AreNames, name_of, changed, after_told, StoreTold, Makes, Keeps}
use Rattle.bx_io.specs.Names.{IsName}
use Rattle.bx_io.proofs.Changes.{names-after}
use Rattle.bx_io_folder.specs.Named.{ToldNames}
use Rattle.bx_io_disk.specs.declared.record.Record.{Record}
use Rattle.std.specs.Prelude.{IfSome, map, string_bytes, IfOk}
use Rattle.std.proofs.lemmas.List.Elements.{All-nil, All-cons}
use Rattle.bx_io.specs.Told.{Stays}
use Rattle.bx_io_disk.specs.declared.kind.Kind.TheVariants as kinds
use Rattle.std.specs.IoError.{error_kind}
use Rattle.std.specs.declared.io.Error.{Error}
use Rattle.std.specs.declared.io.ErrorKind.{ErrorKind}
use Rattle.std.specs.declared.io.ErrorKind.TheVariants.{NotFound, OutOfMemory}
use Rattle.bx_io.specs.Answers.{IsAnswer, IsListing, ListsNames}
use Rattle.bx_io.specs.declared.keeper.Listed.{Listed}
use Rattle.bx_io.specs.declared.keeper.Listed.TheVariants as listed
use Rattle.bx_io_folder.specs.NamedFiles.{Drops, ListsHeld, Puts, told_at}
use Rattle.bx_io_disk.specs.Files.{Reads}
use Rattle.bx_io.specs.declared.keeper.Got.{Got}
use Rattle.bx_io.specs.declared.keeper.Got.TheVariants as got
use Rattle.bx_io.specs.declared.keeper.PutFault.{PutFault}
use Rattle.bx_io.specs.declared.keeper.PutFault.TheVariants as put_faults
use Rattle.bx_io_disk.specs.Events.{Event, alone_of, in_a_row, keep_if}
use Rattle.bx_io_disk.specs.Answers.{alone_event, event_for, change_event, fault_of, got_of, list_fault_of, listed_event, listed_of, put_fault_of, put_of}
use Rattle.std.specs.Str.{bytes_eq}
use Rattle.std.proofs.lemmas.Option.{same_Some}
use Rattle.bx_io_folder.proofs.Listing.{lists_held, same_row}
use Rattle.bx_io_disk.specs.Telling.{has_bytes, is_absent, next, seen, tells, gate, told, made_of}
use Rattle.bx_io_disk.proofs.Files.{equal_names, other_names}
use Rattle.bx_io_disk.proofs.Events.{keep_if_some}

has_bytes_is : (found : Option (List ℕ)) (bytes : List ℕ) → has_bytes found bytes ≡ true → found ≡ Some bytes
has_bytes_is None bytes h = absurd (cc)
has_bytes_is (Some held) bytes h = ap Some ((bytes_eq-Decides held bytes).0 h)

is_absent_is : (found : Option (List ℕ)) → is_absent found ≡ true → found ≡ None
is_absent_is None h = refl
is_absent_is (Some held) h = absurd (cc)

-- an answer that agrees is that of what is told
next_answer : (name : List ℕ) (answer : Got) (was : Option Holdings) (held : Holdings) → next (event_for name answer) was ≡ Some held
    → (was ≡ Some held) × IsAnswer held name answer
next_answer name (got.Found bytes) None held h = absurd (cc)
next_answer name (got.Found bytes) (Some before) held h =
    let kept = keep_if_some (has_bytes (get before name) bytes.items) before held h in
    let same : before ≡ held = kept.1 in
    (ap Some same, subst (λ (now : Holdings). get now name ≡ Some bytes.items) same (has_bytes_is (get before name) bytes.items kept.0))
next_answer name got.None None held h = absurd (cc)
next_answer name got.None (Some before) held h =
    let kept = keep_if_some (is_absent (get before name)) before held h in
    let same : before ≡ held = kept.1 in
    (ap Some same, subst (λ (now : Holdings). get now name ≡ None) same (is_absent_is (get before name) kept.0))
next_answer name got.Failed None held h = absurd (cc)
next_answer name got.Failed (Some before) held h = (h, tt)
next_answer name got.Memory None held h = absurd (cc)
next_answer name got.Memory (Some before) held h = (h, tt)

gate_some : (b : Bool) (o : Option Holdings) (held : Holdings) → gate b o ≡ Some held → (b ≡ true) × (o ≡ Some held)
gate_some true o held h = (refl, h)
gate_some false o held h = absurd (cc)

gate_open : (b : Bool) (o : Option Holdings) → b ≡ true → gate b o ≡ o
gate_open true o h = refl
gate_open false o h = absurd (cc)

pub told_answer : (first : Holdings) (events : List Event) (closed : Bool) (name : List ℕ) (answer : Got) (held : Holdings)
    → told first (event_for name answer ∷ events) closed ≡ Some held → (told first events closed ≡ Some held) × IsAnswer held name answer
told_answer first events closed name answer held h =
    let parts = gate_some closed (next (event_for name answer) (seen first events)) held h in
    let before = next_answer name answer (seen first events) held parts.1 in
    (gate_open closed (seen first events) parts.0 ∙ before.0, before.1)

-- a change that was made is one of what is told
next_made : (change : Change) (was : Option Holdings) → next (change_event change (Ok tt)) was ≡ after_told was (change ∷ [])
next_made (Put name bytes) None = refl
next_made (Put name bytes) (Some held) = refl
next_made (Drop name) None = refl
next_made (Drop name) (Some held) = refl

gate_made : (b : Bool) (change : Change) (was : Option Holdings) → gate b (next (change_event change (Ok tt)) was) ≡ after_told (gate b was) (change ∷ [])
gate_made true change was = next_made change was
gate_made false change was = refl

pub told_made : (first : Holdings) (events : List Event) (closed : Bool) (change : Change)
    → told first (change_event change (Ok tt) ∷ events) closed ≡ after_told (told first events closed) (change ∷ [])
told_made first events closed change = gate_made closed change (seen first events)

next_refused : (change : Change) (fault : PutFault) (was : Option Holdings) → next (change_event change (Err fault)) was ≡ was
next_refused (Put name bytes) put_faults.Failed None = refl
next_refused (Put name bytes) put_faults.Failed (Some held) = refl
next_refused (Put name bytes) put_faults.Memory None = refl
next_refused (Put name bytes) put_faults.Memory (Some held) = refl
next_refused (Drop name) put_faults.Failed None = refl
next_refused (Drop name) put_faults.Failed (Some held) = refl
next_refused (Drop name) put_faults.Memory None = refl
next_refused (Drop name) put_faults.Memory (Some held) = refl

pub told_refused : (first : Holdings) (events : List Event) (closed : Bool) (change : Change) (fault : PutFault)
    → told first (change_event change (Err fault) ∷ events) closed ≡ told first events closed
told_refused first events closed change fault = ap (gate closed) (next_refused change fault (seen first events))

-- a start changes nothing
next_started : (was : Option Holdings) → next (kinds.Started, [], []) was ≡ was
next_started None = refl
next_started (Some held) = refl

pub told_started : (first : Holdings) (events : List Event) (closed : Bool) → told first ((kinds.Started, [], []) ∷ events) closed ≡ told first events closed
told_started first events closed = ap (gate closed) (next_started (seen first events))

-- the records that were joined
and_true : (a b : Bool) → (a && b) ≡ true → (a ≡ true) × (b ≡ true)
and_true true b h = (refl, h)
and_true false b h = absurd (cc)

tells_is : (o : Option Holdings) → tells o ≡ true → IsSome o
tells_is None h = absurd (cc)
tells_is (Some held) h = refl

some_of : (o : Option Holdings) → IsSome o → (held : Holdings) × (o ≡ Some held)
some_of None h = absurd (cc)
some_of (Some held) h = (held, refl)

pub joined_stays : (first : Holdings) (events : List Event) (closed theirs : Bool) → Stays (told first events closed) (told first events (theirs && closed))
joined_stays first events closed theirs held h =
    let parts = gate_some (theirs && closed) (seen first events) held h in
    gate_open closed (seen first events) (and_true theirs closed parts.0).1 ∙ parts.1

joined_open : (was other : Option Holdings) (closed : Bool) → IsSome other → gate (tells other && closed) was ≡ gate closed was
joined_open was None closed is = absurd (cc)
joined_open was (Some held) closed is = refl

-- a reader that tells leaves what is told
pub joined_on : (first : Holdings) (events : List Event) (closed : Bool) (other : Option Holdings) → IsSome other → told first events (tells other && closed) ≡ told first events closed
joined_on first events closed other is = joined_open (seen first events) other closed is

pub joined_tells : (first : Holdings) (events : List Event) (closed : Bool) (other : Option Holdings) → IsSome (told first events (tells other && closed)) → IsSome other
joined_tells first events closed other is =
    let was = some_of (told first events (tells other && closed)) is in
    let parts = gate_some (tells other && closed) (seen first events) was.0 was.1 in
    tells_is other (and_true (tells other) closed parts.0).0

-- telling goes on at answers that agree
next_agrees : (name : List ℕ) (answer : Got) (held : Holdings) → IsAnswer held name answer → next (event_for name answer) (Some held) ≡ Some held
next_agrees name (got.Found bytes) held is =
    rw is (ap (λ b. keep_if b held) ((bytes_eq-Decides bytes.items bytes.items).1 refl))
next_agrees name got.None held is = rw is refl
next_agrees name got.Failed held is = refl
next_agrees name got.Memory held is = refl

pub told_on : (first held : Holdings) (events : List Event) (closed : Bool) (name : List ℕ) (answer : Got)
    → told first events closed ≡ Some held → IsAnswer held name answer → told first (event_for name answer ∷ events) closed ≡ Some held
told_on first held events closed name answer tells is =
    let parts = gate_some closed (seen first events) held tells in
    gate_open closed (next (event_for name answer) (seen first events)) parts.0
    ∙ ap (next (event_for name answer)) parts.1
    ∙ next_agrees name answer held is

-- ## Listings

next_listed : (answer : Listed) (was : Option Holdings) (held : Holdings) → next (listed_event answer) was ≡ Some held
    → (was ≡ Some held) × IsListing held answer
next_listed (listed.Names names) None held h = absurd (cc)
next_listed (listed.Names names) (Some before) held h =
    let kept = keep_if_some (bytes_eq (in_a_row (keys before)) (in_a_row (map string_bytes names.items))) before held h in
    let same : in_a_row (keys before) ≡ in_a_row (map string_bytes names.items) = (bytes_eq-Decides (in_a_row (keys before)) (in_a_row (map string_bytes names.items))).0 kept.0 in
    (ap Some kept.1, sym (same_row (keys before) (map string_bytes names.items) same) ∙ ap keys kept.1)
next_listed listed.Failed None held h = absurd (cc)
next_listed listed.Failed (Some before) held h = (h, tt)
next_listed listed.Memory None held h = absurd (cc)
next_listed listed.Memory (Some before) held h = (h, tt)

pub told_listed : (first : Holdings) (events : List Event) (closed : Bool) (answer : Listed) (held : Holdings)
    → told first (listed_event answer ∷ events) closed ≡ Some held → (told first events closed ≡ Some held) × IsListing held answer
told_listed first events closed answer held h =
    let parts = gate_some closed (next (listed_event answer) (seen first events)) held h in
    let before = next_listed answer (seen first events) held parts.1 in
    (gate_open closed (seen first events) parts.0 ∙ before.0, before.1)

next_listed_on : (answer : Listed) (held : Holdings) → IsListing held answer → next (listed_event answer) (Some held) ≡ Some held
next_listed_on (listed.Names names) held is =
    ap (λ b. keep_if b held) ((bytes_eq-Decides (in_a_row (keys held)) (in_a_row (map string_bytes names.items))).1 (ap in_a_row (sym is)))
next_listed_on listed.Failed held is = refl
next_listed_on listed.Memory held is = refl

-- telling goes on at a listing that agrees
pub told_listed_on : (first held : Holdings) (events : List Event) (closed : Bool) (answer : Listed)
    → told first events closed ≡ Some held → IsListing held answer → told first (listed_event answer ∷ events) closed ≡ Some held
told_listed_on first held events closed answer tells is =
    let parts = gate_some closed (seen first events) held tells in
    gate_open closed (next (listed_event answer) (seen first events)) parts.0
    ∙ ap (next (listed_event answer)) parts.1
    ∙ next_listed_on answer held is

-- ## What a store in a folder is told to be

abbrev pub store_of : Holdings → List Event → Bool → StoreTold
store_of first events closed = record { held = told first events closed; changes = made_of events; alone = alone_of events }

pub alone_answer : (name : List ℕ) (answer : Got) (events : List Event) → alone_of (event_for name answer ∷ events) ≡ alone_of events
alone_answer name (got.Found bytes) events = refl
alone_answer name got.None events = refl
alone_answer name got.Failed events = refl
alone_answer name got.Memory events = refl

pub alone_listed : (answer : Listed) (events : List Event) → alone_of (listed_event answer ∷ events) ≡ alone_of events
alone_listed (listed.Names names) events = refl
alone_listed listed.Failed events = refl
alone_listed listed.Memory events = refl

-- a change leaves it whether a store works alone
pub alone_change : (change : Change) (r : Result (Unit {0}) PutFault) (events : List Event) → alone_of (change_event change r ∷ events) ≡ alone_of events
alone_change (Put name bytes) (Ok x) events = refl
alone_change (Drop name) (Ok x) events = refl
alone_change change (Err put_faults.Failed) events = refl
alone_change change (Err put_faults.Memory) events = refl

-- what is told does not change where a store is asked to work alone
next_alone : (r : Result (Unit {0}) PutFault) (was : Option Holdings) → next (alone_event r) was ≡ was
next_alone (Ok x) None = refl
next_alone (Ok x) (Some held) = refl
next_alone (Err put_faults.Failed) None = refl
next_alone (Err put_faults.Failed) (Some held) = refl
next_alone (Err put_faults.Memory) None = refl
next_alone (Err put_faults.Memory) (Some held) = refl

pub told_alone : (first : Holdings) (events : List Event) (closed : Bool) (r : Result (Unit {0}) PutFault)
    → told first (alone_event r ∷ events) closed ≡ told first events closed
told_alone first events closed r = ap (gate closed) (next_alone r (seen first events))

made_alone : (r : Result (Unit {0}) PutFault) (events : List Event) → made_of (alone_event r ∷ events) ≡ made_of events
made_alone (Ok x) events = append-nil (made_of events)
made_alone (Err put_faults.Failed) events = append-nil (made_of events)
made_alone (Err put_faults.Memory) events = append-nil (made_of events)

stays_alone : (r : Result (Unit {0}) PutFault) (events : List Event) → alone_of events ≡ true → alone_of (alone_event r ∷ events) ≡ true
stays_alone (Ok x) events alone = refl
stays_alone (Err put_faults.Failed) events alone = alone
stays_alone (Err put_faults.Memory) events alone = alone

pub keeps_alone : (first : Holdings) (events : List Event) (closed : Bool) (r : Result (Unit {0}) PutFault)
    → Keeps (store_of first events closed) (store_of first (alone_event r ∷ events) closed)
keeps_alone first events closed r = record {
  held = λ held h. sym (told_alone first events closed r) ∙ h;
  changes = made_alone r events;
  alone = stays_alone r events;
}

-- where it was granted the store works alone
pub granted_alone : (r : Result (Unit {0}) PutFault) (events : List Event) → OnOk r (alone_of (alone_event r ∷ events) ≡ true)
granted_alone (Ok x) events = refl
granted_alone (Err fault) events = tt

made_answer : (name : List ℕ) (answer : Got) (events : List Event) → made_of (event_for name answer ∷ events) ≡ made_of events
made_answer name (got.Found bytes) events = append-nil (made_of events)
made_answer name got.None events = append-nil (made_of events)
made_answer name got.Failed events = append-nil (made_of events)
made_answer name got.Memory events = append-nil (made_of events)

made_listed : (answer : Listed) (events : List Event) → made_of (listed_event answer ∷ events) ≡ made_of events
made_listed (listed.Names names) events = append-nil (made_of events)
made_listed listed.Failed events = append-nil (made_of events)
made_listed listed.Memory events = append-nil (made_of events)

made_change : (change : Change) (events : List Event) → made_of (change_event change (Ok tt) ∷ events) ≡ made_of events ++ change ∷ []
made_change (Put name bytes) events = refl
made_change (Drop name) events = refl

made_refused : (change : Change) (fault : PutFault) (events : List Event) → made_of (change_event change (Err fault) ∷ events) ≡ made_of events
made_refused change put_faults.Failed events = append-nil (made_of events)
made_refused change put_faults.Memory events = append-nil (made_of events)

pub keeps_answer : (first : Holdings) (events : List Event) (closed : Bool) (name : List ℕ) (answer : Got)
    → Keeps (store_of first events closed) (store_of first (event_for name answer ∷ events) closed)
keeps_answer first events closed name answer = record {
  held = λ held h. (told_answer first events closed name answer held h).0;
  changes = made_answer name answer events;
  alone = λ alone. alone_answer name answer events ∙ alone;
}

pub keeps_listed : (first : Holdings) (events : List Event) (closed : Bool) (answer : Listed)
    → Keeps (store_of first events closed) (store_of first (listed_event answer ∷ events) closed)
keeps_listed first events closed answer = record {
  held = λ held h. (told_listed first events closed answer held h).0;
  changes = made_listed answer events;
  alone = λ alone. alone_listed answer events ∙ alone;
}

pub makes_change : (first : Holdings) (events : List Event) (closed : Bool) (change : Change)
    → Makes (store_of first events closed) (change ∷ []) (store_of first (change_event change (Ok tt) ∷ events) closed)
makes_change first events closed change = record {
  held = λ held h. sym (told_made first events closed change) ∙ h;
  changes = made_change change events;
  alone = λ alone. alone_change change (Ok tt) events ∙ alone;
}

pub keeps_refused : (first : Holdings) (events : List Event) (closed : Bool) (change : Change) (fault : PutFault)
    → Keeps (store_of first events closed) (store_of first (change_event change (Err fault) ∷ events) closed)
keeps_refused first events closed change fault = record {
  held = λ held h. sym (told_refused first events closed change fault) ∙ h;
  changes = made_refused change fault events;
  alone = λ alone. alone_change change (Err fault) events ∙ alone;
}

pub keeps_joined : (first : Holdings) (events : List Event) (closed theirs : Bool)
    → Keeps (store_of first events closed) (store_of first events (theirs && closed))
keeps_joined first events closed theirs = record { held = joined_stays first events closed theirs; changes = refl; alone = λ alone. alone }

-- what became of a change
pub makes_on_ok : (first : Holdings) (events : List Event) (closed : Bool) (change : Change) (r : Result (Unit {0}) PutFault)
    → OnOk r (Makes (store_of first events closed) (change ∷ []) (store_of first (change_event change r ∷ events) closed))
makes_on_ok first events closed change (Ok x) = makes_change first events closed change
makes_on_ok first events closed change (Err fault) = tt

pub keeps_on_err : (first : Holdings) (events : List Event) (closed : Bool) (change : Change) (r : Result (Unit {0}) PutFault)
    → OnErr r (Keeps (store_of first events closed) (store_of first (change_event change r ∷ events) closed))
keeps_on_err first events closed change (Ok x) = tt
keeps_on_err first events closed change (Err fault) = keeps_refused first events closed change fault

-- ## Where it is known what the files hold

told_is : (told : Option Holdings) (name : List ℕ) (found : Option (List ℕ)) → told_at told name ≡ Some found
    → (held : Holdings) × (told ≡ Some held) × (get held name ≡ found)
told_is None name found h = absurd (cc)
told_is (Some held) name found h = (held, refl, cc)

reads_error : (held files : Holdings) (name : List ℕ) (kind : ErrorKind) → get held name ≡ get files name
    → (kind ≡ NotFound → get files name ≡ None) → IsAnswer held name (fault_of kind)
reads_error held files name NotFound same reads = same ∙ reads refl
reads_error held files name OutOfMemory same reads = tt
reads_error held files name _ same reads = tt

reads_answer : (held files : Holdings) (name : List ℕ) (done : Result (Vec ℕ Global) Error) → get held name ≡ get files name
    → Reads files name done → IsAnswer held name (got_of done)
reads_answer held files name (Ok bytes) same reads = same ∙ reads
reads_answer held files name (Err e) same reads = reads_error held files name (error_kind e) same reads

-- an answer of files that agree leaves what is told
pub agrees_answer : (first files : Holdings) (events : List Event) (closed : Bool) (name : List ℕ) (done : Result (Vec ℕ Global) Error)
    → told_at (told first events closed) name ≡ Some (get files name) → Reads files name done
    → told first (event_for name (got_of done) ∷ events) closed ≡ told first events closed
agrees_answer first files events closed name done agrees reads =
    let is = told_is (told first events closed) name (get files name) agrees in
    told_on first is.0 events closed name (got_of done) is.1 (reads_answer is.0 files name done is.2 reads) ∙ sym is.1

-- after a change that was made it tells on
pub telling_change : (first : Holdings) (events : List Event) (closed : Bool) (change : Change) → IsSome (told first events closed)
    → IsSome (told first (change_event change (Ok tt) ∷ events) closed)
telling_change first events closed change telling =
    let is = some_of (told first events closed) telling in
    rw (told_made first events closed change, is.1) refl

changed_at : (b : Bool) (q name : List ℕ) (put held found : Option (List ℕ)) → (b ≡ true → q ≡ name) → (q ≡ name → put ≡ found) → ((q ≡ name → ⊥) → held ≡ found)
    → (b ≡ false → q ≡ name → ⊥) → cond b put held ≡ found
changed_at true q name put held found same here other not = here (same refl)
changed_at false q name put held found same here other not = other (not refl)

-- the files agree after a put
agrees_put : (first files now : Holdings) (events : List Event) (closed : Bool) (name bytes q : List ℕ)
    → told_at (told first events closed) q ≡ Some (get files q) → (get now name ≡ Some bytes) → ((q ≡ name → ⊥) → get now q ≡ get files q)
    → told_at (told first (change_event (Put name bytes) (Ok tt) ∷ events) closed) q ≡ Some (get now q)
agrees_put first files now events closed name bytes q agrees here others =
    let is = told_is (told first events closed) q (get files q) agrees in
    let made : told first (change_event (Put name bytes) (Ok tt) ∷ events) closed ≡ Some (insert is.0 name bytes) =
    told_made first events closed (Put name bytes) ∙ ap (λ (t : Option Holdings). after_told t (Put name bytes ∷ [])) is.1 in
    let at : get (insert is.0 name bytes) q ≡ get now q =
    get-insert nat_list_cmp_total is.0 name bytes q
    ∙ changed_at (eq_by_cmp (slice_cmp nat_cmp) q name) q name (Some bytes) (get is.0 q) (get now q) (equal_names q name)
    (λ same. sym here ∙ ap (λ (n : List ℕ). get now n) (sym same)) (λ other. is.2 ∙ sym (others other)) (other_names q name) in
    ap (λ (t : Option Holdings). told_at t q) made ∙ ap Some at

-- the files agree after a drop
agrees_drop : (first files now : Holdings) (events : List Event) (closed : Bool) (name q : List ℕ)
    → told_at (told first events closed) q ≡ Some (get files q) → (get now name ≡ None) → ((q ≡ name → ⊥) → get now q ≡ get files q)
    → told_at (told first (change_event (Drop name) (Ok tt) ∷ events) closed) q ≡ Some (get now q)
agrees_drop first files now events closed name q agrees here others =
    let is = told_is (told first events closed) q (get files q) agrees in
    let made : told first (change_event (Drop name) (Ok tt) ∷ events) closed ≡ Some (remove is.0 name) =
    told_made first events closed (Drop name) ∙ ap (λ (t : Option Holdings). after_told t (Drop name ∷ [])) is.1 in
    let at : get (remove is.0 name) q ≡ get now q =
    get-remove nat_list_cmp_total is.0 name q
    ∙ changed_at (eq_by_cmp (slice_cmp nat_cmp) q name) q name None (get is.0 q) (get now q) (equal_names q name)
    (λ same. sym here ∙ ap (λ (n : List ℕ). get now n) (sym same)) (λ other. is.2 ∙ sym (others other)) (other_names q name) in
    ap (λ (t : Option Holdings). told_at t q) made ∙ ap Some at

-- ## Names

held_same : (x y : Holdings) → Some x ≡ Some y → x ≡ y
held_same x y h = cc

named_change : (was : Option Holdings) (change : Change) → IsName (name_of change) → ToldNames was → ToldNames (after_told was (change ∷ []))
named_change None change named names = λ held h. absurd (cc)
named_change (Some before) change named names = λ held h.
    subst AreNames (held_same (changed before change) held h)
    (names-after before (change ∷ []) (names before refl) (All-cons (λ c. IsName (name_of c)) change [] named (All-nil (λ c. IsName (name_of c)))))

-- a change of a name leaves names
named_changed : (first : Holdings) (events : List Event) (closed : Bool) (change : Change) (r : Result (Unit {0}) PutFault) → IsName (name_of change)
    → ToldNames (told first events closed) → ToldNames (told first (change_event change r ∷ events) closed)
named_changed first events closed change (Ok x) named names =
    subst ToldNames (sym (told_made first events closed change)) (named_change (told first events closed) change named names)
named_changed first events closed change (Err fault) named names = subst ToldNames (sym (told_refused first events closed change fault)) names

pub if_named : (o : Option Holdings) → ToldNames o → IfSome o AreNames
if_named None names = tt
if_named (Some held) names = names held refl

-- ## Records

-- the files agree after a change that was noted
pub agrees_put_noted : (before now : Record) (files after : Holdings) (name noted bytes q : List ℕ) → now ≡ record before { events = (kinds.Put, noted, bytes) ∷ before.events }
    → noted ≡ name → told_at (told before.held before.events before.closed) q ≡ Some (get files q) → (get after name ≡ Some bytes) → ((q ≡ name → ⊥) → get after q ≡ get files q)
    → told_at (told now.held now.events now.closed) q ≡ Some (get after q)
agrees_put_noted before now files after name noted bytes q is same agrees here others =
    subst (λ (log : Record). told_at (told log.held log.events log.closed) q ≡ Some (get after q)) (sym is)
    (subst (λ (n : List ℕ). told_at (told before.held ((kinds.Put, n, bytes) ∷ before.events) before.closed) q ≡ Some (get after q)) (sym same)
    (agrees_put before.held files after before.events before.closed name bytes q agrees here others))

pub agrees_drop_noted : (before now : Record) (files after : Holdings) (name noted q : List ℕ) → now ≡ record before { events = (kinds.Dropped, noted, []) ∷ before.events }
    → noted ≡ name → told_at (told before.held before.events before.closed) q ≡ Some (get files q) → (get after name ≡ None) → ((q ≡ name → ⊥) → get after q ≡ get files q)
    → told_at (told now.held now.events now.closed) q ≡ Some (get after q)
agrees_drop_noted before now files after name noted q is same agrees here others =
    subst (λ (log : Record). told_at (told log.held log.events log.closed) q ≡ Some (get after q)) (sym is)
    (subst (λ (n : List ℕ). told_at (told before.held ((kinds.Dropped, n, []) ∷ before.events) before.closed) q ≡ Some (get after q)) (sym same)
    (agrees_drop before.held files after before.events before.closed name q agrees here others))

-- the files agree after a change that failed
agrees_refused : (before now : Record) (files after : Holdings) (change : Change) (fault : PutFault) (q : List ℕ) → now ≡ record before { events = change_event change (Err fault) ∷ before.events }
    → get after q ≡ get files q → told_at (told before.held before.events before.closed) q ≡ Some (get files q) → told_at (told now.held now.events now.closed) q ≡ Some (get after q)
agrees_refused before now files after change fault q is same agrees =
    subst (λ (log : Record). told_at (told log.held log.events log.closed) q ≡ Some (get after q)) (sym is)
    (ap (λ (t : Option Holdings). told_at t q) (told_refused before.held before.events before.closed change fault) ∙ agrees ∙ ap Some (sym same))

-- how a record goes on with what became of a change
noted_as : (before now : Record) (change : Change) (r other : Result (Unit {0}) PutFault) → now ≡ record before { events = change_event change r ∷ before.events } → r ≡ other
    → now ≡ record before { events = change_event change other ∷ before.events }
noted_as before now change r other is same = subst (λ (s : Result (Unit {0}) PutFault). now ≡ record before { events = change_event change s ∷ before.events }) same is

-- the files agree after a put, whatever became of it
pub agrees_after_put : (before now : Record) (files after : Holdings) (name bytes q : List ℕ) (done : Result (Unit {0}) Error) (r : Result (Unit {0}) PutFault)
    → now ≡ record before { events = change_event (Put name bytes) r ∷ before.events } → r ≡ put_of done → Puts files after name bytes done → IsName q
    → told_at (told before.held before.events before.closed) q ≡ Some (get files q) → told_at (told now.held now.events now.closed) q ≡ Some (get after q)
agrees_after_put before now files after name bytes q (Ok x) r is same puts named agrees =
    agrees_put_noted before now files after name name bytes q (noted_as before now (Put name bytes) r (Ok x) is same) refl agrees puts.0 (puts.1 q named)
agrees_after_put before now files after name bytes q (Err e) r is same puts named agrees =
    agrees_refused before now files after (Put name bytes) (put_fault_of (error_kind e)) q (noted_as before now (Put name bytes) r (Err (put_fault_of (error_kind e))) is same) (puts q named) agrees

-- the files agree after a drop, whatever became of it
pub agrees_after_drop : (before now : Record) (files after : Holdings) (name q : List ℕ) (done : Result (Unit {0}) Error) (r : Result (Unit {0}) PutFault)
    → now ≡ record before { events = change_event (Drop name) r ∷ before.events } → r ≡ put_of done → Drops files after name done → IsName q
    → told_at (told before.held before.events before.closed) q ≡ Some (get files q) → told_at (told now.held now.events now.closed) q ≡ Some (get after q)
agrees_after_drop before now files after name q (Ok x) r is same drops named agrees =
    agrees_drop_noted before now files after name name q (noted_as before now (Drop name) r (Ok x) is same) refl agrees drops.0 (drops.1 q named)
agrees_after_drop before now files after name q (Err e) r is same drops named agrees =
    agrees_refused before now files after (Drop name) (put_fault_of (error_kind e)) q (noted_as before now (Drop name) r (Err (put_fault_of (error_kind e))) is same) (drops q named) agrees

telling_after : (first : Holdings) (events : List Event) (closed : Bool) (change : Change) (r : Result (Unit {0}) PutFault) → IsSome (told first events closed)
    → IsSome (told first (change_event change r ∷ events) closed)
telling_after first events closed change (Ok x) telling = telling_change first events closed change telling
telling_after first events closed change (Err fault) telling = subst IsSome (sym (told_refused first events closed change fault)) telling

-- after a change it tells on, whatever became of it
pub telling_noted : (before now : Record) (change : Change) (r : Result (Unit {0}) PutFault) → now ≡ record before { events = change_event change r ∷ before.events }
    → IsSome (told before.held before.events before.closed) → IsSome (told now.held now.events now.closed)
telling_noted before now change r is telling =
    subst (λ (log : Record). IsSome (told log.held log.events log.closed)) (sym is) (telling_after before.held before.events before.closed change r telling)

list_fault_is : (kind : ErrorKind) (held : Holdings) → IsListing held (list_fault_of kind)
list_fault_is OutOfMemory held = tt
list_fault_is _ held = tt

listing_is : (held files : Holdings) (done : Result (Vec (String Global) Global) Error) → AreNames held → ((q : List ℕ) → IsName q → get held q ≡ get files q)
    → IfOk done (λ names. ListsNames (listed.Names names)) → IfOk done (λ names. ListsHeld files names.items) → IsListing held (listed_of done)
listing_is held files (Ok names) told agrees named lists = lists_held held files names.items told agrees named.0 named.1 lists
listing_is held files (Err e) told agrees named lists = list_fault_is (error_kind e) held

-- a listing of files that agree leaves what is told
pub listing_noted : (before now : Record) (files : Holdings) (done : Result (Vec (String Global) Global) Error) (answer : Listed)
    → now ≡ record before { events = listed_event answer ∷ before.events } → answer ≡ listed_of done
    → IfOk done (λ names. ListsNames (listed.Names names)) → IfOk done (λ names. ListsHeld files names.items)
    → ToldNames (told before.held before.events before.closed) → IsSome (told before.held before.events before.closed)
    → ((q : List ℕ) → IsName q → told_at (told before.held before.events before.closed) q ≡ Some (get files q))
    → told now.held now.events now.closed ≡ told before.held before.events before.closed
listing_noted before now files done answer is same named lists names telling agrees =
    let was = some_of (told before.held before.events before.closed) telling in
    let held_as : (q : List ℕ) → IsName q → get was.0 q ≡ get files q = λ q n. same_Some (get was.0 q) (get files q) (sym (ap (λ (t : Option Holdings). told_at t q) was.1) ∙ agrees q n) in
    let listing : IsListing was.0 answer = subst (IsListing was.0) (sym same) (listing_is was.0 files done (names was.0 was.1) held_as named lists) in
    subst (λ (log : Record). told log.held log.events log.closed ≡ told before.held before.events before.closed) (sym is)
    (told_listed_on before.held was.0 before.events before.closed answer was.1 listing ∙ sym was.1)

-- a listing that was noted leaves names
pub listing_names : (before now : Record) (answer : Listed) → now ≡ record before { events = listed_event answer ∷ before.events }
    → ToldNames (told before.held before.events before.closed) → ToldNames (told now.held now.events now.closed)
listing_names before now answer is names =
    subst (λ (log : Record). ToldNames (told log.held log.events log.closed)) (sym is)
    (λ held h. names held (told_listed before.held before.events before.closed answer held h).0)

-- a change of a name that was noted leaves names
pub noted_names : (before now : Record) (change : Change) (r : Result (Unit {0}) PutFault) → now ≡ record before { events = change_event change r ∷ before.events }
    → IsName (name_of change) → ToldNames (told before.held before.events before.closed) → ToldNames (told now.held now.events now.closed)
noted_names before now change r is named names =
    subst (λ (log : Record). ToldNames (told log.held log.events log.closed)) (sym is)
    (named_changed before.held before.events before.closed change r named names)

-- a store that was asked to work alone

pub agrees_alone : (before now : Record) (files after : Holdings) (q : List ℕ) (r : Result (Unit {0}) PutFault) → now ≡ record before { events = alone_event r ∷ before.events }
    → get after q ≡ get files q → told_at (told before.held before.events before.closed) q ≡ Some (get files q) → told_at (told now.held now.events now.closed) q ≡ Some (get after q)
agrees_alone before now files after q r is same agrees =
    subst (λ (log : Record). told_at (told log.held log.events log.closed) q ≡ Some (get after q)) (sym is)
    (ap (λ (t : Option Holdings). told_at t q) (told_alone before.held before.events before.closed r) ∙ agrees ∙ ap Some (sym same))

pub telling_alone : (before now : Record) (r : Result (Unit {0}) PutFault) → now ≡ record before { events = alone_event r ∷ before.events }
    → IsSome (told before.held before.events before.closed) → IsSome (told now.held now.events now.closed)
telling_alone before now r is telling =
    subst (λ (log : Record). IsSome (told log.held log.events log.closed)) (sym is) (subst IsSome (sym (told_alone before.held before.events before.closed r)) telling)

pub named_alone : (before now : Record) (r : Result (Unit {0}) PutFault) → now ≡ record before { events = alone_event r ∷ before.events }
    → ToldNames (told before.held before.events before.closed) → ToldNames (told now.held now.events now.closed)
named_alone before now r is names =
    subst (λ (log : Record). ToldNames (told log.held log.events log.closed)) (sym is) (subst ToldNames (sym (told_alone before.held before.events before.closed r)) names)

-- what works alone after an answer, a listing or a change did so before

pub alone_before_answer : (before now : Record) (name : List ℕ) (answer : Got) → now ≡ record before { events = event_for name answer ∷ before.events }
    → alone_of now.events ≡ true → alone_of before.events ≡ true
alone_before_answer before now name answer is alone =
    sym (alone_answer name answer before.events) ∙ ap (λ (log : Record). alone_of log.events) (sym is) ∙ alone

pub alone_before_listing : (before now : Record) (answer : Listed) → now ≡ record before { events = listed_event answer ∷ before.events }
    → alone_of now.events ≡ true → alone_of before.events ≡ true
alone_before_listing before now answer is alone =
    sym (alone_listed answer before.events) ∙ ap (λ (log : Record). alone_of log.events) (sym is) ∙ alone

pub alone_before_change : (before now : Record) (change : Change) (r : Result (Unit {0}) PutFault) → now ≡ record before { events = change_event change r ∷ before.events }
    → alone_of now.events ≡ true → alone_of before.events ≡ true
alone_before_change before now change r is alone =
    sym (alone_change change r before.events) ∙ ap (λ (log : Record). alone_of log.events) (sym is) ∙ alone

-- ## Nothing is held

not_none : {X : Type 0} (x : X) → None ≡ Some x → ⊥
not_none x h = cc

pub none_named : AreNames empty
none_named = record { each = λ name bytes h. absurd (not_none bytes (sym (get-empty (slice_cmp nat_cmp) name) ∙ h)) }
