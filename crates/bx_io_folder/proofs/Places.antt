-- What follows of the places at which a put may begin its file.
use Rattle.std.proofs.Common.{◌≡◌, ◌∙◌, ◌<◌, ◌≤◌, ◌+◌, ◌-◌, ℕ, Bool, true, false, List, refl, sym, subst, inl, inr, arith, IsSome, codes, length, take, drop, Result, Ok, Err}
use Rattle.std.specs.Prelude.{◌⊎◌, ◌↔◌, IfOk, IsTrue}
use Rattle.std.specs.FinMap.{get}
use Rattle.std.proofs.lemmas.Bool.{cases_eq}
use Rattle.std.proofs.lemmas.List.{length-drop, length-take, take_all}
use Rattle.bx_io.specs.Causes.{Rose}
use Rattle.bx_io.specs.Names.{IsName}
use Rattle.bx_io.specs.declared.name.TheConstants.{NAME_LENGTH}
use Rattle.bx_io_disk.specs.Events.{Event}
use Rattle.bx_io_folder.specs.NamedFiles.{AreTaken, BeginsAt, IsBegun, IsEnding, IsLeft, Places, SameNames, begun_at, place_ending}
use Rattle.bx_io_disk.specs.Files.{Files}
use Rattle.bx_io_folder.specs.Order.{GoesOn, OwnsBut}
use Rattle.bx_io_folder.specs.declared.ordered.TheConstants.{PLACES}
use Rattle.bx_io_folder.proofs.Files.{made_beside}

-- ## Calls that go on

pub goes_on_all : (calls : List Event) → GoesOn calls calls
goes_on_all calls = record { own = λ path. refl; locked = λ locked. locked; ready = λ path ready. ready }

pub goes_on_on : (before between now : List Event) → GoesOn before between → GoesOn between now → GoesOn before now
goes_on_on before between now first next = record {
  own = λ path. next.own path ∙ first.own path;
  locked = λ locked. next.locked (first.locked locked);
  ready = λ path ready. next.ready path (first.ready path ready);
}

pub own_but_goes_on : (path : List ℕ) (before now : List Event) → GoesOn before now → OwnsBut path before now
own_but_goes_on path before now on q apart = on.own q

pub goes_on_own_but : (path : List ℕ) (before between now : List Event) → GoesOn before between → OwnsBut path between now → OwnsBut path before now
goes_on_own_but path before between now first next q apart = next q apart ∙ first.own q

pub own_but_then_goes_on : (path : List ℕ) (before between now : List Event) → OwnsBut path before between → GoesOn between now → OwnsBut path before now
own_but_then_goes_on path before between now first next q apart = next.own q ∙ first q apart

-- ## Places that are taken

below_next : (P : ℕ → Type 0) (k : ℕ) → ((j : ℕ) → j < k → P j) → P k → (j : ℕ) → j < k + 1 → P j
below_next P k below here j lt = next (cases_eq j k)
  where
    next : (j ≡ k) ⊎ (j ≡ k → ⊥) → P j
    next (inl is) = subst P (sym is) here
    next (inr other) = below j (omega (arith, other))

pub one_more_taken : (files : Files) (name : List ℕ) (k : ℕ) → AreTaken files name k → IsSome (get files (begun_at name k)) → AreTaken files name (k + 1)
one_more_taken files name k taken here = below_next (λ j. IsSome (get files (begun_at name j))) k taken here

-- one more place was tried where a file is
pub place_is_taken : (before mid now : Files) (name path : List ℕ) (k : ℕ) → AreTaken before name k → mid ≡ before → path ≡ begun_at name k → Places mid now path false → AreTaken before name (k + 1)
place_is_taken before mid now name path k taken same at placed =
    one_more_taken before name k taken
    (subst (λ (f : Files). IsSome (get f (begun_at name k))) same (subst (λ (p : List ℕ). IsSome (get mid p)) at placed.1))

pub place_is_same : (before mid now : Files) (path : List ℕ) → mid ≡ before → Places mid now path false → now ≡ before
place_is_same before mid now path same placed = placed.0 ∙ same

-- a file was begun at the first place where none was
pub begins_here : (before mid now : Files) (name path : List ℕ) (k : ℕ) → k < PLACES → AreTaken before name k → mid ≡ before → path ≡ begun_at name k → Places mid now path true → BeginsAt before now name path
begins_here before mid now name path k inside taken same at placed = subst (λ (f : Files). BeginsAt f now name path) same (record {
  place = k;
  one_of = inside;
  at = at;
  taken = subst (λ (f : Files). AreTaken f name k) (sym same) taken;
  free = placed.0;
  others = placed.2;
})

pub begins_beside : (before mid now : Files) (path : List ℕ) → IsBegun path → mid ≡ before → Places mid now path true → SameNames before now
begins_beside before mid now path begun same placed = subst (λ (f : Files). SameNames f now) same (made_beside mid now path begun placed)

-- a count that rose later rose
pub rose_later : (before mid now : ℕ) → before ≤ mid → Rose mid now → Rose before now
rose_later before mid now later rose = omega (arith, later, rose)

-- ## What follows a name

-- what follows a front, up to the end
pub rest_of : (n : ℕ) (text : List ℕ) → take (length text - n) (drop n text) ≡ drop n text
rest_of n text = take_all (length text - n) (drop n text) (omega (arith, length-drop n text))

pub no_ending : (text : List ℕ) → (text ≡ codes ".new" → ⊥) → ((k : ℕ) → k < PLACES → text ≡ place_ending k → ⊥) → IsEnding text → ⊥
no_ending text old places (inl is) = old is
no_ending text old places (inr place) = places place.0 place.1 place.2

pub is_left_where : (path : List ℕ) (is : Bool) → IsName (take NAME_LENGTH path) → (IsTrue is ↔ IsEnding (drop NAME_LENGTH path)) → (IsTrue is ↔ IsLeft path)
is_left_where path is named ending = (λ yes. record { name = named; ending = ending.0 yes }, λ left. ending.1 left.ending)

pub is_left_ok : {E : Type 0} (path text : List ℕ) (r : Result Bool E) → IsName (take NAME_LENGTH path) → text ≡ drop NAME_LENGTH path → IfOk r (λ is. IsTrue is ↔ IsEnding text)
    → IfOk r (λ is. IsTrue is ↔ IsLeft path)
is_left_ok path text (Ok is) named same ending = is_left_where path is named (subst (λ (t : List ℕ). IsTrue is ↔ IsEnding t) same ending)
is_left_ok path text (Err e) named same ending = tt

-- a text that is too short has no name at its front
pub short_is_not_left : (path : List ℕ) → length path < NAME_LENGTH → IsLeft path → ⊥
short_is_not_left path short left = omega (arith, left.name.count, length-take NAME_LENGTH path, short)
