-- What a lookup answers.
use Rattle.std.specs.Prelude.{◌≡◌, ◌⊎◌, List, [], ◌∷◌, map, Option, Some, None, IsTrue, ⊤}
use Rattle.bx_tree.specs.Members.{Has}
use Rattle.bx_tree.specs.Trees.{NoneNested, paths_of}
use Rattle.pip_model_types.specs.declared.desc.Desc.{Desc}
use Rattle.observed.specs.declared.ask.Ask.{Ask}
use Rattle.observed.specs.declared.access.Answer.{Answer}
use Rattle.bx_io.specs.Holdings.{Holdings}
use Rattle.memo_format.specs.Found.{FoundParts}
use Rattle.memo_format.specs.StoreNames.{HoldsList}
use Rattle.memo_format.specs.declared.selector.Selector.{Selector}
use Rattle.run_record.specs.Digests.{IsReadBack, weak_of}
use Rattle.two_phase_meaning.specs.Usable.{AnyUsable, Usable, UsableBy, fits}
use Rattle.two_phase.specs.declared.lookups.LookupResult.{LookupResult}
use Rattle.two_phase.specs.declared.lookups.LookupResult.TheVariants as lookup_results

-- The selector is usable, and leads to this.
pub record LeadsTo (S : Holdings) (d : Desc) (see : Ask → Answer) (s : Selector) (found : FoundParts)
    : Type 0 where
  pub usable : UsableBy S d see s
  pub entry_is : usable.entry ≡ found.entry
  pub asks_are : usable.asks ≡ found.paths
  pub files_are : usable.files ≡ found.made

-- The first usable selector of the list leads to this.
abbrev pub FirstLeadsTo : Holdings → Desc → (Ask → Answer) → List Selector → FoundParts → Type 0
FirstLeadsTo S d see [] found = ⊥
FirstLeadsTo S d see (s ∷ rest) found =
    LeadsTo S d see s found ⊎ ((UsableBy S d see s → ⊥) × FirstLeadsTo S d see rest found)

-- What is found is what the first usable selector of the list leads to, and where nothing is found, none is
-- usable.
abbrev pub IsFirst : Holdings → Desc → (Ask → Answer) → List Selector → Option FoundParts → Type 0
IsFirst S d see list None = AnyUsable S d see list → ⊥
IsFirst S d see list (Some found) = FirstLeadsTo S d see list found

-- That of what is told to be held.
abbrev pub FindsFirst : Option Holdings → Desc → (Ask → Answer) → List Selector → Option FoundParts → Type 0
FindsFirst told d see list found = (S : Holdings) → told ≡ Some S → IsFirst S d see list found

-- Of the list that is held for the process the first usable selector leads to this.
pub record LookupHits (S : Holdings) (d : Desc) (see : Ask → Answer) (found : FoundParts) : Type 0 where
  pub list : List Selector
  pub held : HoldsList S (weak_of d) list
  pub first : FirstLeadsTo S d see list found

-- Some selector of the list that is held for the process is usable, and leads to this.
pub record LeadsIn (S : Holdings) (d : Desc) (see : Ask → Answer) (found : FoundParts) : Type 0 where
  pub list : List Selector
  pub held : HoldsList S (weak_of d) list
  pub selector : Selector
  pub listed : Has list selector
  pub leads : LeadsTo S d see selector found

-- What is found is a hit, and where nothing is found, nothing is usable.
abbrev pub IsUsable : Holdings → Desc → (Ask → Answer) → Option FoundParts → Type 0
IsUsable S d see None = Usable S d see → ⊥
IsUsable S d see (Some found) = LookupHits S d see found

-- That of what is told to be held.
abbrev pub FindsUsable : Option Holdings → Desc → (Ask → Answer) → Option FoundParts → Type 0
FindsUsable told d see found = (S : Holdings) → told ≡ Some S → IsUsable S d see found

-- A hit is what the first usable selector leads to, and a miss says that nothing is usable. Nothing is said
-- of the other answers.
abbrev pub IsLookup : Holdings → Desc → (Ask → Answer) → LookupResult → Type 0
IsLookup S d see (lookup_results.Hit found) = LookupHits S d see found
IsLookup S d see lookup_results.Miss = Usable S d see → ⊥
IsLookup S d see lookup_results.Fault = ⊤
IsLookup S d see lookup_results.Memory = ⊤

-- That of what is told to be held.
abbrev pub LookupGives : Option Holdings → Desc → (Ask → Answer) → LookupResult → Type 0
LookupGives told d see answer = (S : Holdings) → told ≡ Some S → IsLookup S d see answer

-- What was found is of this process, and has what the view answers now; its files fit the process, and none
-- is below another.
pub record IsCurrentHit (d : Desc) (see : Ask → Answer) (found : FoundParts) : Type 0 where
  pub weak_is : found.entry.weak ≡ weak_of d
  pub answers_are : found.answers ≡ map see found.paths
  pub fit : IsTrue (fits d.process (paths_of found.made))
  pub unnested : NoneNested (paths_of found.made)

-- a hit is of now, whatever is told of the holdings, and the weak text of the process is read back
abbrev pub LookupHitIsCurrent : Desc → (Ask → Answer) → LookupResult → Type 0
LookupHitIsCurrent d see (lookup_results.Hit found) = IsReadBack d × IsCurrentHit d see found
LookupHitIsCurrent d see lookup_results.Miss = ⊤
LookupHitIsCurrent d see lookup_results.Fault = ⊤
LookupHitIsCurrent d see lookup_results.Memory = ⊤

-- What the first usable selector of the rest of a list leads to is what that of all of it leads to, and what
-- is usable in all of it is usable in the rest.
abbrev pub Onward : Option Holdings → Desc → (Ask → Answer) → List Selector → List Selector → Type 0
Onward told d see all rest =
    (S : Holdings) → told ≡ Some S
    → ((found : FoundParts) → FirstLeadsTo S d see rest found → FirstLeadsTo S d see all found)
    × (AnyUsable S d see all → AnyUsable S d see rest)
