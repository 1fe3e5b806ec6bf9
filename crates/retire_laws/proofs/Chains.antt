-- Builds one after another.
use Rattle.std.proofs.Common.{◌≡◌, ℕ, zero, suc, List, [], ◌∷◌, ◌++◌, take, Some, None, sym, ◌∙◌}
use Rattle.std.specs.Prelude.{IsSome}
use Rattle.std.specs.FinMap.{empty, get-empty}
use Rattle.std.specs.List.{AllByRecursion}
use Rattle.sha2.specs.Sha256.{sha256}
use Rattle.bx_tree.specs.Members.{Has}
use Rattle.bx_tree.proofs.Lists.{all_append}
use Rattle.bx_io.specs.Holdings.{Holdings, StoreTold, held_in}
use Rattle.memo_format.specs.StoreNames.{HoldsBlob, at_blob}
use Rattle.run_record.specs.Collisions.{NoCollision}
use Rattle.run_record.specs.Facts.{Facts}
use Rattle.two_phase.specs.Putting.{LeavesHonest}
use Rattle.two_phase_meaning.specs.Honest.{Honest}
use Rattle.two_phase_meaning.proofs.Puts.{nothing_honest}
use Rattle.retire.specs.Saving.{PutsEach}
use Rattle.retire.proofs.Chain.{IsReady, chain}
use Rattle.retire.proofs.Putting.{keeps_each}
use Rattle.retire_laws.specs.Series.{AreListed, AreSavedInTurn, IsListed}

join_each : (fs gs : List Facts) (before between now : StoreTold) → PutsEach before fs between → PutsEach between gs now → PutsEach before (fs ++ gs) now
join_each [] gs before between now same each = keeps_each gs before between now same each
join_each (f ∷ fs) gs before between now puts each = (puts.0, puts.1, join_each fs gs puts.0 between now puts.2 each)

module _ (contents : List (List ℕ)) where
  abbrev Ready : Facts → Type 0
  Ready = IsReady (Has contents)

  ready : (f : Facts) → IsListed contents f → Ready f
  ready f h = record { sound = h.success.1; good = h.success.0; met = h.listed }

  ready_first : (n : ℕ) (fs : List Facts) → AreListed contents fs → AllByRecursion Ready (take n fs)
  ready_first zero fs h = tt
  ready_first (suc n) [] h = tt
  ready_first (suc n) (f ∷ fs) h = (ready f h.0, ready_first n fs h.1)

  -- all that was saved, as one list of records
  saved_each : (builds : List (List Facts)) (before now : StoreTold) → AllByRecursion (AreListed contents) builds → AreSavedInTurn before builds now
      → (fs : List Facts) × AllByRecursion Ready fs × PutsEach before fs now
  saved_each [] before now listed same = ([], tt, same)
  saved_each (fs ∷ builds) before now listed saved =
      let rest = saved_each builds saved.0 now listed.1 saved.2 in
      let first = take saved.1.number fs in (
        first ++ rest.0,
        all_append Ready first rest.0 (ready_first saved.1.number fs listed.0) rest.1,
        join_each first rest.0 before saved.0 now saved.1.each rest.2,
      )

  pub stay_honest : NoCollision (Has contents) → (builds : List (List Facts)) → AllByRecursion (AreListed contents) builds
      → (held : Holdings) (before now : StoreTold) → held_in before ≡ Some held → IsSome (held_in now) → Honest held
      → ((x : List ℕ) → HoldsBlob held x → Has contents x) → AreSavedInTurn before builds now → LeavesHonest held before now
  stay_honest apart builds listed held before now was tells honest within saved =
      let all = saved_each builds before now listed saved in
      (chain (Has contents) apart all.0 held before now was tells all.1 within honest all.2).honest

  holds_nothing : (x : List ℕ) → HoldsBlob empty x → Has contents x
  holds_nothing x h = let none : None ≡ Some x = sym (get-empty _ (at_blob (sha256 x))) ∙ h in absurd cc

  pub stay_honest_from_empty : NoCollision (Has contents) → (builds : List (List Facts)) → AllByRecursion (AreListed contents) builds → (before now : StoreTold)
      → held_in before ≡ Some empty → IsSome (held_in now) → AreSavedInTurn before builds now → LeavesHonest empty before now
  stay_honest_from_empty apart builds listed before now was tells saved =
      stay_honest apart builds listed empty before now was tells nothing_honest holds_nothing saved
