-- What is promised of a repair and of a trim, from what those of the store promise.
use Rattle.std.proofs.Common.{◌≡◌, ◌⊎◌, inl, inr, ℕ, List, [], ◌++◌, Some, is_some, sym, ap, ◌∙◌, subst, append-nil, append_assoc}
use Rattle.std.specs.Prelude.{IsSome}
use Rattle.std.proofs.lemmas.Option.{same_Some}
use Rattle.bx_io.specs.Holdings.{Change, Holdings, IsPrefix, Keeps, Makes, MakesPrefix, StoreTold, held_in, holdings_after}
use Rattle.bx_io.proofs.Changes.{makes_none, nothing_before, told_after}
use Rattle.two_phase.specs.Putting.{LeavesHonest}
use Rattle.two_phase_meaning.specs.Honest.{Honest}
use Rattle.cache_care.specs.Counts.{CountsMade}
use Rattle.cache_care.specs.Planning.{OnlyDrops}
use Rattle.cache_care.specs.Repairing.{AreRepairs, DoesRepair, DoesRepairInPart, IsRepaired}
use Rattle.cache_care.specs.Trimmed.{IsTrimmed}
use Rattle.cache_care.specs.Trimming.{DoesTrim, OnlyTrims, trims}
use Rattle.cache_care.specs.declared.planning.CareCount.{CareCount}
use Rattle.bx_engine.specs.Calls.{StoreChange, Written}
use Rattle.bx_engine.specs.Care.{BlamesStore, ChangesAlone, OfRepair, OfTrim, count_text}
use Rattle.bx_engine.specs.Counting.{AppendsNoted}
use Rattle.bx_engine.specs.declared.status.Status.{Status}
use Rattle.bx_engine.specs.declared.status.Status.TheVariants as statuses
use Rattle.bx_engine.proofs.Checked.{IsStopped, not_gone}
use Rattle.bx_engine.proofs.StoresLeft.{left_honest}

-- the status of a call that came to its end, unless memory was wanting for its notes
abbrev pub IsCounted : Status → Type 0
IsCounted status = (status ≡ statuses.Done) ⊎ (status ≡ statuses.OutOfMemory)

pub counted_no_keeper : (status : Status) → IsCounted status → status ≡ statuses.KeeperFailed → ⊥
counted_no_keeper status came failed = elim came [ inl a ↦ cc | inr b ↦ cc ]

of_counted : (status : Status) → IsCounted status → (status ≡ statuses.Done) ⊎ IsStopped status
of_counted status came = elim came [ inl done ↦ inl done | inr memory ↦ inr (inl memory) ]

-- ## Changes

-- all of the changes are a first part of them
whole : (before now : StoreTold) (changes : List Change) → Makes before changes now → MakesPrefix before now changes
whole before now changes makes = record {
  made = changes;
  first = record { rest = []; joined = append-nil changes };
  makes = makes;
}

-- a first part of a first part
first_of_first : (start made changes : List Change) → IsPrefix start made → IsPrefix made changes → IsPrefix start changes
first_of_first start made changes p q = record {
  rest = p.rest ++ q.rest;
  joined = sym (append_assoc start p.rest q.rest) ∙ ap (λ (z : List Change). z ++ q.rest) p.joined ∙ q.joined;
}

-- where an honest store is honest after any first part of the changes
left_in_part : (S : Holdings) (before now : StoreTold) (changes : List Change)
    → ((made : List Change) → IsPrefix made changes → Honest (holdings_after S made)) → MakesPrefix before now changes → LeavesHonest S before now
left_in_part S before now changes stay p = record {
  made = p.made;
  makes = p.makes;
  along = λ start q. stay start (first_of_first start p.made changes q p.first);
}

-- where nothing was changed
left_alone : (S : Holdings) (before now : StoreTold) → Honest S → Keeps before now → LeavesHonest S before now
left_alone S before now honest keeps = record {
  made = [];
  makes = makes_none before now keeps;
  along = λ start p. subst (λ (cs : List Change). Honest (holdings_after S cs)) (sym (nothing_before start p)) honest;
}

-- what is left is told
left_told : (S T : Holdings) (before now : StoreTold) (changes : List Change) → held_in before ≡ Some S → held_in now ≡ Some T
    → Makes before changes now → holdings_after S changes ≡ T
left_told S T before now changes was is makes = same_Some (holdings_after S changes) T (sym (told_after before now changes S T was is makes) ∙ is)

-- ## A repair

abbrev pub RepairsStay : Type 0
RepairsStay = (S : Holdings) (changes made : List Change) → Honest S → AreRepairs S changes → IsPrefix made changes → Honest (holdings_after S made)

abbrev pub RepairsLeave : Type 0
RepairsLeave = (S : Holdings) (changes : List Change) → AreRepairs S changes → IsRepaired S (holdings_after S changes)

-- what a repair did to a store that still tells
abbrev pub RepairsInPart : StoreChange → Type 0
RepairsInPart store = (S : Holdings) → held_in store.before ≡ Some S → IsSome (held_in store.now) → DoesRepairInPart S store.before store.now

repair_left : RepairsStay → (S : Holdings) (before now : StoreTold) → Honest S → DoesRepairInPart S before now → LeavesHonest S before now
repair_left stay S before now honest part = elim part [
  | inl keeps ↦ left_alone S before now honest keeps
  | inr r ↦ left_in_part S before now r.0 (λ made p. stay S r.0 made honest r.1 p) r.2
]

-- a repair that did not come to its end
pub repair_stopped : (status : Status) (notes : Written) (store : StoreChange) → RepairsStay → IsStopped status → BlamesStore status store
    → OnlyDrops store.before store.now → ChangesAlone store.before store.now → RepairsInPart store → OfRepair status notes store
repair_stopped status notes store stay ended blames drops alone part = record {
  one_of = inr ended;
  blames = blames;
  drops = drops;
  alone = alone;
  repairs = λ done. absurd (not_gone status ended (inl done));
  in_part = part;
  repaired = λ S T was is done. absurd (not_gone status ended (inl done));
  honest = λ S T was is honest.
      left_honest S T store.before store.now was is (repair_left stay S store.before store.now honest (part S was (ap is_some is)));
  left = λ S was still honest. repair_left stay S store.before store.now honest (part S was still);
}

-- a repair that made all its changes
pub repair_told : (status : Status) (count : CareCount) (notes : Written) (store : StoreChange) → RepairsStay → RepairsLeave
    → ((S T : Holdings) → IsRepaired S T → Honest T) → IsCounted status → BlamesStore status store → OnlyDrops store.before store.now
    → ChangesAlone store.before store.now → CountsMade store.before store.now count
    → ((S : Holdings) → held_in store.before ≡ Some S → IsSome (held_in store.now) → DoesRepair S store.before store.now count)
    → (status ≡ statuses.Done → AppendsNoted (count_text count) notes) → OfRepair status notes store
repair_told status count notes store stay leave heal came blames drops alone made does noted =
    let part : RepairsInPart store =
    λ S was still. let d = does S was still in inr (d.changes, d.are, whole store.before store.now d.changes d.makes) in
    let repaired : (S T : Holdings) → held_in store.before ≡ Some S → held_in store.now ≡ Some T → IsRepaired S T =
    λ S T was is.
    let d = does S was (ap is_some is) in
    subst (IsRepaired S) (left_told S T store.before store.now d.changes was is d.makes) (leave S d.changes d.are) in
    record {
      one_of = of_counted status came;
      blames = blames;
      drops = drops;
      alone = alone;
      repairs = λ done. record { count = count; noted = noted done; made = made; does = does };
      in_part = part;
      repaired = λ S T was is done. (repaired S T was is, heal S T (repaired S T was is));
      honest = λ S T was is honest. heal S T (repaired S T was is);
      left = λ S was still honest. repair_left stay S store.before store.now honest (part S was still);
    }

-- ## A trim

abbrev pub TrimsStay : Type 0
TrimsStay = (S : Holdings) (keep : ℕ) (made : List Change) → Honest S → IsPrefix made (trims S keep) → Honest (holdings_after S made)

abbrev pub TrimsLeave : Type 0
TrimsLeave = (S : Holdings) (keep : ℕ) → IsTrimmed S keep (holdings_after S (trims S keep))

-- what a trim did to a store that still tells
abbrev pub TrimsInPart : ℕ → StoreChange → Type 0
TrimsInPart keep store = (S : Holdings) → held_in store.before ≡ Some S → IsSome (held_in store.now) → MakesPrefix store.before store.now (trims S keep)

trim_left : TrimsStay → (S : Holdings) (keep : ℕ) (before now : StoreTold) → Honest S → MakesPrefix before now (trims S keep) → LeavesHonest S before now
trim_left stay S keep before now honest part = left_in_part S before now (trims S keep) (λ made p. stay S keep made honest p) part

-- a trim that did not come to its end
pub trim_stopped : (keep : ℕ) (status : Status) (notes : Written) (store : StoreChange) → TrimsStay → IsStopped status → BlamesStore status store
    → OnlyTrims store.before store.now → ChangesAlone store.before store.now → TrimsInPart keep store → OfTrim keep status notes store
trim_stopped keep status notes store stay ended blames only alone part = record {
  one_of = inr ended;
  blames = blames;
  only = only;
  alone = alone;
  trims = λ done. absurd (not_gone status ended (inl done));
  in_part = part;
  trimmed = λ S T was is done. absurd (not_gone status ended (inl done));
  honest = λ S T was is honest.
      left_honest S T store.before store.now was is (trim_left stay S keep store.before store.now honest (part S was (ap is_some is)));
  left = λ S was still honest. trim_left stay S keep store.before store.now honest (part S was still);
}

-- a trim that made all its changes
pub trim_told : (keep : ℕ) (status : Status) (count : CareCount) (notes : Written) (store : StoreChange) → TrimsStay → TrimsLeave → IsCounted status
    → BlamesStore status store → OnlyTrims store.before store.now → ChangesAlone store.before store.now → CountsMade store.before store.now count
    → ((S : Holdings) → held_in store.before ≡ Some S → IsSome (held_in store.now) → DoesTrim S keep store.before store.now count)
    → (status ≡ statuses.Done → AppendsNoted (count_text count) notes) → OfTrim keep status notes store
trim_told keep status count notes store stay leave came blames only alone made does noted =
    let part : TrimsInPart keep store = λ S was still. whole store.before store.now (trims S keep) (does S was still).makes in
    record {
      one_of = of_counted status came;
      blames = blames;
      only = only;
      alone = alone;
      trims = λ done. record { count = count; noted = noted done; made = made; does = does };
      in_part = part;
      trimmed = λ S T was is done.
          subst (IsTrimmed S keep) (left_told S T store.before store.now (trims S keep) was is (does S was (ap is_some is)).makes) (leave S keep);
      honest = λ S T was is honest.
          left_honest S T store.before store.now was is (trim_left stay S keep store.before store.now honest (part S was (ap is_some is)));
      left = λ S was still honest. trim_left stay S keep store.before store.now honest (part S was still);
    }
