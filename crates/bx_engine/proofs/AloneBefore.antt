-- What a repair and a trim do of a store that was asked to work alone before.
use Rattle.std.proofs.Common.{◌≡◌, ℕ, List, [], Result, Ok, Err, Some, IsSome, inl, inr}
use Rattle.std.specs.Prelude.{IfOk, OnErr}
use Rattle.bx_io.specs.Holdings.{Change, Holdings, IsAlone, Keeps, Makes, MakesPrefix, StoreTold, held_in}
use Rattle.bx_io.proofs.Changes.{keeps_makes, keeps_on, makes_none}
use Rattle.cache_care.specs.Counts.{CountsMade}
use Rattle.cache_care.specs.Planning.{OnlyDrops}
use Rattle.cache_care.specs.Repairing.{DoesRepair, DoesRepairInPart}
use Rattle.cache_care.specs.Trimming.{DoesTrim, OnlyTrims, trims}
use Rattle.cache_care_check.specs.declared.fault.CareFault.{CareFault}
use Rattle.cache_care.specs.declared.planning.CareCount.{CareCount}
use Rattle.cache_care.proofs.CareDone.{told_between}
use Rattle.cache_care.proofs.Plans.{none_prefix}
use Rattle.bx_engine.specs.Care.{ChangesAlone}

-- ## As calls answer

if_ok : {X E : Type 0} (r : Result X E) (P Q : X → Type 0) → ((x : X) → P x → Q x) → IfOk r P → IfOk r Q
if_ok (Ok x) P Q from p = from x p
if_ok (Err e) P Q from p = tt

on_err_as : {X E : Type 0} (r : Result X E) (P Q : Type 0) → (P → Q) → OnErr r P → OnErr r Q
on_err_as (Ok x) P Q from p = tt
on_err_as (Err e) P Q from p = from p

pub on_err : {X E : Type 0} (r : Result X E) (P : Type 0) → P → OnErr r P
on_err (Ok x) P p = tt
on_err (Err e) P p = p

-- ## Where it is refused

-- nothing is changed
pub unchanged_since : (before now : StoreTold) → Keeps before now → ChangesAlone before now
unchanged_since before now keeps = inr keeps.changes

pub no_drops : (before now : StoreTold) → Keeps before now → OnlyDrops before now
no_drops before now keeps = record { made = []; drops = tt; makes = makes_none before now keeps }

pub no_trims : (before now : StoreTold) → Keeps before now → OnlyTrims before now
no_trims before now keeps = record { made = []; trims = tt; makes = makes_none before now keeps }

pub nothing_trimmed : (S : Holdings) (before now : StoreTold) (keep : ℕ) → Keeps before now → MakesPrefix before now (trims S keep)
nothing_trimmed S before now keep keeps = none_prefix before now (trims S keep) keeps

-- ## Where it is granted

-- a store that was granted to work alone goes on to
pub alone_since : (before between now : StoreTold) (made : List Change) → IsAlone between → Makes between made now → ChangesAlone before now
alone_since before between now made alone makes = inl (makes.alone alone)

pub counted_since : (r : Result CareCount CareFault) (before between now : StoreTold) → Keeps before between → IfOk r (CountsMade between now) → IfOk r (CountsMade before now)
counted_since r before between now keeps counts =
    if_ok r (CountsMade between now) (CountsMade before now)
    (λ count c. record { made = c.made; makes = keeps_makes before between now c.made keeps c.makes; dropped = c.dropped }) counts

-- ## A repair

pub drops_since : (before between now : StoreTold) → Keeps before between → OnlyDrops between now → OnlyDrops before now
drops_since before between now keeps only = record { made = only.made; drops = only.drops; makes = keeps_makes before between now only.made keeps only.makes }

one_repair : (S : Holdings) (before between now : StoreTold) (count : CareCount) → Keeps before between → DoesRepair S between now count → DoesRepair S before now count
one_repair S before between now count keeps does = record {
  changes = does.changes;
  are = does.are;
  makes = keeps_makes before between now does.changes keeps does.makes;
  counted = does.counted;
}

prefix_since : (before between now : StoreTold) (planned : List Change) → Keeps before between → MakesPrefix between now planned → MakesPrefix before now planned
prefix_since before between now planned keeps p = record { made = p.made; first = p.first; makes = keeps_makes before between now p.made keeps p.makes }

in_part_since : (S : Holdings) (before between now : StoreTold) → Keeps before between → DoesRepairInPart S between now → DoesRepairInPart S before now
in_part_since S before between now keeps (inl kept) = inl (keeps_on before between now keeps kept)
in_part_since S before between now keeps (inr does) = inr (does.0, does.1, prefix_since before between now does.0 keeps does.2)

pub repairs_since : (S : Holdings) (r : Result CareCount CareFault) (before between now : StoreTold) → Keeps before between → OnlyDrops between now → held_in before ≡ Some S
    → IsSome (held_in now) → (held_in between ≡ Some S → IsSome (held_in now) → IfOk r (DoesRepair S between now)) → IfOk r (DoesRepair S before now)
repairs_since S r before between now keeps only was tells does =
    if_ok r (DoesRepair S between now) (DoesRepair S before now) (λ count d. one_repair S before between now count keeps d)
    (does (told_between before between now only.made S keeps only.makes was tells) tells)

pub repairs_in_part_since : (S : Holdings) (r : Result CareCount CareFault) (before between now : StoreTold) → Keeps before between → OnlyDrops between now
    → held_in before ≡ Some S → IsSome (held_in now) → (held_in between ≡ Some S → IsSome (held_in now) → OnErr r (DoesRepairInPart S between now))
    → OnErr r (DoesRepairInPart S before now)
repairs_in_part_since S r before between now keeps only was tells does =
    on_err_as r (DoesRepairInPart S between now) (DoesRepairInPart S before now) (in_part_since S before between now keeps)
    (does (told_between before between now only.made S keeps only.makes was tells) tells)

-- ## A trim

pub only_trims_since : (before between now : StoreTold) → Keeps before between → OnlyTrims between now → OnlyTrims before now
only_trims_since before between now keeps only = record { made = only.made; trims = only.trims; makes = keeps_makes before between now only.made keeps only.makes }

one_trim : (S : Holdings) (keep : ℕ) (before between now : StoreTold) (count : CareCount) → Keeps before between → DoesTrim S keep between now count → DoesTrim S keep before now count
one_trim S keep before between now count keeps does = record { makes = keeps_makes before between now (trims S keep) keeps does.makes; counted = does.counted }

pub trims_since : (S : Holdings) (keep : ℕ) (r : Result CareCount CareFault) (before between now : StoreTold) → Keeps before between → OnlyTrims between now
    → held_in before ≡ Some S → IsSome (held_in now) → (held_in between ≡ Some S → IsSome (held_in now) → IfOk r (DoesTrim S keep between now))
    → IfOk r (DoesTrim S keep before now)
trims_since S keep r before between now keeps only was tells does =
    if_ok r (DoesTrim S keep between now) (DoesTrim S keep before now) (λ count d. one_trim S keep before between now count keeps d)
    (does (told_between before between now only.made S keeps only.makes was tells) tells)

pub trims_in_part_since : (S : Holdings) (keep : ℕ) (r : Result CareCount CareFault) (before between now : StoreTold) → Keeps before between → OnlyTrims between now
    → held_in before ≡ Some S → IsSome (held_in now) → (held_in between ≡ Some S → IsSome (held_in now) → OnErr r (MakesPrefix between now (trims S keep)))
    → OnErr r (MakesPrefix before now (trims S keep))
trims_in_part_since S keep r before between now keeps only was tells does =
    on_err_as r (MakesPrefix between now (trims S keep)) (MakesPrefix before now (trims S keep)) (prefix_since before between now (trims S keep) keeps)
    (does (told_between before between now only.made S keeps only.makes was tells) tells)
