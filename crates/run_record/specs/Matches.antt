-- What the comparison of a record with a process and a view comes to.
use Rattle.std.specs.Prelude.{◌≡◌, ◌≢◌, ℕ, List, Some, map, slice_get, take}
use Rattle.pip_model_types.specs.declared.desc.Desc.{Desc}
use Rattle.observed.specs.declared.ask.Ask.{Ask}
use Rattle.observed.specs.declared.access.Answer.{Answer}
use Rattle.tool_run.specs.Description.{Description}
use Rattle.tool_run.specs.Run.{path_set, run_of}
use Rattle.run_record.specs.Facts.{Facts}
use Rattle.run_record.specs.Outcomes.{outcome_of}
use Rattle.run_record.specs.declared.matching.Match.{Match}
use Rattle.run_record.specs.declared.matching.Match.TheVariants as matches
use Rattle.run_record.specs.Digests.{digest_asked, digest_of_line, weak_of}

-- The lists first differ at this place, where they have these items.
pub record FirstDiffer (xs ys : List (List ℕ)) (place : ℕ) (x y : List ℕ) : Type 0 where
  pub before : take place xs ≡ take place ys
  pub left : slice_get xs place ≡ Some x
  pub right : slice_get ys place ≡ Some y
  pub other : x ≢ y

-- the digests of the lines of a record's answers
abbrev pub held_lines : Facts → List (List ℕ)
held_lines f = map digest_of_line f.answers

-- the digests of the lines of what the asks of a record's path set are answered now
abbrev pub lines_now : Facts → (Ask → Answer) → List (List ℕ)
lines_now f see = map (digest_asked see) f.paths

-- the weak text of the record's process has the digest of the weak text of this process
abbrev pub IsSameDesc : Desc → Facts → Type 0
IsSameDesc d f = weak_of f.desc ≡ weak_of d

-- The answer says of a process, of what a record holds and of what asks are answered now: that all digests
-- agree; that those of the weak texts differ; or that these agree, and at which ask a line first has another
-- digest. Want of memory says nothing.
abbrev pub Compares : Desc → Facts → (Ask → Answer) → Match → Type 0
Compares d f see matches.Same = IsSameDesc d f × (held_lines f ≡ lines_now f see)
Compares d f see (matches.OtherDesc held now) =
    (held ≡ weak_of f.desc) × (now ≡ weak_of d) × (held ≢ now)
Compares d f see (matches.Differs index held now) =
    IsSameDesc d f × FirstDiffer (held_lines f) (lines_now f see) index held now
Compares d f see matches.Memory = Unit {0}

-- The run of a process, where asks are answered so, has the accesses, the path set and the outcome of the
-- record.
pub record Repeats (f : Facts) (d : Description) (a : Ask → Answer) : Type 0 where
  pub accesses : (run_of d a).accesses ≡ f.accesses
  pub paths : path_set d (run_of d a).accesses ≡ f.paths
  pub outcome : outcome_of d (run_of d a) ≡ f.outcome
