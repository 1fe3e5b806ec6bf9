-- Which declarations were seen in a pass, and what is known of those.
use Rattle.std.specs.Prelude.{◌≡◌, ℕ, ◌+◌, ◌-◌, ◌*◌, ◌<◌, ◌≤◌, ◌⊎◌, Bool, false, true, not, List, [], ◌∷◌, Option, None, Some, count_by, if◌then◌else◌, length, slice_get, sum_by, unwrap_or}
use Rattle.std.specs.declared.alloc.Global.{Global}
use Rattle.std.specs.declared.vec.Vec.{Vec}
use Rattle.dscript_program.specs.ProgramData.{ProgramData}
use Rattle.dscript_types.specs.Passes.{AreStuck}
use Rattle.dscript_types.specs.declared.finding.Waiting.{Waiting}
use Rattle.dscript_types.specs.declared.visits.Visits.{Visits}
use Rattle.dscript_types_known.specs.Tables.{IsRight, TableData, open_count}
use Rattle.dscript_types_known.specs.declared.finding.Pending.{Pending}

-- ## Flags

abbrev pub flag_at : List Bool → ℕ → Bool
flag_at flags decl = unwrap_or (slice_get flags decl) false

abbrev pub unseen_in : List Bool → ℕ
unseen_in flags = count_by not flags

abbrev pub flags_in : Option (Vec Bool Global) → List Bool
flags_in None = []
flags_in (Some v) = v.items

abbrev pub of_file : List (Vec Bool Global) → ℕ → List Bool
of_file files file = flags_in (slice_get files file)

abbrev pub has_seen : Visits → ℕ → ℕ → Bool
has_seen visits file decl = flag_at (of_file visits.files.items file) decl

-- how many declarations a file has
abbrev pub count_of : Visits → ℕ → ℕ
count_of visits file = length (of_file visits.files.items file)

-- how many were not seen
abbrev pub unseen : Visits → ℕ
unseen visits = sum_by (λ (v : Vec Bool Global). unseen_in v.items) visits.files.items

-- ## Changes

-- One of a file is seen, if it is there. The result is whether it was not seen before.
pub record SeesIn (old new : List Bool) (decl : ℕ) (result : Bool) : Type 0 where
  pub seen : (j : ℕ) → flag_at old j ≡ true → flag_at new j ≡ true
  pub only : (j : ℕ) → flag_at new j ≡ true → (flag_at old j ≡ true) ⊎ ((result ≡ true) × (j ≡ decl))
  pub own : decl < length old → flag_at new decl ≡ true
  pub size : length new ≡ length old
  pub fewer : unseen_in old ≡ unseen_in new + (if result then 1 else 0)

pub record Sees (old new : Visits) (file decl : ℕ) (result : Bool) : Type 0 where
  pub seen : (i j : ℕ) → has_seen old i j ≡ true → has_seen new i j ≡ true
  pub only : (i j : ℕ) → has_seen new i j ≡ true
      → (has_seen old i j ≡ true) ⊎ ((result ≡ true) × (i ≡ file) × (j ≡ decl))
  pub own : decl < count_of old file → has_seen new file decl ≡ true
  pub size : (i : ℕ) → count_of new i ≡ count_of old i
  pub fewer : unseen old ≡ unseen new + (if result then 1 else 0)

-- ## Those that wait

-- how often one may still be looked at
abbrev pub looks_left : Waiting → ℕ
looks_left w = (16 - w.looks) + 1

-- so often all of them may still be looked at, with those that were not seen, each again and again
abbrev pub looks_in : List Waiting → Visits → ℕ
looks_in waiting visits = unseen visits * 18 + sum_by looks_left waiting

abbrev pub IsWaiting : List Waiting → ℕ → ℕ → Type 0
IsWaiting [] file decl = ⊥
IsWaiting (w ∷ waiting) file decl = ((w.at.file ≡ file) × (w.at.decl ≡ decl)) ⊎ IsWaiting waiting file decl

-- More wait, and among these are all that are newly seen. One that was looked at so often before was taken from them.
pub record WaitsFor (old new : List Waiting) (before now : Visits) (looks : ℕ) : Type 0 where
  pub kept : (file decl : ℕ) → IsWaiting old file decl → IsWaiting new file decl
  pub seen : (file decl : ℕ) → has_seen before file decl ≡ true → has_seen now file decl ≡ true
  pub only : (file decl : ℕ) → has_seen now file decl ≡ true → (has_seen before file decl ≡ true) ⊎ IsWaiting new file decl
  pub size : (file : ℕ) → count_of now file ≡ count_of before file
  pub fewer : looks_in new now ≤ looks_in old before + (16 - looks)

-- ## What is known

-- A table is filled further, rightly, and more declarations are seen. Where nothing more was found, all that were seen in
-- between are stuck.
pub record Looks (p : ProgramData) (old new : TableData) (before now : Visits) : Type 0 where
  pub right : IsRight p new
  pub fewer : open_count new ≤ open_count old
  pub seen : (file decl : ℕ) → has_seen before file decl ≡ true → has_seen now file decl ≡ true
  pub size : (file : ℕ) → count_of now file ≡ count_of before file
  pub stuck : open_count new ≡ open_count old
      → (new ≡ old) × AreStuck p new (λ file decl. (has_seen now file decl ≡ true) × (has_seen before file decl ≡ false))

-- likewise, with one that was seen already
pub record LooksAt (p : ProgramData) (old new : TableData) (before now : Visits) (at : Pending) : Type 0 where
  pub looks : Looks p old new before now
  pub own : open_count new ≡ open_count old → AreStuck p new (λ file decl. (file ≡ at.file) × (decl ≡ at.decl))
