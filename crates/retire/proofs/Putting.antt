-- Saves, one after another.
use Rattle.std.proofs.Common.{◌≡◌, ℕ, zero, suc, ◌+◌, ◌<◌, ◌≤◌, Bool, true, false, not, cond, List, [], ◌∷◌, ◌++◌, get_or, length, take, Option, Some, refl, sym, ap, ◌∙◌, subst, inr, arith, append-nil}
use Rattle.std.specs.Prelude.{IsSome, count_by}
use Rattle.std.specs.List.{AllByRecursion}
use Rattle.std.proofs.lemmas.List.{take_more, take_all}
use Rattle.std.proofs.lemmas.List.Sums.{sum_by_push}
use Rattle.bx_io.specs.Holdings.{Holdings, Keeps, StoreTold, held_in}
use Rattle.bx_io.proofs.Changes.{keeps_all, keeps_on, rose_by_one}
use Rattle.run_record.specs.Facts.{Facts}
use Rattle.two_phase.specs.Calls.{KeeperCall}
use Rattle.two_phase.specs.Putting.{PutsAll, PutsUpTo, planned}
use Rattle.two_phase.proofs.Applied.{told_before}
use Rattle.two_phase.proofs.Prefixes.{keeps_puts, keeps_puts_all, some_of}
use Rattle.retire.specs.Saving.{PutsAllBut, PutsByMarks, PutsEach, PutsFirst, PutsIf, SavesAtMost}

each_more : (fs : List Facts) (f : Facts) (before between now : StoreTold) → PutsEach before fs between → PutsUpTo between now f → PutsEach before (fs ++ f ∷ []) now
each_more [] f before between now keeps put = (now, keeps_puts before between now f keeps put, keeps_all now)
each_more (g ∷ gs) f before between now each put = (each.0, each.1, each_more gs f each.0 between now each.2 put)

-- a call that changed nothing comes before the puts of a record
keeps_if : (whole : Bool) (before between now : StoreTold) (f : Facts) → Keeps before between → PutsIf whole between now f → PutsIf whole before now f
keeps_if true before between now f keeps put = keeps_puts_all before between now f keeps put
keeps_if false before between now f keeps put = keeps_puts before between now f keeps put

marks_more : (fs : List Facts) (marks : List Bool) (f : Facts) (whole : Bool) (before between now : StoreTold) → PutsByMarks before fs between marks
    → PutsIf whole between now f → PutsByMarks before (fs ++ f ∷ []) now (marks ++ whole ∷ [])
marks_more [] [] f whole before between now keeps put = (now, keeps_if whole before between now f keeps put, keeps_all now)
marks_more [] (m ∷ ms) f whole before between now each put = absurd each
marks_more (g ∷ gs) [] f whole before between now each put = absurd each
marks_more (g ∷ gs) (m ∷ ms) f whole before between now each put = (each.0, each.1, marks_more gs ms f whole each.0 between now each.2 put)

-- one record more, of which the save failed or did not
but_more : (fs : List Facts) (f : Facts) (before between now : StoreTold) (faults failed : ℕ) → PutsAllBut before fs between faults
    → (failed ≡ 0 → PutsAll between now f) → PutsUpTo between now f → PutsAllBut before (fs ++ f ∷ []) now (faults + failed)
but_more fs f before between now faults zero but all up_to = record {
  marks = but.marks ++ true ∷ [];
  few =
      let more : count_by not (but.marks ++ true ∷ []) ≡ count_by not but.marks + 0 = sum_by_push (λ b. cond (not b) 1 0) but.marks true in
      let most = but.few in
      omega (arith, more, most);
  each = marks_more fs but.marks f true before between now but.each (all refl);
}
but_more fs f before between now faults (suc k) but all up_to = record {
  marks = but.marks ++ false ∷ [];
  few =
      let more : count_by not (but.marks ++ false ∷ []) ≡ count_by not but.marks + 1 = sum_by_push (λ b. cond (not b) 1 0) but.marks false in
      let most = but.few in
      omega (arith, more, most);
  each = marks_more fs but.marks f false before between now but.each up_to;
}

next_taken : (fs : List Facts) (i : ℕ) (f : Facts) → i < length fs → f ≡ get_or fs i f → take i fs ++ f ∷ [] ≡ take (i + 1) fs
next_taken fs i f l is = sym (take_more fs i f l ∙ ap (λ g. take i fs ++ g ∷ []) (sym is))

-- one record more
pub each_next : (fs : List Facts) (i : ℕ) (f : Facts) (before between now : StoreTold) → i < length fs → f ≡ get_or fs i f → PutsEach before (take i fs) between
    → PutsUpTo between now f → PutsEach before (take (i + 1) fs) now
each_next fs i f before between now l is each put =
    subst (λ (gs : List Facts). PutsEach before gs now) (next_taken fs i f l is) (each_more (take i fs) f before between now each put)

pub but_next : (fs : List Facts) (i : ℕ) (f : Facts) (before between now : StoreTold) (faults failed : ℕ) → i < length fs → f ≡ get_or fs i f
    → PutsAllBut before (take i fs) between faults → (failed ≡ 0 → PutsAll between now f) → PutsUpTo between now f
    → PutsAllBut before (take (i + 1) fs) now (faults + failed)
but_next fs i f before between now faults failed l is but all up_to =
    subst (λ (gs : List Facts). PutsAllBut before gs now (faults + failed)) (next_taken fs i f l is)
    (but_more (take i fs) f before between now faults failed but all up_to)

pub none_saved : (before : StoreTold) (fs : List Facts) → PutsAllBut before (take 0 fs) before 0
none_saved before fs = record { marks = []; few = omega arith; each = keeps_all before }

pub but_at_end : (fs : List Facts) (i : ℕ) (before now : StoreTold) (faults : ℕ) → length fs ≤ i → PutsAllBut before (take i fs) now faults
    → PutsAllBut before fs now faults
but_at_end fs i before now faults l but = subst (λ (gs : List Facts). PutsAllBut before gs now faults) (take_all i fs l) but

pub first_of : (fs : List Facts) (i : ℕ) (before now : StoreTold) → PutsEach before (take i fs) now → PutsFirst before fs now
first_of fs i before now each = record { number = i; each = each }

-- a call that changed nothing comes before the puts of all records
pub keeps_each : (fs : List Facts) (before between now : StoreTold) → Keeps before between → PutsEach between fs now → PutsEach before fs now
keeps_each [] before between now keeps each = keeps_on before between now keeps each
keeps_each (f ∷ fs) before between now keeps each = (each.0, keeps_puts before between each.0 f keeps each.1, each.2)

keeps_marks : (fs : List Facts) (marks : List Bool) (before between now : StoreTold) → Keeps before between → PutsByMarks between fs now marks
    → PutsByMarks before fs now marks
keeps_marks [] [] before between now keeps each = keeps_on before between now keeps each
keeps_marks [] (m ∷ ms) before between now keeps each = absurd each
keeps_marks (f ∷ fs) [] before between now keeps each = absurd each
keeps_marks (f ∷ fs) (m ∷ ms) before between now keeps each = (each.0, keeps_if m before between each.0 f keeps each.1, each.2)

pub keeps_but : (fs : List Facts) (before between now : StoreTold) (faults : ℕ) → Keeps before between → PutsAllBut between fs now faults
    → PutsAllBut before fs now faults
keeps_but fs before between now faults keeps but = record {
  marks = but.marks;
  few = but.few;
  each = keeps_marks fs but.marks before between now keeps but.each;
}

pub keeps_first : (fs : List Facts) (before between now : StoreTold) → Keeps before between → PutsFirst between fs now → PutsFirst before fs now
keeps_first fs before between now keeps puts = record { number = puts.number; each = keeps_each (take puts.number fs) before between now keeps puts.each }

-- ## What is still told was told before

pub each_told : (fs : List Facts) (before now : StoreTold) (S : Holdings) → held_in now ≡ Some S → PutsEach before fs now → (T : Holdings) × (held_in before ≡ Some T)
each_told [] before now S is each = (S, each.held S is)
each_told (f ∷ fs) before now S is each =
    let there : (T : Holdings) × (held_in each.0 ≡ Some T) = each_told fs each.0 now S is each.2 in
    told_before each.1.first before each.0 there.0 there.1 each.1.applies

-- all puts of a record are its puts up to the last place
abbrev pub up_to_end : (before now : StoreTold) (f : Facts) → PutsAll before now f → PutsUpTo before now f
up_to_end before now f p = record {
  old = p.old;
  old_is = p.old_is;
  first = planned f p.old;
  is_first = record { rest = []; joined = append-nil (planned f p.old) };
  applies = p.applies;
  spelled = inr p.spelled;
}

up_to_some : (whole : Bool) (before now : StoreTold) (f : Facts) → PutsIf whole before now f → PutsUpTo before now f
up_to_some true before now f p = up_to_end before now f p
up_to_some false before now f p = p

pub each_by_marks : (fs : List Facts) (marks : List Bool) (before now : StoreTold) → PutsByMarks before fs now marks → PutsEach before fs now
each_by_marks [] [] before now p = p
each_by_marks [] (m ∷ ms) before now p = absurd p
each_by_marks (f ∷ fs) [] before now p = absurd p
each_by_marks (f ∷ fs) (m ∷ ms) before now p = (p.0, up_to_some m before p.0 f p.1, each_by_marks fs ms p.0 now p.2)

-- where nothing may be saved nothing was changed
pub none_most : (before now : StoreTold) (most : ℕ) → SavesAtMost most before now → most ≡ 0 → Keeps before now
none_most before now most saves none = by_list saves.0 (omega (arith, saves.1, none)) saves.3
  where
    nothing : (n : ℕ) → PutsEach before (take n []) now → Keeps before now
    nothing zero p = p
    nothing (suc n) p = p

    by_list : (fs : List Facts) → length fs ≤ 0 → PutsFirst before fs now → Keeps before now
    by_list [] l puts = nothing puts.number puts.each
    by_list (f ∷ fs) l puts = absurd (omega (arith, l))

pub first_told : (before now : StoreTold) (fs : List Facts) → PutsFirst before fs now → IsSome (held_in now) → IsSome (held_in before)
first_told before now fs puts tells =
    let last = some_of (held_in now) tells in
    let there = each_told (take puts.number fs) before now last.0 last.1 puts.each in
    subst (λ (o : Option Holdings). IsSome o) (sym there.1) refl

-- ## Counts of faults

-- a save that failed is one fault
pub rose_once : (b0 b1 : Option ℕ) (f0 f1 : ℕ) (A : Type 0) → KeeperCall b0 b1 f0 f1 A → A → IsSome b0 → f0 + 1 ≤ f1
rose_once b0 b1 f0 f1 A keeps failed some =
    rose_by_one f0 f1 (keeps.cause.rose failed) (keeps.fault_can_rise failed (subst (λ (o : Option ℕ). IsSome o) (sym keeps.bound_is) some))

pub rose_more : (b b0 : Option ℕ) (f f0 f1 k n : ℕ) → b0 ≡ b → (IsSome b → f + k ≤ f0) → (IsSome b0 → f0 + n ≤ f1) → IsSome b → f + (k + n) ≤ f1
rose_more b b0 f f0 f1 k n same so_far next some =
    let one = next (subst (λ (o : Option ℕ). IsSome o) (sym same) some) in
    let before = so_far some in
    omega (arith, one, before)

-- ## What is good of all is good of each

pub good_one : (P : Facts → Type 0) (fs : List Facts) (i : ℕ) (f : Facts) → AllByRecursion P fs → i < length fs → f ≡ get_or fs i f → P f
good_one P [] i f h l is = absurd (omega (arith, l))
good_one P (g ∷ gs) zero f h l is = subst P (sym is) h.0
good_one P (g ∷ gs) (suc i) f h l is = good_one P gs i f h.1 (omega (arith, l)) is
