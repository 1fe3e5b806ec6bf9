-- Calls that fail as planned: there are no more faults than calls that were asked to fail.
use Rattle.std.proofs.Common.{◌≡◌, ℕ, zero, suc, ◌+◌, ◌<◌, ◌≤◌, inl, inr, cond, List, [], ◌∷◌, length, arith, slice_index_or}
use Rattle.std.specs.Prelude.{count_by, nat_le}
use Rattle.std.proofs.lemmas.Bool.{cases_lt}
use Rattle.std.proofs.lemmas.Bool.Decides.{leb_tells}
use Rattle.std.proofs.lemmas.List.Sums.{count_by-le-length, sum_by-cons}
use Rattle.bx_io.specs.Causes.{counted, last_count}
use Rattle.bx_io.specs.Numbered.{Script, IsFaultDue, IsPlanned, after_fault, after_work}

-- how many of the numbers are at most n
abbrev passed : ℕ → List ℕ → ℕ
passed n numbers = count_by (λ number. nat_le number n) numbers

passed-cons : (n x : ℕ) (xs : List ℕ) → passed n (x ∷ xs) ≡ cond (nat_le x n) 1 0 + passed n xs
passed-cons n x xs = sum_by-cons (λ number. cond (nat_le number n) 1 0) x xs

-- a number that is at most n is at most n + 1
at_most_more : (n x : ℕ) → cond (nat_le x n) 1 0 ≤ cond (nat_le x (n + 1)) 1 0
at_most_more n x =
    let below = leb_tells x n in
    let next = leb_tells x (n + 1) in
    grind (arith, below, next)

passed_more : (n : ℕ) (numbers : List ℕ) → passed n numbers ≤ passed (n + 1) numbers
passed_more n [] = omega arith
passed_more n (x ∷ xs) =
    let rest = passed_more n xs in
    let first = at_most_more n x in
    rw (passed-cons n x xs, passed-cons (n + 1) x xs) (omega (arith, first, rest))

-- the number n + 1 is at most n + 1, and not at most n
at_most_itself : (n : ℕ) → cond (nat_le (n + 1) n) 1 0 + 1 ≤ cond (nat_le (n + 1) (n + 1)) 1 0
at_most_itself n =
    let below = leb_tells (n + 1) n in
    let next = leb_tells (n + 1) (n + 1) in
    grind (arith, below, next)

passed_one_more : (n : ℕ) (numbers : List ℕ) (k : ℕ) → k < length numbers → slice_index_or numbers k (n + 1) ≡ n + 1 → passed n numbers + 1 ≤ passed (n + 1) numbers
passed_one_more n [] k within is = absurd (omega arith)
passed_one_more n (x ∷ xs) zero within is =
    let rest = passed_more n xs in
    let first : cond (nat_le x n) 1 0 + 1 ≤ cond (nat_le x (n + 1)) 1 0 = rw is (at_most_itself n) in
    rw (passed-cons n x xs, passed-cons (n + 1) x xs) (omega (arith, first, rest))
passed_one_more n (x ∷ xs) (suc k) within is =
    let rest = passed_one_more n xs k (omega arith) is in
    let first = at_most_more n x in
    rw (passed-cons n x xs, passed-cons (n + 1) x xs) (omega (arith, first, rest))

passed_counted : (n : ℕ) (numbers : List ℕ) → n ≤ last_count → passed n numbers ≤ passed (counted n) numbers
passed_counted n numbers fits =
    elim (cases_lt n last_count) as (λ _. passed n numbers ≤ passed (counted n) numbers) [
      | inl below ↦ let next : counted n ≡ n + 1 = omega (arith, below) in rw next (passed_more n numbers)
      | inr last ↦ let same : counted n ≡ n = omega (arith, last, fits) in rw same (omega arith)
    ]

pub planned_work : (script : Script) → IsPlanned script → IsPlanned (after_work script)
planned_work script planned =
    let more = passed_counted script.calls script.failing planned.number in
    let so_far = planned.passed in
    record { passed = omega (arith, more, so_far); few = planned.few; number = omega arith }

pub planned_fault : (script : Script) → IsPlanned script → IsFaultDue script → IsPlanned (after_fault script)
planned_fault script planned due =
    let below = due.0 in
    let next : counted script.calls ≡ script.calls + 1 = omega (arith, below) in
    let one_more = passed_one_more script.calls script.failing due.1.0 due.1.1 due.1.2 in
    let so_far = planned.passed in
    let passes : counted script.faults ≤ passed (script.calls + 1) script.failing = omega (arith, one_more, so_far) in
    let most : counted script.faults ≤ passed (counted script.calls) script.failing = rw next passes in
    record { passed = most; few = planned.few; number = omega arith }

-- the count stays within what was asked for
pub planned_within : (script : Script) → IsPlanned script → script.faults ≤ length script.failing
planned_within script planned =
    let most = count_by-le-length (λ number. nat_le number script.calls) script.failing in
    omega (arith, planned.passed, most)
