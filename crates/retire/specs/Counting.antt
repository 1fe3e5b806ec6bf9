-- What is counted of the ways in which pips come to their results.
use Rattle.std.specs.Prelude.{ℕ, ◌+◌, Bool, true, false}
use Rattle.retire.specs.declared.taking.Way.{Way}
use Rattle.retire.specs.declared.taking.Way.TheVariants as ways

abbrev pub is_accepted : Way → Bool
is_accepted ways.Plain = false
is_accepted ways.Accepted = true
is_accepted ways.Hit = false
is_accepted ways.Ran = false
is_accepted ways.Faulted = false

abbrev pub one_accepted : Way → ℕ
one_accepted ways.Plain = 0
one_accepted ways.Accepted = 1
one_accepted ways.Hit = 0
one_accepted ways.Ran = 0
one_accepted ways.Faulted = 0

abbrev pub one_hit : Way → ℕ
one_hit ways.Plain = 0
one_hit ways.Accepted = 0
one_hit ways.Hit = 1
one_hit ways.Ran = 0
one_hit ways.Faulted = 0

abbrev pub one_miss : Way → ℕ
one_miss ways.Plain = 0
one_miss ways.Accepted = 0
one_miss ways.Hit = 0
one_miss ways.Ran = 1
one_miss ways.Faulted = 0

abbrev pub one_fault : Way → ℕ
one_fault ways.Plain = 0
one_fault ways.Accepted = 0
one_fault ways.Hit = 0
one_fault ways.Ran = 0
one_fault ways.Faulted = 1
