-- What a reader of stored forms answers.
use Rattle.std.specs.Prelude.{◌≡◌, Option, Some, None, List, Result, Ok, Err}
use Rattle.std.proofs.Common.{Vec, Global}
use Rattle.memo_format.specs.declared.fault.FormatFault.{FormatFault}
use Rattle.memo_format.specs.declared.fault.FormatFault.TheVariants as faults

-- A function of the program gives what the function on lists gives, unless memory runs out.
abbrev pub ReadsForm : {X : Type 0} → Result X FormatFault → Option X → Type 0
ReadsForm (Ok x) read = read ≡ Some x
ReadsForm (Err faults.BadForm) read = read ≡ None
ReadsForm (Err faults.Memory) read = Unit {0}

-- the items of a vector are what the function on lists gives, unless memory runs out
abbrev pub ReadsItems : {X : Type 0} → Result (Vec X Global) FormatFault → Option (List X) → Type 0
ReadsItems (Ok xs) read = read ≡ Some xs.items
ReadsItems (Err faults.BadForm) read = read ≡ None
ReadsItems (Err faults.Memory) read = Unit {0}
