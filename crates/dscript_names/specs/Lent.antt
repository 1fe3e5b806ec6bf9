-- Names that others own.
use Rattle.std.specs.Borrow.{Bor}
use Rattle.std.specs.Prelude.{ℕ, List, map}
use Rattle.dscript_program.specs.ProgramData.{Dotted}

abbrev pub names_lent : List (Bor Dotted) → List Dotted
names_lent = map (λ (name : Bor Dotted). name.now)
