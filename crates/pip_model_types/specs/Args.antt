-- Environments.
use Rattle.std.specs.Prelude.{List}
use Rattle.std.specs.List.Sorted.{IsSortedBy}
use Rattle.std.specs.Cmp.Lexicographic.{slice_cmp}
use Rattle.std.specs.Ordering.{nat_cmp, is_lt}
use Rattle.pip_model_types.specs.declared.args.EnvPair.{EnvPair}

-- no variable has a name below that of an earlier one
abbrev pub IsSortedByName : List EnvPair → Type 0
IsSortedByName = IsSortedBy (λ a b. is_lt (slice_cmp nat_cmp a.name b.name))
