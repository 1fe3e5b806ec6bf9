use Rattle.std.proofs.Common.{◌≡◌, length}
use Rattle.pip_model_types.specs.Args.{IsSortedByName}
use Rattle.pip_model_types.specs.declared.args.EnvPair.{EnvPair}
use Rattle.std.specs.Prelude.{List}
use Rattle.dscript_sdk_execute.specs.ExecuteObject.{has_distinct_names}
use Rattle.dscript_sdk_execute.proofs.variables.are_distinct.Given as goal

-- what is left of the sorted list is sorted, and as distinct as the whole
pub record AsDistinct (rest all : List EnvPair) : Type 0 where
  pub sorted : IsSortedByName rest
  pub distinct : has_distinct_names rest ≡ has_distinct_names all

abbrev pub invariant-pairs : goal.invariant-pairs
invariant-pairs l = AsDistinct l.rest l.sorted

abbrev pub decreases-pairs : goal.decreases-pairs
decreases-pairs l = length l.rest
