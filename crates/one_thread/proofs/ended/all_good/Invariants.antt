use Rattle.std.proofs.Common.{◌≡◌, drop}
use Rattle.std.specs.Prelude.{slice_get}
use Rattle.std.specs.List.{list_all}
use Rattle.one_thread.specs.Views.{good_in}
use Rattle.one_thread.proofs.ended.all_good.Given as goal

abbrev pub invariant-inputs : goal.invariant-inputs
invariant-inputs l =
    list_all (λ j. good_in (slice_get l.slots j)) (drop l.input-index l.inputs) ≡ list_all (λ j. good_in (slice_get l.slots j)) l.inputs
