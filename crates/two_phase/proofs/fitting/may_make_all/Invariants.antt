use Rattle.std.proofs.Common.{◌≡◌, drop}
use Rattle.std.specs.List.{list_all}
use Rattle.memo_format.specs.Entries.{output_paths}
use Rattle.two_phase_meaning.specs.Usable.{may_make}
use Rattle.two_phase.proofs.fitting.may_make_all.Given as goal

abbrev pub invariant-outputs : goal.invariant-outputs
invariant-outputs l =
    list_all (may_make l.process) (output_paths (drop l.output-index l.outputs)) ≡ list_all (may_make l.process) (output_paths l.outputs)
