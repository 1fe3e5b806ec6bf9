use Rattle.pip_view_directories.specs.Ranges.{AddsAll}
use Rattle.pip_view_directories.proofs.AtPaths.{IsFirst}
use Rattle.pip_view_directories.proofs.around.add_over.Given as goal

abbrev pub invariant-places : goal.invariant-places
invariant-places l = AddsAll l.dirs (IsFirst l.text l.place) l.initial.found.items l.found.items
