use Rattle.std.proofs.Common.{◌≡◌, drop}
use Rattle.std.specs.List.{list_any}
use Rattle.dscript_sdk_execute.specs.Execute.{has_other_sharing}
use Rattle.dscript_sdk_execute.proofs.clashes.shares_exclusive.Given as goal

abbrev pub invariant-dirs : goal.invariant-dirs
invariant-dirs l =
    list_any (has_other_sharing l.dirs) (drop l.dir-index l.all) ≡ list_any (has_other_sharing l.dirs) l.dirs
