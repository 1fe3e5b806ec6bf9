use Rattle.std.proofs.Common.{◌≡◌, drop}
use Rattle.tool_run_writes.specs.Writes.{has_below}
use Rattle.pip_view.specs.Gathered.{dirs_now, members_of}
use Rattle.pip_view.proofs.members.has_member.Given as goal

abbrev pub invariant-dirs : goal.invariant-dirs
invariant-dirs l =
    has_below (members_of l.inputs (dirs_now (drop l.dir-index l.dirs))) l.path ≡ has_below (members_of l.inputs (dirs_now l.dirs)) l.path
