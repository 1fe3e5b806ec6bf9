use Rattle.std.proofs.Common.{◌≡◌, drop}
use Rattle.bx_tree.specs.Trees.{file_at}
use Rattle.pip_view.specs.Gathered.{dirs_now, members_of}
use Rattle.pip_view.proofs.members.find_member.Given as goal

abbrev pub invariant-dirs : goal.invariant-dirs
invariant-dirs l =
    file_at (members_of l.inputs (dirs_now (drop l.dir-index l.dirs))) l.path ≡ file_at (members_of l.inputs (dirs_now l.dirs)) l.path
