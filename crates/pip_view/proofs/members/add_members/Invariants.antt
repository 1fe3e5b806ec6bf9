use Rattle.std.proofs.Common.{◌≡◌, ◌++◌, drop}
use Rattle.bx_tree.specs.Lent.{texts_now}
use Rattle.tool_run_writes.specs.Writes.{own_names}
use Rattle.pip_view.specs.Gathered.{dirs_now, members_of}
use Rattle.pip_view.proofs.members.add_members.Given as goal

abbrev pub invariant-dirs : goal.invariant-dirs
invariant-dirs l =
    texts_now l.names.items ++ own_names (members_of l.inputs (dirs_now (drop l.dir-index l.dirs))) l.path
    ≡ texts_now l.initial.names.items ++ own_names (members_of l.inputs (dirs_now l.dirs)) l.path
