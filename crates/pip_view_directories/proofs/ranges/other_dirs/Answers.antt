use Rattle.pip_view_directories.proofs.AtPaths.{others_are}
use Rattle.pip_view_directories.proofs.ranges.other_dirs.Goals as goal

pub returns : goal.returns
returns c = others_are c.args.dirs.now c.in_ok-all_others.field-0.items c.of.result c.in_ok-all_others.ensures c.of.ensures
