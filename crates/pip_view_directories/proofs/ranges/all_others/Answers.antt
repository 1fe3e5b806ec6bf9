use Rattle.std.proofs.Common.{filter, ap, ◌∙◌}
use Rattle.std.proofs.lemmas.List.{take_all}
use Rattle.pip_view_directories.specs.Ranges.{is_other}
use Rattle.pip_view_directories.proofs.AtPaths.{others_more}
use Rattle.pip_view_directories.proofs.ranges.all_others.Goals as goal

pub dirs-preserved : goal.dirs-preserved
dirs-preserved c =
    others_more c.args.dirs.now c.dirs.dir-index c.dir-item.result c.dirs.others.items c.add_other.new.others.items c.dirs-test.true
    c.dir-item.is c.in_ok-add_other.ensures c.dirs.invariant

pub returns : goal.returns
returns c = c.dirs.invariant ∙ ap (filter is_other) (take_all c.dirs.dir-index c.args.dirs.now c.dirs-test.false)
