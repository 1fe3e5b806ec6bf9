use Rattle.std.proofs.Common.{◌++◌}
use Rattle.pip_view_directories.proofs.Between.{adds_range}
use Rattle.pip_view_directories.proofs.ranges.add_between.Goals as goal

pub returns : goal.returns
returns c = λ e.
    let text = c.args.text.now in
    adds_range (text ++ c.args.low.now) (text ++ c.args.high.now) c.args.dirs.now c.between-range.result.now c.args.found.now.items
    c.add_all.new.found.items c.between-range.ensures.only c.between-range.ensures.all c.in_ok-add_all.ensures
