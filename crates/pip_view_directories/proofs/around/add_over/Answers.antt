use Rattle.pip_view_directories.proofs.AtPaths.{over_all, over_more, over_none}
use Rattle.pip_view_directories.proofs.around.add_over.Goals as goal

pub places-init : goal.places-init
places-init c = over_none c.args.text.now c.args.dirs.now c.args.found.now.items

pub places-preserved : goal.places-preserved
places-preserved c =
    over_more c.args.text.now c.places.place c.args.dirs.now c.args.found.now.items c.places.found.items c.add_part.new.found.items
    c.places.invariant (c.in_ok-add_part.ensures c.if-not-branch.false)

pub returns : goal.returns
returns c = λ e.
    over_all c.args.text.now c.places.place c.args.dirs.now c.args.found.now.items c.places.found.items c.places-test.false c.places.invariant
