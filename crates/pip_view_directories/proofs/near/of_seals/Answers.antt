use Rattle.std.proofs.Common.{[], subst, sym}
use Rattle.pip_view_directories.specs.Near.{AreOfSeals}
use Rattle.pip_view_directories.proofs.OfSeals.{seals_all, seals_more, seals_none}
use Rattle.pip_view_directories.proofs.near.of_seals.Goals as goal

pub seals-init : goal.seals-init
seals-init c =
    subst (AreOfSeals c.args.pips.now c.args.dirs.now []) (sym c.new-found.ensures.items) (seals_none c.args.pips.now c.args.dirs.now)

pub seals-preserved : goal.seals-preserved
seals-preserved c =
    seals_more c.args.pips.now c.args.dirs.now c.args.seals.now c.seals.seal-index c.seals.found.items c.add_dir.new.found.items
    c.seals-test.true c.in_ok-add_dir.ensures c.seals.invariant

pub returns : goal.returns
returns c = seals_all c.args.pips.now c.args.dirs.now c.args.seals.now c.seals.seal-index c.seals.found.items c.seals-test.false c.seals.invariant
