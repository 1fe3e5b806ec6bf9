use Rattle.bx_tree.specs.Lent.{texts_now}
use Rattle.pip_view.proofs.NamesWithin.{next_all, next_more}
use Rattle.pip_view.proofs.below.add_next.Goals as goal

pub paths-preserved : goal.paths-preserved
paths-preserved c =
    next_more c.args.dir.now c.args.paths.now c.paths.path-index c.path-item.result _ (texts_now c.paths.names.items)
    (texts_now c.add_next_name.new.names.items) c.paths-test.true c.path-item.is c.in_ok-add_next_name.ensures c.paths.invariant

pub returns : goal.returns
returns c = next_all c.args.dir.now c.args.paths.now c.paths.path-index _ (texts_now c.paths.names.items) c.paths-test.false c.paths.invariant
