use Rattle.bx_tree.specs.Lent.{texts_now}
use Rattle.pip_view.proofs.NamesWithin.{within_all, within_more}
use Rattle.pip_view.proofs.below.add_each.Goals as goal

pub items-preserved : goal.items-preserved
items-preserved g c =
    within_more g.T.HasPath.path_in c.args.top.now c.args.dir.now c.args.items.now c.items.item-index c.item-item.result _ (texts_now c.items.names.items)
    (texts_now c.add_name.new.names.items) c.items-test.true c.item-item.is c.in_ok-add_name.ensures c.items.invariant

pub returns : goal.returns
returns g c =
    within_all g.T.HasPath.path_in c.args.top.now c.args.dir.now c.args.items.now c.items.item-index _ (texts_now c.items.names.items) c.items-test.false
    c.items.invariant
