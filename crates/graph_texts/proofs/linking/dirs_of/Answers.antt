use Rattle.std.proofs.Common.{Some, ap, sym, ◌∙◌}
use Rattle.graph_texts.proofs.Linked.{one_named, one_unnamed}
use Rattle.graph_texts.proofs.linking.dirs_of.Goals as goal

pub returns-in-None : goal.returns-in-None
returns-in-None c =
    one_unnamed c.args.pips.now c.args.named.now c.named.dir-index c.dir-item.result c.named-test.true c.dir-item.is
    (sym c.in_ok-dir.ensures ∙ c.in-None.is)

pub named-preserved : goal.named-preserved
named-preserved c =
    one_named c.args.pips.now c.args.named.now c.named.dir-index c.dir-item.result c.named.dirs.items c.in-Some.dir c.named-test.true c.dir-item.is
    c.named.invariant (sym c.in_ok-dir.ensures ∙ c.in-Some.is)
    ∙ ap Some (sym c.in_ok-push-in-Some.ensures.items)
