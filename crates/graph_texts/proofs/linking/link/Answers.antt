use Rattle.std.proofs.Common.{List, subst}
use Rattle.std.proofs.lemmas.Result.{err_from_is_err_and}
use Rattle.std.specs.Vec.Iter.{into_iter_items}
use Rattle.graph_texts.specs.declared.rows.PipRow.{PipRow}
use Rattle.graph_texts.proofs.Linked.{LinkedSoFar, linked_more, linked_refused}
use Rattle.graph_texts.proofs.linking.link.Goals as goal

pub rows-preserved : goal.rows-preserved
rows-preserved c = (
  tt,
  tt,
  linked_more c.args.rows.items c.in-Some.row (into_iter_items c.next.new.self) c.rows.pips c.add_linked.new.pips c.requires
      (subst (λ (left : List PipRow). LinkedSoFar c.args.rows.items left c.rows.pips) c.in-Some.ensures.steps.0 c.rows.invariant.2)
      c.in_ok-add_linked.ensures,
)

pub returns-in_err-add_linked : goal.returns-in_err-add_linked
returns-in_err-add_linked c =
    let p = err_from_is_err_and c.from_residual.result c.from_residual.ensures.1 in
    rw (p.1, p.2)
    (linked_refused c.args.rows.items c.in-Some.row (into_iter_items c.next.new.self) c.rows.pips c.add_linked.new.pips c.in_err-add_linked.field-0.0
    (subst (λ (left : List PipRow). LinkedSoFar c.args.rows.items left c.rows.pips) c.in-Some.ensures.steps.0 c.rows.invariant.2)
    c.in_err-add_linked.ensures)
