use Rattle.std.proofs.Common.{◌∙◌, sym}
use Rattle.graph_check.specs.Orders.{described_alike, tied_processes}
use Rattle.graph_check.proofs.descriptions.process_order.Goals as goal

pub returns-clause-ties : goal.returns-clause-ties
returns-clause-ties c = (
  λ tie. tied_processes c.args.a.now c.args.b.now (sym c.compared.ensures ∙ tie),
  λ same. c.compared.ensures ∙ described_alike c.args.a.now c.args.b.now same,
)
