use Rattle.std.proofs.Common.{◌≡◌, length}
use Rattle.pip_model.specs.Plans.{AreRows}
use Rattle.pip_model.specs.Walks.{ListEdge}
use Rattle.pip_model.proofs.reach.all_rows.Given as goal

abbrev pub invariant-inputs : goal.invariant-inputs
invariant-inputs l = record {
  size : length l.rows.items ≡ l.targets-index;
  rows : AreRows (ListEdge l.inputs) l.rows.items;
}
