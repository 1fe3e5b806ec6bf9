use Rattle.std.proofs.Common.{◌≡◌, ◌+◌, ◌/◌, ◌<◌, ◌≤◌, ℕ, List, ap, arith, get_or, length, length-append, subst, sym, ◌∙◌}
use Rattle.pip_model.specs.Plans.{AreRows}
use Rattle.pip_model.specs.Rows.{IsRowOf}
use Rattle.pip_model.specs.Walks.{ListEdge}
use Rattle.pip_model.proofs.WalksBack.{next_row}
use Rattle.pip_model.proofs.reach.all_rows.Goals as goal

pub inputs-preserved : goal.inputs-preserved
inputs-preserved c =
    let lists = c.args.inputs.now in
    let rows = c.inputs.rows.items in
    let targets = c.targets-item.result in
    let items = c.in_ok-push.ensures.items in
    let within : length rows < length lists = omega (arith, c.inputs-test.true, c.inputs.invariant.size) in
    let here : targets ≡ get_or lists (length rows) targets =
    c.targets-item.is ∙ ap (λ n. get_or lists n targets) (sym c.inputs.invariant.size) in
    let fits : length c.in_ok-row.row ≤ length rows / 64 + 1 = omega (arith, c.in_ok-row.ensures.size, c.len.ensures) in
    let row = subst (λ (ts : List ℕ). IsRowOf c.as_slice.result.now ts c.in_ok-row.row) c.numbers.ensures c.in_ok-row.ensures.row in
    record {
      size = omega (arith, simp length-append at (ap length items), c.inputs.invariant.size);
      rows =
          subst (AreRows (ListEdge lists)) (sym items)
          (next_row lists rows targets c.in_ok-row.row c.requires within here fits
          (subst (λ (rs : List (List ℕ)). IsRowOf rs targets c.in_ok-row.row) c.as_slice.ensures.value row) c.inputs.invariant.rows);
    }
