use Rattle.std.proofs.Common.{◌≡◌, ◌<◌, ℕ, List, ap, arith, length, length-append, subst, sym}
use Rattle.std.specs.List.{HoldsAt}
use Rattle.pip_model.specs.Plans.{AreInputs}
use Rattle.pip_model.proofs.Found.{holds_more, inputs_at}
use Rattle.pip_model.proofs.edges.all_inputs.Goals as goal

pub pips-preserved : goal.pips-preserved
pips-preserved c =
    let pips = c.args.pips.now in
    let items = c.in_ok-push.ensures.items in
    let next = inputs_at pips c.pips.pip-index c.pip-item.result c.in_ok-inputs_of.field-0 c.pips-test.true c.pip-item.is c.in_ok-inputs_of.ensures in
    record {
      size = omega (arith, simp length-append at (ap length items), c.pips.invariant.size);
      each =
          subst (λ (all : List (List ℕ)). (i : ℕ) → i < length all → HoldsAt (AreInputs pips i) all i) (sym {A = List (List ℕ)} items)
          (holds_more (AreInputs pips) c.pips.all.items c.in_ok-inputs_of.field-0 c.pips.invariant.each
          (subst (λ n. AreInputs pips n c.in_ok-inputs_of.field-0) (sym c.pips.invariant.size) next));
    }

pub returns : goal.returns
returns c =
    let size : length c.pips.all.items ≡ length c.args.pips.now = omega arith in
    record { size = size; each = λ i l. c.pips.invariant.each i (omega (arith, l, size)) }
