use Rattle.std.proofs.Common.{ap, arith, length, length-append, ◌∷◌, []}
use Rattle.std.specs.Vec.Iter.{into_iter_items}
use Rattle.bx_tree.proofs.Lists.{none_left}
use Rattle.bx_engine.proofs.crew.shares_of.Goals as goal

pub crew-init : goal.crew-init
crew-init g c =
    let none = ap length c.new-shares.ensures.items in
    let whole = ap length c.into_iter-worker-iterator.ensures.into_iter_gives.0 in (
      tt,
      tt,
      omega (arith, none, whole),
    )

pub crew-preserved : goal.crew-preserved
crew-preserved g c =
    let split = ap length c.in-Some.ensures.steps.0 in
    let more = ap length c.in_ok-push.ensures.items in
    let joined = length-append c.crew.shares.items (c.share.result ∷ []) in (
      tt,
      tt,
      omega (arith, split, more, joined, c.crew.invariant.2),
    )

pub returns : goal.returns
returns g c =
    let none = none_left (into_iter_items c.crew.worker-iterator) (omega (arith, c.in-None.ensures.steps.0, c.crew.worker-iterator.rest.ok.0)) in
    let zero = ap length none in
    omega (arith, zero, c.crew.invariant.2, c.crew.shares.ok.0, c.args.crew.ok.0)
