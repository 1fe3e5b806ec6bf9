use Rattle.std.proofs.Common.{ap, arith, length, length-append, subst, sym, ◌∷◌, []}
use Rattle.std.specs.Prelude.{All}
use Rattle.std.specs.Vec.Iter.{into_iter_items}
use Rattle.std.proofs.lemmas.List.Elements.{All-nil, All-push}
use Rattle.bx_tree.proofs.Lists.{none_left}
use Rattle.two_phase.specs.Reading.{reader_data}
use Rattle.bx_engine.specs.Crews.{IsFresh}
use Rattle.bx_engine.proofs.Crews.{fresh}
use Rattle.bx_engine.proofs.crew.crew_of.Goals as goal

pub shares-init : goal.shares-init
shares-init g c =
    let none = ap length c.new-crew.ensures.items in
    let whole = ap length c.into_iter-share-iterator.ensures.into_iter_gives.0 in (
      tt,
      tt,
      omega (arith, none, whole),
      subst (All (IsFresh c.args.cached (g.K.Keeper.bound c.args.keeper.now))) (sym c.new-crew.ensures.items)
          (All-nil (IsFresh c.args.cached (g.K.Keeper.bound c.args.keeper.now))),
    )

pub shares-preserved : goal.shares-preserved
shares-preserved g c =
    let split = ap length c.in-Some.ensures.steps.0 in
    let more = ap length c.in_ok-push.ensures.items in
    let joined = length-append c.shares.crew.items (c.new.result ∷ []) in (
      tt,
      tt,
      omega (arith, split, more, joined, c.shares.invariant.2),
      subst (All (IsFresh c.args.cached (g.K.Keeper.bound c.args.keeper.now))) (sym c.in_ok-push.ensures.items)
          (All-push (IsFresh c.args.cached (g.K.Keeper.bound c.args.keeper.now)) c.shares.crew.items c.new.result c.shares.invariant.3
          (fresh (λ r. reader_data (g.K.Reader.KeepReader.held r.reader) (g.K.Reader.KeepReader.bound r.reader) (g.K.Reader.KeepReader.faults r.reader)) c.args.cached
          (g.K.Keeper.bound c.args.keeper.now) c.new.result c.in_ok-reader.reader c.in-Some.share c.new.ensures.worker c.in_ok-reader.ensures.some
          c.in_ok-reader.ensures.reader)),
    )

pub returns-clause-number : goal.returns-clause-number
returns-clause-number g c =
    let none = none_left (into_iter_items c.shares.share-iterator) (omega (arith, c.in-None.ensures.steps.0, c.shares.share-iterator.rest.ok.0)) in
    let zero = ap length none in
    omega (arith, zero, c.shares.invariant.2, c.shares.crew.ok.0, c.args.shares.ok.0)
