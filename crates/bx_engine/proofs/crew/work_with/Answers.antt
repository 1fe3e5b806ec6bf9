use Rattle.std.proofs.Common.{◌≡◌, ap, arith, length, subst, sym}
use Rattle.std.specs.Prelude.{All}
use Rattle.std.specs.List.{range_with_len}
use Rattle.std.proofs.lemmas.List.{length-map}
use Rattle.std.proofs.lemmas.List.FromFn.{length-range_with_len}
use Rattle.sched_board.specs.Board.{new_share}
use Rattle.bx_engine.specs.Crews.{AreThrough, IsFresh}
use Rattle.bx_engine.proofs.crew.work_with.Goals as goal

pub work_all-worked-requires-clause-some : goal.work_all-worked-requires-clause-some
work_all-worked-requires-clause-some g c =
    let w = c.args.workers in
    let shares = ap length c.in_ok-board.ensures.shares in
    let mapped = length-map (range_with_len 0 w) new_share in
    let range = length-range_with_len 0 w in
    omega (arith, shares, mapped, range, c.as_mut_slice.ensures.len, c.in_ok-crew.ensures.number, c.in_ok-board.shares.ok.0, c.requires.workers.0)

pub finish_if_fit-requires-clause-all : goal.finish_if_fit-requires-clause-all
finish_if_fit-requires-clause-all g c =
    let w = c.args.workers in
    let shares = ap length c.in_ok-board.ensures.shares in
    let mapped = length-map (range_with_len 0 w) new_share in
    let range = length-range_with_len 0 w in
    omega (arith, shares, mapped, range, c.in_ok-shares.ensures, c.in_ok-crew.ensures.number, c.in_ok-board.shares.ok.0, c.requires.events.1.1)

pub finish_if_fit-requires-clause-some : goal.finish_if_fit-requires-clause-some
finish_if_fit-requires-clause-some g c =
    let w = c.args.workers in
    let shares = ap length c.in_ok-board.ensures.shares in
    let mapped = length-map (range_with_len 0 w) new_share in
    let range = length-range_with_len 0 w in
    omega (arith, shares, mapped, range, c.in_ok-shares.ensures, c.in_ok-crew.ensures.number, c.in_ok-board.shares.ok.0, c.requires.workers.0)

pub returns-clause-through : goal.returns-clause-through
returns-clause-through g c =
    let w = c.args.workers in
    let shares = ap length c.in_ok-board.ensures.shares in
    let mapped = length-map (range_with_len 0 w) new_share in
    let range = length-range_with_len 0 w in
    let same : length c.as_mut_slice.result.now ≡ w =
    omega (arith, shares, mapped, range, c.as_mut_slice.ensures.len, c.in_ok-crew.ensures.number, c.in_ok-board.shares.ok.0) in
    subst (λ n. AreThrough c.args.cached (g.K.Keeper.bound c.args.keeper.now) n c.work_all-worked.result.faults c.work_all-worked.result.starved) same
    (c.work_all-worked.ensures c.args.cached (g.K.Keeper.bound c.args.keeper.now)
    (subst (All (IsFresh c.args.cached (g.K.Keeper.bound c.args.keeper.now))) (sym c.as_mut_slice.ensures.value) c.in_ok-crew.ensures.fresh))
