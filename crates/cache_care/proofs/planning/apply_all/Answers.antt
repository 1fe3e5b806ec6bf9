use Rattle.two_phase.proofs.Used.{keeps_on, ok_no_err}
use Rattle.cache_care.proofs.Planned.{made_cut, made_more}
use Rattle.cache_care.proofs.planning.apply_all.Goals as goal

pub returns-in-Err-Failed-clause-cut : goal.returns-in-Err-Failed-clause-cut
returns-in-Err-Failed-clause-cut g c =
    made_cut (g.K.Keeper.known c.args.keeper.now) (g.K.Keeper.known c.plan.keeper) (g.K.Keeper.known c.apply.new.keeper) c.args.plan.now c.plan.planned-index
    c.plan.invariant.made c.in-Err-Failed.ensures.refused

pub returns-in-Err-Memory-clause-cut : goal.returns-in-Err-Memory-clause-cut
returns-in-Err-Memory-clause-cut g c =
    made_cut (g.K.Keeper.known c.args.keeper.now) (g.K.Keeper.known c.plan.keeper) (g.K.Keeper.known c.apply.new.keeper) c.args.plan.now c.plan.planned-index
    c.plan.invariant.made c.in-Err-Memory.ensures.refused

pub plan-preserved : goal.plan-preserved
plan-preserved g c = record {
  made = made_more (g.K.Keeper.known c.args.keeper.now) (g.K.Keeper.known c.plan.keeper) (g.K.Keeper.known c.apply.new.keeper) c.args.plan.now c.plan.planned-index
      c.planned-item.result c.plan-test.true c.planned-item.is c.plan.invariant.made c.in-Ok.ensures.made;
  keeps = keeps_on _ _ _ _ _ _ _ (ok_no_err _ _) c.plan.invariant.keeps c.in-Ok.ensures.keeper;
}
