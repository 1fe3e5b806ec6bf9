use Rattle.std.proofs.Common.{◌+◌, ◌∙◌, arith, refl}
use Rattle.bx_io.proofs.Changes.{keeps_all}
use Rattle.retire.specs.Saving.{IsSuccess}
use Rattle.retire.proofs.Putting.{but_at_end, but_next, each_next, first_of, good_one, none_saved, rose_more}
use Rattle.retire.proofs.saving.save_all.Goals as goal

pub records-init : goal.records-init
records-init g c = record {
  all = none_saved (g.K.Keeper.known c.args.keeper.now) c.args.records.now;
  each = keeps_all (g.K.Keeper.known c.args.keeper.now);
  held = c.new-held.ensures (g.K.Keeper.known c.args.keeper.now).held;
  bound = refl;
  rose = λ some. omega arith;
  later = omega arith;
  few = omega arith;
  seen = λ none. refl;
}

pub save_one-requires-clause-good : goal.save_one-requires-clause-good
save_one-requires-clause-good g c = λ κs live. (good_one IsSuccess c.args.records.now c.records.ran-index c.ran-item.result c.requires c.records-test.true c.ran-item.is).0

pub records-preserved : goal.records-preserved
records-preserved g c =
    let inv = c.records.invariant in
    let step = c.in_ok-failed.ensures in
    record {
      all =
          but_next c.args.records.now c.records.ran-index c.ran-item.result (g.K.Keeper.known c.args.keeper.now) (g.K.Keeper.known c.records.keeper)
          (g.K.Keeper.known c.save_one.new.keeper) c.records.faults c.in_ok-failed.failed c.records-test.true c.ran-item.is inv.all step.all step.first;
      each =
          each_next c.args.records.now c.records.ran-index c.ran-item.result (g.K.Keeper.known c.args.keeper.now) (g.K.Keeper.known c.records.keeper)
          (g.K.Keeper.known c.save_one.new.keeper) c.records-test.true c.ran-item.is inv.each step.first;
      held = step.held;
      bound = step.bound ∙ inv.bound;
      rose = rose_more _ _ _ _ _ _ _ inv.bound inv.rose step.faults;
      later = let a = inv.later in let b = step.later in omega (arith, a, b);
      few = let a = inv.few in let b = step.few in omega (arith, a, b);
      seen = λ none. step.seen (omega (arith, none)) ∙ inv.seen (omega (arith, none));
    }

pub returns-clause-all : goal.returns-clause-all
returns-clause-all g c =
    but_at_end c.args.records.now c.records.ran-index (g.K.Keeper.known c.args.keeper.now) (g.K.Keeper.known c.records.keeper) c.records.faults c.records-test.false
    c.records.invariant.all

pub returns-clause-first : goal.returns-clause-first
returns-clause-first g c =
    first_of c.args.records.now c.records.ran-index (g.K.Keeper.known c.args.keeper.now) (g.K.Keeper.known c.records.keeper) c.records.invariant.each

pub returns-in_err-failed-clause-first : goal.returns-in_err-failed-clause-first
returns-in_err-failed-clause-first g c =
    first_of c.args.records.now (c.records.ran-index + 1) (g.K.Keeper.known c.args.keeper.now) (g.K.Keeper.known c.save_one.new.keeper)
    (each_next c.args.records.now c.records.ran-index c.ran-item.result (g.K.Keeper.known c.args.keeper.now) (g.K.Keeper.known c.records.keeper)
    (g.K.Keeper.known c.save_one.new.keeper) c.records-test.true c.ran-item.is c.records.invariant.each c.save_one.ensures.first)
