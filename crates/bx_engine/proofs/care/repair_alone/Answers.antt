use Rattle.std.proofs.Common.{inl}
use Rattle.cache_care.specs.Repairing.{DoesRepairInPart}
use Rattle.two_phase.proofs.Used.{keeps_then, ok_no_err}
use Rattle.bx_engine.proofs.AloneBefore.{alone_since, counted_since, drops_since, no_drops, on_err, repairs_in_part_since, repairs_since, unchanged_since}
use Rattle.bx_engine.proofs.care.repair_alone.Goals as goal

pub returns-in_err-ask_alone-clause-cut : goal.returns-in_err-ask_alone-clause-cut
returns-in_err-ask_alone-clause-cut g c S was tells =
    on_err c.from_residual.result (DoesRepairInPart S (g.K.Keeper.known c.args.keeper.now) (g.K.Keeper.known c.ask_alone.new.keeper)) (inl c.ask_alone.ensures.known)

pub returns-in_err-ask_alone-clause-drops : goal.returns-in_err-ask_alone-clause-drops
returns-in_err-ask_alone-clause-drops g c = no_drops _ _ c.ask_alone.ensures.known

pub returns-in_err-ask_alone-clause-alone : goal.returns-in_err-ask_alone-clause-alone
returns-in_err-ask_alone-clause-alone g c = unchanged_since _ _ c.ask_alone.ensures.known

pub returns-clause-repaired : goal.returns-clause-repaired
returns-clause-repaired g c S was tells =
    repairs_since S c.repair_store.result (g.K.Keeper.known c.args.keeper.now) (g.K.Keeper.known c.ask_alone.new.keeper) (g.K.Keeper.known c.repair_store.new.keeper)
    c.ask_alone.ensures.known c.repair_store.ensures.drops was tells (c.repair_store.ensures.repaired S)

pub returns-clause-cut : goal.returns-clause-cut
returns-clause-cut g c S was tells =
    repairs_in_part_since S c.repair_store.result (g.K.Keeper.known c.args.keeper.now) (g.K.Keeper.known c.ask_alone.new.keeper)
    (g.K.Keeper.known c.repair_store.new.keeper) c.ask_alone.ensures.known c.repair_store.ensures.drops was tells (c.repair_store.ensures.cut S)

pub returns-clause-counted : goal.returns-clause-counted
returns-clause-counted g c = counted_since c.repair_store.result _ _ _ c.ask_alone.ensures.known c.repair_store.ensures.counted

pub returns-clause-drops : goal.returns-clause-drops
returns-clause-drops g c = drops_since _ _ _ c.ask_alone.ensures.known c.repair_store.ensures.drops

pub returns-clause-alone : goal.returns-clause-alone
returns-clause-alone g c =
    alone_since (g.K.Keeper.known c.args.keeper.now) _ _ c.repair_store.ensures.drops.made c.in_ok-ask_alone.ensures.granted c.repair_store.ensures.drops.makes

pub returns-clause-keeper : goal.returns-clause-keeper
returns-clause-keeper g c = keeps_then _ _ _ _ _ _ _ _ (ok_no_err _ _) c.in_ok-ask_alone.ensures.keeper c.repair_store.ensures.keeper
