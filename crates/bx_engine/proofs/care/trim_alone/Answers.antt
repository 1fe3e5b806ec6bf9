use Rattle.bx_io.specs.Holdings.{MakesPrefix}
use Rattle.cache_care.specs.Trimming.{trims}
use Rattle.two_phase.proofs.Used.{keeps_then, ok_no_err}
use Rattle.bx_engine.proofs.AloneBefore.{alone_since, counted_since, no_trims, nothing_trimmed, on_err, only_trims_since, trims_in_part_since, trims_since, unchanged_since}
use Rattle.bx_engine.proofs.care.trim_alone.Goals as goal

pub returns-in_err-ask_alone-clause-cut : goal.returns-in_err-ask_alone-clause-cut
returns-in_err-ask_alone-clause-cut g c S was tells =
    on_err c.from_residual.result (MakesPrefix (g.K.Keeper.known c.args.keeper.now) (g.K.Keeper.known c.ask_alone.new.keeper) (trims S c.args.keep))
    (nothing_trimmed S _ _ c.args.keep c.ask_alone.ensures.known)

pub returns-in_err-ask_alone-clause-trims : goal.returns-in_err-ask_alone-clause-trims
returns-in_err-ask_alone-clause-trims g c = no_trims _ _ c.ask_alone.ensures.known

pub returns-in_err-ask_alone-clause-alone : goal.returns-in_err-ask_alone-clause-alone
returns-in_err-ask_alone-clause-alone g c = unchanged_since _ _ c.ask_alone.ensures.known

pub returns-clause-trimmed : goal.returns-clause-trimmed
returns-clause-trimmed g c S was tells =
    trims_since S c.args.keep c.trim_store.result (g.K.Keeper.known c.args.keeper.now) (g.K.Keeper.known c.ask_alone.new.keeper) (g.K.Keeper.known c.trim_store.new.keeper)
    c.ask_alone.ensures.known c.trim_store.ensures.trims was tells (c.trim_store.ensures.trimmed S)

pub returns-clause-cut : goal.returns-clause-cut
returns-clause-cut g c S was tells =
    trims_in_part_since S c.args.keep c.trim_store.result (g.K.Keeper.known c.args.keeper.now) (g.K.Keeper.known c.ask_alone.new.keeper)
    (g.K.Keeper.known c.trim_store.new.keeper) c.ask_alone.ensures.known c.trim_store.ensures.trims was tells (c.trim_store.ensures.cut S)

pub returns-clause-counted : goal.returns-clause-counted
returns-clause-counted g c = counted_since c.trim_store.result _ _ _ c.ask_alone.ensures.known c.trim_store.ensures.counted

pub returns-clause-trims : goal.returns-clause-trims
returns-clause-trims g c = only_trims_since _ _ _ c.ask_alone.ensures.known c.trim_store.ensures.trims

pub returns-clause-alone : goal.returns-clause-alone
returns-clause-alone g c =
    alone_since (g.K.Keeper.known c.args.keeper.now) _ _ c.trim_store.ensures.trims.made c.in_ok-ask_alone.ensures.granted c.trim_store.ensures.trims.makes

pub returns-clause-keeper : goal.returns-clause-keeper
returns-clause-keeper g c = keeps_then _ _ _ _ _ _ _ _ (ok_no_err _ _) c.in_ok-ask_alone.ensures.keeper c.trim_store.ensures.keeper
