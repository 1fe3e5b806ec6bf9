use Rattle.bx_engine.specs.Calls.{StoreChange, change_of}
use Rattle.bx_engine.proofs.BuildsAreShown.{both_ok, build_response}
use Rattle.bx_engine.proofs.response.collect.Goals as goal

pub returns-clause-response : goal.returns-clause-response
returns-clause-response g c =
    λ workers through.
    let r = c.in_ok-retired.ensures in
    let change : StoreChange =
    change_of (g.K.Keeper.known c.args.keeper.now) (g.K.Keeper.known c.retire.new.keeper) (g.K.Keeper.bound c.args.keeper.now)
    (g.K.Keeper.faults c.args.keeper.now) (g.K.Keeper.faults c.retire.new.keeper) in
    both_ok c.show-response.result _ _ _
    (λ response shown paths.
    build_response c.args.plan.now.pips c.args.sources.now c.args.plan.now.tool_budget c.args.cached workers change c.in_ok-retired.retired c.args.crewed.worked c.args.line response
    (record {
      build = r.build;
      number = r.number;
      counted = r.counted;
      places = r.places;
      late = r.late;
      unused = λ off. let none = r.alone off in (none.no_hits, none.no_faults);
      within = r.within;
      usable = r.usable;
      faults = r.faults;
      seen = r.seen;
      through = through;
      more = c.show-response.ensures.faults;
    }) shown paths)
    c.show-response.ensures.shown c.show-response.ensures.paths
