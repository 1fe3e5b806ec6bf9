use Rattle.std.proofs.Common.{◌≡◌, ◌∙◌, ap, arith, inl, map, refl, subst, sym}
use Rattle.std.specs.Prelude.{string_bytes}
use Rattle.bx_io.proofs.Changes.{keeps_all}
use Rattle.bx_engine_words.specs.Words.{IsBuild, IsCare, Orders}
use Rattle.bx_engine_words.specs.declared.order.Order.TheVariants.{Gen}
use Rattle.bx_engine.specs.Calls.{Call, Given, change_of, given_of, graph_call_of, written_of}
use Rattle.bx_engine.specs.Stores.{uses_graphs, uses_store}
use Rattle.bx_engine.specs.declared.status.Status.TheVariants as statuses
use Rattle.bx_engine.proofs.CallsEnd.{beyond_asked, beyond_none, headline_asked}
use Rattle.bx_engine.proofs.GraphsOfCalls.{same_kept}
use Rattle.bx_engine.proofs.ReadingKeepsEnding.{gives_none}
use Rattle.bx_engine.proofs.StoresLeft.{none_put}
use Rattle.bx_engine.proofs.top.command_graphs.Goals as goal

-- ## Words that are no command

pub returns-in-Err-NoCommand-clause-headline : goal.returns-in-Err-NoCommand-clause-headline
returns-in-Err-NoCommand-clause-headline g c order input is given fair = absurd (c.in-Err-NoCommand.ensures order is.0)

pub returns-in-Err-NoCommand-clause-beyond : goal.returns-in-Err-NoCommand-clause-beyond
returns-in-Err-NoCommand-clause-beyond g c =
    let source : Given =
    given_of (g.S.Source.given c.args.source.now) (g.S.Source.given c.args.source.now) (g.S.Source.left c.args.source.now) (g.S.Source.left c.args.source.now)
    (g.S.Source.ended c.args.source.now) (g.S.Source.faults c.args.source.now) (g.S.Source.faults c.args.source.now) in
    let call : Call =
    graph_call_of c.refuse_words.result source
    (written_of (g.O.Sink.taken c.args.out.now) (g.O.Sink.taken c.args.out.now) (g.O.Sink.faults c.args.out.now) (g.O.Sink.faults c.args.out.now))
    (written_of (g.N.Sink.taken c.args.notes.now) (g.N.Sink.taken c.refuse_words.new.notes) (g.N.Sink.faults c.args.notes.now) (g.N.Sink.faults c.refuse_words.new.notes))
    (change_of (g.K.Keeper.known c.args.keeper.now) (g.K.Keeper.known c.args.keeper.now) (g.K.Keeper.bound c.args.keeper.now) (g.K.Keeper.faults c.args.keeper.now)
    (g.K.Keeper.faults c.args.keeper.now))
    (change_of (g.M.Keeper.known c.args.graphs.now) (g.M.Keeper.known c.args.graphs.now) (g.M.Keeper.bound c.args.graphs.now) (g.M.Keeper.faults c.args.graphs.now)
    (g.M.Keeper.faults c.args.graphs.now)) in
    beyond_none (Orders (map string_bytes c.args.words.now)) call c.in-Err-NoCommand.ensures c.refuse_words.ensures.status
    (record { unasked = refl; unwritten = refl; unkept = refl; no_graphs = refl; usage = c.refuse_words.ensures.usage })
    (record {
      silent = inl c.refuse_words.ensures.status;
      gives = gives_none source refl refl;
      out = refl;
      source_cause = record { later = omega arith; rose = λ e. absurd (no_source (sym c.refuse_words.ensures.status ∙ e)) };
      source_no_fault = λ n. refl;
      out_faults = refl;
      puts = none_put (g.K.Keeper.known c.args.keeper.now) (g.K.Keeper.known c.args.keeper.now) (keeps_all (g.K.Keeper.known c.args.keeper.now));
      graph_puts = same_kept (g.M.Keeper.known c.args.graphs.now) (g.M.Keeper.bound c.args.graphs.now) (g.M.Keeper.faults c.args.graphs.now);
      later = omega arith;
    })
  where
    no_source : statuses.NoCommand ≡ statuses.SourceFailed → ⊥
    no_source e = cc

pub returns-in-Err-NoCommand-clause-untold : goal.returns-in-Err-NoCommand-clause-untold
returns-in-Err-NoCommand-clause-untold g c seed pips is = absurd (c.in-Err-NoCommand.ensures (Gen seed pips) is)

-- ## An order

pub carry_out-requires-clause-crew : goal.carry_out-requires-clause-crew
carry_out-requires-clause-crew g c = λ κs live builds. c.some_workers.ensures _ c.in-Ok.order c.in-Ok.ensures builds

pub returns-in-Ok-clause-no_command : goal.returns-in-Ok-clause-no_command
returns-in-Ok-clause-no_command g c none = absurd (c.carry_out.ensures.begun none)

pub returns-in-Ok-clause-headline : goal.returns-in-Ok-clause-headline
returns-in-Ok-clause-headline g c =
    headline_asked (Orders (map string_bytes c.args.words.now)) c.in-Ok.order _ (λ o is. c.one_order.ensures _ c.in-Ok.order o c.in-Ok.ensures is)
    c.carry_out.ensures.headline

pub returns-in-Ok-clause-beyond : goal.returns-in-Ok-clause-beyond
returns-in-Ok-clause-beyond g c =
    beyond_asked (Orders (map string_bytes c.args.words.now)) c.in-Ok.order _ c.in-Ok.ensures
    (λ o is. c.one_order.ensures _ c.in-Ok.order o c.in-Ok.ensures is) c.carry_out.ensures.beyond

pub returns-in-Ok-clause-unread : goal.returns-in-Ok-clause-unread
returns-in-Ok-clause-unread g c none = absurd (c.carry_out.ensures.begun none)

pub returns-in-Ok-clause-untouched : goal.returns-in-Ok-clause-untouched
returns-in-Ok-clause-untouched g c order is off =
    c.carry_out.ensures.untouched (ap uses_store (c.one_order.ensures _ c.in-Ok.order order c.in-Ok.ensures is) ∙ off)

pub returns-in-Ok-clause-no_graphs : goal.returns-in-Ok-clause-no_graphs
returns-in-Ok-clause-no_graphs g c order is off =
    c.carry_out.ensures.no_graphs (ap uses_graphs (c.one_order.ensures _ c.in-Ok.order order c.in-Ok.ensures is) ∙ off)

pub returns-in-Ok-clause-unasked : goal.returns-in-Ok-clause-unasked
returns-in-Ok-clause-unasked g c order is other =
    c.carry_out.ensures.unasked (λ builds. other (subst IsBuild (c.one_order.ensures _ c.in-Ok.order order c.in-Ok.ensures is) builds))

pub returns-in-Ok-clause-unwritten : goal.returns-in-Ok-clause-unwritten
returns-in-Ok-clause-unwritten g c order is care =
    c.carry_out.ensures.unwritten (subst IsCare (sym (c.one_order.ensures _ c.in-Ok.order order c.in-Ok.ensures is)) care)

pub returns-in-Ok-clause-untold : goal.returns-in-Ok-clause-untold
returns-in-Ok-clause-untold g c seed pips is =
    c.carry_out.ensures.untold seed pips (c.one_order.ensures _ c.in-Ok.order (Gen seed pips) c.in-Ok.ensures is)

pub returns-in-Ok-clause-usage : goal.returns-in-Ok-clause-usage
returns-in-Ok-clause-usage g c none = absurd (c.carry_out.ensures.begun none)
