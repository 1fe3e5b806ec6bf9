use Rattle.std.proofs.Common.{◌≡◌, ◌⊎◌, ◌∙◌, ℕ, List, ap, arith, inl, inr, length, refl, subst, sym}
use Rattle.bx_io.proofs.Changes.{keeps_all}
use Rattle.std.specs.Prelude.{vec_len}
use Rattle.bx_engine.specs.Calls.{Call, Given, change_of, given_of, graph_call_of, written_of}
use Rattle.bx_engine.specs.Ended.{Answered, LeftStores, Unanswered}
use Rattle.bx_engine.specs.Expected.{limits_of}
use Rattle.bx_engine.specs.Known.{IsInput, ReadOf}
use Rattle.bx_engine.specs.Statuses.{HasNoNotes}
use Rattle.bx_engine.specs.declared.status.Status.TheVariants as statuses
use Rattle.bx_engine.proofs.CallsEnd.{left_read}
use Rattle.bx_engine.proofs.GraphsOfCalls.{memory_is_no_tree, no_tree_status, same_keeps, same_kept, same_leaves}
use Rattle.bx_engine.proofs.ReadingKeepsEnding.{left_slice, read_out, read_slice}
use Rattle.bx_engine.proofs.StatusesDiffer.{answered_status, memory_is_no_refusal, not_begun, not_silent, quiet_refusal, refused_status}
use Rattle.bx_engine.proofs.StoresLeft.{left_same, none_put}
use Rattle.bx_engine.proofs.build.build.Goals as goal

pub deliver-requires : goal.deliver-requires
deliver-requires g c = c.in-Ok-respond.ensures.response.whole

-- ## Nothing was read

pub returns-in-Err-Failed : goal.returns-in-Err-Failed
returns-in-Err-Failed g c =
    let order = c.args.order.now in
    let known = g.K.Keeper.known c.args.keeper.now in
    let source : Given =
    given_of (g.S.Source.given c.args.source.now) (g.S.Source.given c.read_all.new.source) (g.S.Source.left c.args.source.now) (g.S.Source.left c.read_all.new.source)
    (g.S.Source.ended c.read_all.new.source) (g.S.Source.faults c.args.source.now) (g.S.Source.faults c.read_all.new.source) in
    let call : Call =
    graph_call_of statuses.SourceFailed source
    (written_of (g.O.Sink.taken c.args.out.now) (g.O.Sink.taken c.args.out.now) (g.O.Sink.faults c.args.out.now) (g.O.Sink.faults c.args.out.now))
    (written_of (g.N.Sink.taken c.args.notes.now) (g.N.Sink.taken c.args.notes.now) (g.N.Sink.faults c.args.notes.now) (g.N.Sink.faults c.args.notes.now))
    (change_of (g.K.Keeper.known c.args.keeper.now) (g.K.Keeper.known c.args.keeper.now) (g.K.Keeper.bound c.args.keeper.now) (g.K.Keeper.faults c.args.keeper.now)
    (g.K.Keeper.faults c.args.keeper.now))
    (change_of (g.M.Keeper.known c.args.graphs.now) (g.M.Keeper.known c.args.graphs.now) (g.M.Keeper.bound c.args.graphs.now) (g.M.Keeper.faults c.args.graphs.now)
    (g.M.Keeper.faults c.args.graphs.now)) in
    let gave = c.read_all.ensures.piece in
    let u : Unanswered call = record {
      silent = inr (inl refl);
      gives = record { piece = gave.0; gave = gave.1; moved = gave.2 };
      out = refl;
      source_cause = record { later = c.in-Err-Failed.ensures.cause.later; rose = λ e. c.in-Err-Failed.ensures.cause.rose (cc) };
      source_no_fault = λ n. absurd (n refl);
      out_faults = refl;
      puts = none_put known known (keeps_all known);
      graph_puts = same_kept (g.M.Keeper.known c.args.graphs.now) (g.M.Keeper.bound c.args.graphs.now) (g.M.Keeper.faults c.args.graphs.now);
      later = omega arith;
    } in
    record {
      begun = λ e. cc;
      ended = inl (
        u,
        λ input asked. record {
          results = λ held is honest fair. left_same (limits_of order) input held known known (keeps_all known) honest;
          graphs = record {
            only = same_keeps (g.M.Keeper.known c.args.graphs.now) (g.M.Keeper.bound c.args.graphs.now) (g.M.Keeper.faults c.args.graphs.now) (limits_of order)
                input;
            honest = λ fair. same_leaves (g.M.Keeper.known c.args.graphs.now);
          };
        },
      );
      silent = λ s. refl;
      no_notes = λ s. refl;
      kept = λ s. refl;
      untouched = λ off. refl;
      bound = refl;
      no_tree = λ n. refl;
      no_graphs = λ off. refl;
      graph_bound = refl;
    }

pub returns-in-Err-Memory : goal.returns-in-Err-Memory
returns-in-Err-Memory g c =
    let order = c.args.order.now in
    let known = g.K.Keeper.known c.args.keeper.now in
    let source : Given =
    given_of (g.S.Source.given c.args.source.now) (g.S.Source.given c.read_all.new.source) (g.S.Source.left c.args.source.now) (g.S.Source.left c.read_all.new.source)
    (g.S.Source.ended c.read_all.new.source) (g.S.Source.faults c.args.source.now) (g.S.Source.faults c.read_all.new.source) in
    let call : Call =
    graph_call_of statuses.OutOfMemory source
    (written_of (g.O.Sink.taken c.args.out.now) (g.O.Sink.taken c.args.out.now) (g.O.Sink.faults c.args.out.now) (g.O.Sink.faults c.args.out.now))
    (written_of (g.N.Sink.taken c.args.notes.now) (g.N.Sink.taken c.args.notes.now) (g.N.Sink.faults c.args.notes.now) (g.N.Sink.faults c.args.notes.now))
    (change_of (g.K.Keeper.known c.args.keeper.now) (g.K.Keeper.known c.args.keeper.now) (g.K.Keeper.bound c.args.keeper.now) (g.K.Keeper.faults c.args.keeper.now)
    (g.K.Keeper.faults c.args.keeper.now))
    (change_of (g.M.Keeper.known c.args.graphs.now) (g.M.Keeper.known c.args.graphs.now) (g.M.Keeper.bound c.args.graphs.now) (g.M.Keeper.faults c.args.graphs.now)
    (g.M.Keeper.faults c.args.graphs.now)) in
    let gave = c.read_all.ensures.piece in
    let u : Unanswered call = record {
      silent = inr (inr refl);
      gives = record { piece = gave.0; gave = gave.1; moved = gave.2 };
      out = refl;
      source_cause = record { later = c.in-Err-Memory.ensures.cause.later; rose = λ e. absurd (cc) };
      source_no_fault = λ n. c.in-Err-Memory.ensures.no_fault (λ e. cc);
      out_faults = refl;
      puts = none_put known known (keeps_all known);
      graph_puts = same_kept (g.M.Keeper.known c.args.graphs.now) (g.M.Keeper.bound c.args.graphs.now) (g.M.Keeper.faults c.args.graphs.now);
      later = omega arith;
    } in
    record {
      begun = λ e. cc;
      ended = inl (
        u,
        λ input asked. record {
          results = λ held is honest fair. left_same (limits_of order) input held known known (keeps_all known) honest;
          graphs = record {
            only = same_keeps (g.M.Keeper.known c.args.graphs.now) (g.M.Keeper.bound c.args.graphs.now) (g.M.Keeper.faults c.args.graphs.now) (limits_of order)
                input;
            honest = λ fair. same_leaves (g.M.Keeper.known c.args.graphs.now);
          };
        },
      );
      silent = λ s. refl;
      no_notes = λ s. refl;
      kept = λ s. refl;
      untouched = λ off. refl;
      bound = refl;
      no_tree = λ n. refl;
      no_graphs = λ off. refl;
      graph_bound = refl;
    }

-- ## Nothing was answered

pub returns-in-Err : goal.returns-in-Err
returns-in-Err g c =
    let order = c.args.order.now in
    let source : Given =
    given_of (g.S.Source.given c.args.source.now) (g.S.Source.given c.read_all.new.source) (g.S.Source.left c.args.source.now) (g.S.Source.left c.read_all.new.source)
    (g.S.Source.ended c.read_all.new.source) (g.S.Source.faults c.args.source.now) (g.S.Source.faults c.read_all.new.source) in
    let call : Call =
    graph_call_of statuses.OutOfMemory source
    (written_of (g.O.Sink.taken c.args.out.now) (g.O.Sink.taken c.args.out.now) (g.O.Sink.faults c.args.out.now) (g.O.Sink.faults c.args.out.now))
    (written_of (g.N.Sink.taken c.args.notes.now) (g.N.Sink.taken c.args.notes.now) (g.N.Sink.faults c.args.notes.now) (g.N.Sink.faults c.args.notes.now))
    (change_of (g.K.Keeper.known c.args.keeper.now) (g.K.Keeper.known c.respond.new.keeper) (g.K.Keeper.bound c.args.keeper.now) (g.K.Keeper.faults c.args.keeper.now)
    (g.K.Keeper.faults c.respond.new.keeper))
    (change_of (g.M.Keeper.known c.args.graphs.now) (g.M.Keeper.known c.respond.new.graphs) (g.M.Keeper.bound c.args.graphs.now) (g.M.Keeper.faults c.args.graphs.now)
    (g.M.Keeper.faults c.respond.new.graphs)) in
    let same = c.in-Ok.ensures.no_fault (λ e. cc) in
    let gave = c.read_all.ensures.piece in
    let u : Unanswered call = record {
      silent = inr (inr refl);
      gives = record { piece = gave.0; gave = gave.1; moved = gave.2 };
      out = refl;
      source_cause = record { later = omega (arith, same); rose = λ e. absurd (cc) };
      source_no_fault = λ n. same;
      out_faults = refl;
      puts = c.respond.ensures.puts;
      graph_puts = c.respond.ensures.graph_puts;
      later = c.respond.ensures.later;
    } in
    let read : (input : List ℕ) → IsInput source input → ReadOf input c.deref.result.now =
    λ input asked. read_slice source input _ _ _ c.deref.ensures.value c.deref.ensures.len asked c.in-Ok.ensures.gave c.in-Ok.ensures.moved c.in-Ok.ensures.bound c.in-Ok.ensures.none_left in
    let left : LeftStores call c.deref.result.now order = record {
      results = c.respond.ensures.left;
      graphs = record { only = c.respond.ensures.graphs_kept; honest = c.respond.ensures.graphs_left };
    } in
    record {
      begun = λ e. cc;
      ended = inl (u, λ input asked. left_read call input c.deref.result.now order (read input asked) left);
      silent = λ s. refl;
      no_notes = λ s. refl;
      kept = λ none. absurd (memory_is_no_refusal none);
      untouched = c.respond.ensures.untouched;
      bound = c.respond.ensures.bound;
      no_tree = λ none. absurd (memory_is_no_tree none);
      no_graphs = c.respond.ensures.no_graphs;
      graph_bound = c.respond.ensures.graph_bound;
    }

-- ## An answer

pub returns : goal.returns
returns g c =
    let order = c.args.order.now in
    let source : Given =
    given_of (g.S.Source.given c.args.source.now) (g.S.Source.given c.read_all.new.source) (g.S.Source.left c.args.source.now) (g.S.Source.left c.read_all.new.source)
    (g.S.Source.ended c.read_all.new.source) (g.S.Source.faults c.args.source.now) (g.S.Source.faults c.read_all.new.source) in
    let call : Call =
    graph_call_of c.deliver.result source
    (written_of (g.O.Sink.taken c.args.out.now) (g.O.Sink.taken c.deliver.new.out) (g.O.Sink.faults c.args.out.now) (g.O.Sink.faults c.deliver.new.out))
    (written_of (g.N.Sink.taken c.args.notes.now) (g.N.Sink.taken c.deliver.new.notes) (g.N.Sink.faults c.args.notes.now) (g.N.Sink.faults c.deliver.new.notes))
    (change_of (g.K.Keeper.known c.args.keeper.now) (g.K.Keeper.known c.respond.new.keeper) (g.K.Keeper.bound c.args.keeper.now) (g.K.Keeper.faults c.args.keeper.now)
    (g.K.Keeper.faults c.respond.new.keeper))
    (change_of (g.M.Keeper.known c.args.graphs.now) (g.M.Keeper.known c.respond.new.graphs) (g.M.Keeper.bound c.args.graphs.now) (g.M.Keeper.faults c.args.graphs.now)
    (g.M.Keeper.faults c.respond.new.graphs)) in
    let given = c.in-Ok.ensures in
    let gave = c.read_all.ensures.piece in
    let same = given.no_fault (λ e. cc) in
    let response = c.in-Ok-respond.ensures.response in
    let came = answered_status c.in-Ok-respond.response.status c.deliver.result response.whole c.deliver.ensures.status in
    let long : length c.in-Ok.input.items ≡ vec_len c.in-Ok.input = ap length (sym c.deref.ensures.value) ∙ c.deref.ensures.len in
    let a : Answered order call = record {
      bytes = c.deref.result.now;
      read = λ input asked. read_slice source input _ _ _ c.deref.ensures.value c.deref.ensures.len asked given.gave given.moved given.bound given.none_left;
      gives = record { piece = gave.0; gave = gave.1; moved = gave.2 };
      read_out = read_out source c.in-Ok.input.items _ long given.gave given.bound given.end;
      rest = left_slice source _ _ long given.moved given.bound given.none_left;
      response = c.in-Ok-respond.response;
      responds = response;
      status = c.deliver.ensures.status;
      written = c.deliver.ensures.written;
      begun = c.deliver.ensures.begun;
      noted = c.deliver.ensures.noted;
      left = record {
        results = c.respond.ensures.left;
        graphs = record { only = c.respond.ensures.graphs_kept; honest = c.respond.ensures.graphs_left };
      };
      source = same;
      out_cause = c.deliver.ensures.cause;
      out_no_fault = c.deliver.ensures.no_fault;
      puts = c.respond.ensures.puts;
      graph_puts = c.respond.ensures.graph_puts;
      later = c.respond.ensures.later;
    } in
    record {
      begun = λ none. absurd (not_silent c.deliver.result came (inl none));
      ended = inr a;
      silent = λ s. absurd (not_silent c.deliver.result came s);
      no_notes = λ quiet. elim c.deliver.ensures.status [
        | inl is ↦ c.deliver.ensures.no_notes (response.quiet (quiet_refusal _ response.whole (subst HasNoNotes is quiet)))
        | inr cut ↦ c.deliver.ensures.cut cut
      ];
      kept = λ none.
          c.in-Ok-respond.ensures.kept (refused_status _ _ c.deliver.ensures.status (not_begun c.deliver.result (answered_or_memory came) none));
      untouched = c.respond.ensures.untouched;
      bound = c.respond.ensures.bound;
      no_tree = λ none. c.in-Ok-respond.ensures.no_tree (no_tree_status _ _ c.deliver.ensures.status none);
      no_graphs = c.respond.ensures.no_graphs;
      graph_bound = c.respond.ensures.graph_bound;
    }
  where
    answered_or_memory : {A B C : Type 0} → A ⊎ B → A ⊎ B ⊎ C
    answered_or_memory h = elim h [ inl a ↦ inl a | inr b ↦ inr (inl b) ]
