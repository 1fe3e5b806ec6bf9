use Rattle.std.proofs.Common.{◌≡◌, ◌∙◌, ap, refl, subst, sym, true≢false}
use Rattle.bx_engine_words.specs.Words.{IsBuild, IsCare}
use Rattle.bx_engine_words.specs.declared.order.Order.{Order}
use Rattle.bx_engine_words.specs.declared.order.Order.TheVariants.{Check, Gen, Repair, Trim}
use Rattle.bx_engine.specs.Calls.{Call, Given, change_of, given_of, graph_call_of, written_of}
use Rattle.bx_engine.specs.Stores.{uses_store}
use Rattle.bx_engine.proofs.CallsEnd.{beyond_of, build_no_care, build_no_other, headline_of}
use Rattle.bx_engine.proofs.OtherCalls.{beyond_check, beyond_gen, beyond_repair, beyond_trim, cared, cared_begun, cared_no_command, done_gone, no_headline, silent_memory, worked, worked_no_command}
use Rattle.bx_engine.proofs.ReadingKeepsEnding.{gives_none}
use Rattle.bx_engine.proofs.top.carry_out.Goals as goal

-- ## A build

pub build-requires-clause-crew : goal.build-requires-clause-crew
build-requires-clause-crew g c = λ κs live. c.requires.crew (subst IsBuild (sym c.in-Build.is) tt)

pub returns-in-Build-clause-headline : goal.returns-in-Build-clause-headline
returns-in-Build-clause-headline g c =
    headline_of (λ (o : Order). c.args.order.now ≡ o) c.args.order.now _ (λ o is. is) c.build.ensures.begun c.build.ensures.ended

pub returns-in-Build-clause-beyond : goal.returns-in-Build-clause-beyond
returns-in-Build-clause-beyond g c =
    beyond_of (λ (o : Order). c.args.order.now ≡ o) c.args.order.now _ refl (λ o is. is) (subst IsBuild (sym c.in-Build.is) tt) c.build.ensures.begun
    (λ quiet. ap g.N.Sink.taken (c.build.ensures.no_notes quiet)) (λ off. ap g.K.Keeper.known (c.build.ensures.untouched off))
    (λ off. ap g.M.Keeper.known (c.build.ensures.no_graphs off)) c.build.ensures.ended

pub returns-in-Build-clause-unasked : goal.returns-in-Build-clause-unasked
returns-in-Build-clause-unasked g c other = absurd (other (subst IsBuild (sym c.in-Build.is) tt))

pub returns-in-Build-clause-unwritten : goal.returns-in-Build-clause-unwritten
returns-in-Build-clause-unwritten g c care = absurd (build_no_care c.args.order.now (subst IsBuild (sym c.in-Build.is) tt) care)

pub returns-in-Build-clause-untold : goal.returns-in-Build-clause-untold
returns-in-Build-clause-untold g c seed pips is =
    absurd (build_no_other c.args.order.now (Gen seed pips) (λ b. b) (subst IsBuild (sym c.in-Build.is) tt) is)

-- ## A check

pub returns-in-Check-clause-begun : goal.returns-in-Check-clause-begun
returns-in-Check-clause-begun g c none = absurd (cared_no_command c.check.result c.check.ensures.checked.one_of none)

pub returns-in-Check-clause-headline : goal.returns-in-Check-clause-headline
returns-in-Check-clause-headline g c =
    no_headline (λ (o : Order). c.args.order.now ≡ o) Check _ (λ o is. sym c.in-Check.is ∙ is) (λ b. b)

pub returns-in-Check-clause-beyond : goal.returns-in-Check-clause-beyond
returns-in-Check-clause-beyond g c =
    let source : Given =
    given_of (g.S.Source.given c.args.source.now) (g.S.Source.given c.args.source.now) (g.S.Source.left c.args.source.now) (g.S.Source.left c.args.source.now)
    (g.S.Source.ended c.args.source.now) (g.S.Source.faults c.args.source.now) (g.S.Source.faults c.args.source.now) in
    let call : Call =
    graph_call_of c.check.result source
    (written_of (g.O.Sink.taken c.args.out.now) (g.O.Sink.taken c.args.out.now) (g.O.Sink.faults c.args.out.now) (g.O.Sink.faults c.args.out.now))
    (written_of (g.N.Sink.taken c.args.notes.now) (g.N.Sink.taken c.check.new.notes) (g.N.Sink.faults c.args.notes.now) (g.N.Sink.faults c.check.new.notes))
    (change_of (g.K.Keeper.known c.args.keeper.now) (g.K.Keeper.known c.check.new.keeper) (g.K.Keeper.bound c.args.keeper.now) (g.K.Keeper.faults c.args.keeper.now)
    (g.K.Keeper.faults c.check.new.keeper))
    (change_of (g.M.Keeper.known c.args.graphs.now) (g.M.Keeper.known c.args.graphs.now) (g.M.Keeper.bound c.args.graphs.now) (g.M.Keeper.faults c.args.graphs.now)
    (g.M.Keeper.faults c.args.graphs.now)) in
    beyond_check (λ (o : Order). c.args.order.now ≡ o) call c.in-Check.is (λ o is. sym c.in-Check.is ∙ is) c.check.ensures.checked
    (record { unasked = refl; unwritten = refl; no_graphs = refl })
    (cared call c.check.ensures.checked.one_of c.check.ensures.checked.blames (gives_none source refl refl) refl refl refl
    (λ quiet. ap g.N.Sink.taken (c.check.ensures.no_notes quiet)))

pub returns-in-Check-clause-kept : goal.returns-in-Check-clause-kept
returns-in-Check-clause-kept g c none = absurd (cared_begun c.check.result c.check.ensures.checked.one_of none)

pub returns-in-Check-clause-untouched : goal.returns-in-Check-clause-untouched
returns-in-Check-clause-untouched g c off = absurd (true≢false (sym (ap uses_store c.in-Check.is) ∙ off))

pub returns-in-Check-clause-untold : goal.returns-in-Check-clause-untold
returns-in-Check-clause-untold g c seed pips is = let same : Check ≡ Gen seed pips = sym c.in-Check.is ∙ is in absurd cc

-- ## A repair

pub returns-in-Repair-clause-begun : goal.returns-in-Repair-clause-begun
returns-in-Repair-clause-begun g c none = absurd (cared_no_command c.repair.result (done_gone c.repair.result c.repair.ensures.repaired.one_of) none)

pub returns-in-Repair-clause-headline : goal.returns-in-Repair-clause-headline
returns-in-Repair-clause-headline g c =
    no_headline (λ (o : Order). c.args.order.now ≡ o) Repair _ (λ o is. sym c.in-Repair.is ∙ is) (λ b. b)

pub returns-in-Repair-clause-beyond : goal.returns-in-Repair-clause-beyond
returns-in-Repair-clause-beyond g c =
    let source : Given =
    given_of (g.S.Source.given c.args.source.now) (g.S.Source.given c.args.source.now) (g.S.Source.left c.args.source.now) (g.S.Source.left c.args.source.now)
    (g.S.Source.ended c.args.source.now) (g.S.Source.faults c.args.source.now) (g.S.Source.faults c.args.source.now) in
    let call : Call =
    graph_call_of c.repair.result source
    (written_of (g.O.Sink.taken c.args.out.now) (g.O.Sink.taken c.args.out.now) (g.O.Sink.faults c.args.out.now) (g.O.Sink.faults c.args.out.now))
    (written_of (g.N.Sink.taken c.args.notes.now) (g.N.Sink.taken c.repair.new.notes) (g.N.Sink.faults c.args.notes.now) (g.N.Sink.faults c.repair.new.notes))
    (change_of (g.K.Keeper.known c.args.keeper.now) (g.K.Keeper.known c.repair.new.keeper) (g.K.Keeper.bound c.args.keeper.now) (g.K.Keeper.faults c.args.keeper.now)
    (g.K.Keeper.faults c.repair.new.keeper))
    (change_of (g.M.Keeper.known c.args.graphs.now) (g.M.Keeper.known c.args.graphs.now) (g.M.Keeper.bound c.args.graphs.now) (g.M.Keeper.faults c.args.graphs.now)
    (g.M.Keeper.faults c.args.graphs.now)) in
    beyond_repair (λ (o : Order). c.args.order.now ≡ o) call c.in-Repair.is (λ o is. sym c.in-Repair.is ∙ is) c.repair.ensures.repaired
    (record { unasked = refl; unwritten = refl; no_graphs = refl })
    (cared call (done_gone c.repair.result c.repair.ensures.repaired.one_of) c.repair.ensures.repaired.blames (gives_none source refl refl) refl refl refl
    (λ quiet. ap g.N.Sink.taken (c.repair.ensures.no_notes quiet)))

pub returns-in-Repair-clause-kept : goal.returns-in-Repair-clause-kept
returns-in-Repair-clause-kept g c none = absurd (cared_begun c.repair.result (done_gone c.repair.result c.repair.ensures.repaired.one_of) none)

pub returns-in-Repair-clause-untouched : goal.returns-in-Repair-clause-untouched
returns-in-Repair-clause-untouched g c off = absurd (true≢false (sym (ap uses_store c.in-Repair.is) ∙ off))

pub returns-in-Repair-clause-untold : goal.returns-in-Repair-clause-untold
returns-in-Repair-clause-untold g c seed pips is = let same : Repair ≡ Gen seed pips = sym c.in-Repair.is ∙ is in absurd cc

-- ## A trim

pub returns-in-Trim-clause-begun : goal.returns-in-Trim-clause-begun
returns-in-Trim-clause-begun g c none = absurd (cared_no_command c.trim.result (done_gone c.trim.result c.trim.ensures.trimmed.one_of) none)

pub returns-in-Trim-clause-headline : goal.returns-in-Trim-clause-headline
returns-in-Trim-clause-headline g c =
    no_headline (λ (o : Order). c.args.order.now ≡ o) (Trim c.in-Trim.keep) _ (λ o is. sym c.in-Trim.is ∙ is) (λ b. b)

pub returns-in-Trim-clause-beyond : goal.returns-in-Trim-clause-beyond
returns-in-Trim-clause-beyond g c =
    let source : Given =
    given_of (g.S.Source.given c.args.source.now) (g.S.Source.given c.args.source.now) (g.S.Source.left c.args.source.now) (g.S.Source.left c.args.source.now)
    (g.S.Source.ended c.args.source.now) (g.S.Source.faults c.args.source.now) (g.S.Source.faults c.args.source.now) in
    let call : Call =
    graph_call_of c.trim.result source
    (written_of (g.O.Sink.taken c.args.out.now) (g.O.Sink.taken c.args.out.now) (g.O.Sink.faults c.args.out.now) (g.O.Sink.faults c.args.out.now))
    (written_of (g.N.Sink.taken c.args.notes.now) (g.N.Sink.taken c.trim.new.notes) (g.N.Sink.faults c.args.notes.now) (g.N.Sink.faults c.trim.new.notes))
    (change_of (g.K.Keeper.known c.args.keeper.now) (g.K.Keeper.known c.trim.new.keeper) (g.K.Keeper.bound c.args.keeper.now) (g.K.Keeper.faults c.args.keeper.now)
    (g.K.Keeper.faults c.trim.new.keeper))
    (change_of (g.M.Keeper.known c.args.graphs.now) (g.M.Keeper.known c.args.graphs.now) (g.M.Keeper.bound c.args.graphs.now) (g.M.Keeper.faults c.args.graphs.now)
    (g.M.Keeper.faults c.args.graphs.now)) in
    beyond_trim (λ (o : Order). c.args.order.now ≡ o) c.in-Trim.keep call c.in-Trim.is (λ o is. sym c.in-Trim.is ∙ is) c.trim.ensures.trimmed
    (record { unasked = refl; unwritten = refl; no_graphs = refl })
    (cared call (done_gone c.trim.result c.trim.ensures.trimmed.one_of) c.trim.ensures.trimmed.blames (gives_none source refl refl) refl refl refl
    (λ quiet. ap g.N.Sink.taken (c.trim.ensures.no_notes quiet)))

pub returns-in-Trim-clause-kept : goal.returns-in-Trim-clause-kept
returns-in-Trim-clause-kept g c none = absurd (cared_begun c.trim.result (done_gone c.trim.result c.trim.ensures.trimmed.one_of) none)

pub returns-in-Trim-clause-untouched : goal.returns-in-Trim-clause-untouched
returns-in-Trim-clause-untouched g c off = absurd (true≢false (sym (ap uses_store c.in-Trim.is) ∙ off))

pub returns-in-Trim-clause-untold : goal.returns-in-Trim-clause-untold
returns-in-Trim-clause-untold g c seed pips is = let same : Trim c.in-Trim.keep ≡ Gen seed pips = sym c.in-Trim.is ∙ is in absurd cc

-- ## A workload

pub returns-in-Gen-clause-begun : goal.returns-in-Gen-clause-begun
returns-in-Gen-clause-begun g c none = absurd (worked_no_command c.write_workload.result c.write_workload.ensures.written.one_of none)

pub returns-in-Gen-clause-headline : goal.returns-in-Gen-clause-headline
returns-in-Gen-clause-headline g c =
    no_headline (λ (o : Order). c.args.order.now ≡ o) (Gen c.in-Gen.seed c.in-Gen.pips) _ (λ o is. sym c.in-Gen.is ∙ is) (λ b. b)

pub returns-in-Gen-clause-beyond : goal.returns-in-Gen-clause-beyond
returns-in-Gen-clause-beyond g c =
    let source : Given =
    given_of (g.S.Source.given c.args.source.now) (g.S.Source.given c.args.source.now) (g.S.Source.left c.args.source.now) (g.S.Source.left c.args.source.now)
    (g.S.Source.ended c.args.source.now) (g.S.Source.faults c.args.source.now) (g.S.Source.faults c.args.source.now) in
    let call : Call =
    graph_call_of c.write_workload.result source
    (written_of (g.O.Sink.taken c.args.out.now) (g.O.Sink.taken c.write_workload.new.out) (g.O.Sink.faults c.args.out.now) (g.O.Sink.faults c.write_workload.new.out))
    (written_of (g.N.Sink.taken c.args.notes.now) (g.N.Sink.taken c.args.notes.now) (g.N.Sink.faults c.args.notes.now) (g.N.Sink.faults c.args.notes.now))
    (change_of (g.K.Keeper.known c.args.keeper.now) (g.K.Keeper.known c.args.keeper.now) (g.K.Keeper.bound c.args.keeper.now) (g.K.Keeper.faults c.args.keeper.now)
    (g.K.Keeper.faults c.args.keeper.now))
    (change_of (g.M.Keeper.known c.args.graphs.now) (g.M.Keeper.known c.args.graphs.now) (g.M.Keeper.bound c.args.graphs.now) (g.M.Keeper.faults c.args.graphs.now)
    (g.M.Keeper.faults c.args.graphs.now)) in
    beyond_gen (λ (o : Order). c.args.order.now ≡ o) c.in-Gen.seed c.in-Gen.pips call c.in-Gen.is (λ o is. sym c.in-Gen.is ∙ is)
    (record { writes = c.write_workload.ensures.written; unasked = refl; untold = refl; unkept = refl; no_graphs = refl })
    (worked call c.write_workload.ensures.written.one_of (gives_none source refl refl) refl
    (λ memory. ap g.O.Sink.taken (c.write_workload.ensures.silent memory)) c.write_workload.ensures.cause c.write_workload.ensures.no_fault refl refl)

pub returns-in-Gen-clause-silent : goal.returns-in-Gen-clause-silent
returns-in-Gen-clause-silent g c silent = c.write_workload.ensures.silent (silent_memory c.write_workload.result c.write_workload.ensures.written.one_of silent)

pub returns-in-Gen-clause-unwritten : goal.returns-in-Gen-clause-unwritten
returns-in-Gen-clause-unwritten g c care = absurd (subst IsCare c.in-Gen.is care)
