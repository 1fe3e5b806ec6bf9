use Rattle.std.proofs.Common.{map}
use Rattle.std.specs.Prelude.{string_bytes}
use Rattle.bx_engine.specs.Beyond.{GoesBeyond}
use Rattle.bx_engine.specs.Headline.{KeepsHeadline}
use Rattle.bx_engine_words.specs.Words.{Orders, OrdersBuild}
use Rattle.bxl.proofs.Begun.{begun}
use Rattle.bxl.proofs.run.Goals as goal

pub returns-clause-headline : goal.returns-clause-headline
returns-clause-headline g c =
    begun (KeepsHeadline (OrdersBuild (map string_bytes c.args.words.now))) c.command_graphs-status.result _ _ _ _ _ _ _ _ _ _ _ _ _ _ _ _ _ _ _ _ _ _ _ _ _ g.first.0 g.first.1 g.first.2
    c.new-source.ensures.given c.new-source.ensures.left c.new-source.ensures.faults c.new-out.ensures.taken c.new-out.ensures.faults
    c.new-notes.ensures.taken c.new-notes.ensures.faults c.in_ok-results.ensures.known c.in_ok-results.ensures.faults
    c.in_ok-graphs.ensures.known c.in_ok-graphs.ensures.faults c.command_graphs-status.ensures.headline

pub returns-clause-beyond : goal.returns-clause-beyond
returns-clause-beyond g c =
    begun (GoesBeyond (Orders (map string_bytes c.args.words.now))) c.command_graphs-status.result _ _ _ _ _ _ _ _ _ _ _ _ _ _ _ _ _ _ _ _ _ _ _ _ _ g.first.0 g.first.1 g.first.2
    c.new-source.ensures.given c.new-source.ensures.left c.new-source.ensures.faults c.new-out.ensures.taken c.new-out.ensures.faults
    c.new-notes.ensures.taken c.new-notes.ensures.faults c.in_ok-results.ensures.known c.in_ok-results.ensures.faults
    c.in_ok-graphs.ensures.known c.in_ok-graphs.ensures.faults c.command_graphs-status.ensures.beyond
