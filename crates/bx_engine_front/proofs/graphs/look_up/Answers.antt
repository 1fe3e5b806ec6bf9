use Rattle.std.proofs.Common.{◌≡◌, ◌∙◌}
use Rattle.bx_io.specs.Holdings.{held_in}
use Rattle.dscript_program.specs.Workspaces.{modules_of}
use Rattle.graph_memo.specs.declared.finding.GraphFound.TheVariants as found_as
use Rattle.bx_engine_front.specs.Graphs.{work_in}
use Rattle.bx_engine_front.proofs.GraphPlans.{looked, never_fails}
use Rattle.bx_engine_front.proofs.graphs.look_up.Goals as goal

pub returns-clause-found : goal.returns-clause-found
returns-clause-found g c =
    looked (held_in (g.M.Keeper.known c.args.graphs.now)) (g.M.Reader.KeepReader.held c.in_ok-reader.reader)
    (g.M.Reader.KeepReader.held c.find_graph-found.new.reader) (held_in (g.M.Keeper.known c.close.new.self))
    (work_in c.args.limits.now c.args.tree.now (modules_of c.args.work.now)) c.find_graph-found.result c.in_ok-reader.ensures.held
    c.find_graph-found.ensures.reader.held_is c.close.ensures.reader c.find_graph-found.ensures.answer

pub returns-clause-cause : goal.returns-clause-cause
returns-clause-cause g c = λ failed none.
    let same : c.find_graph-found.result ≡ found_as.Fault = cc in
    never_fails (g.M.Reader.KeepReader.held c.in_ok-reader.reader) (g.M.Reader.KeepReader.held c.find_graph-found.new.reader)
    (g.M.Reader.KeepReader.bound c.in_ok-reader.reader) (g.M.Reader.KeepReader.bound c.find_graph-found.new.reader)
    (g.M.Reader.KeepReader.faults c.in_ok-reader.reader) (g.M.Reader.KeepReader.faults c.find_graph-found.new.reader)
    (c.find_graph-found.result ≡ found_as.Fault) c.find_graph-found.ensures.reader (c.in_ok-reader.ensures.bound ∙ none) c.in_ok-reader.ensures.faults same
