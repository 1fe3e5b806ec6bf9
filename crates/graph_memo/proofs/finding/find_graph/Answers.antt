use Rattle.graph_memo.proofs.Usable.{fault_graph, hit_graph, memory_graph, miss_graph}
use Rattle.graph_memo.proofs.finding.find_graph.Goals as goal

pub returns-in-Ok-Some-clause-answer : goal.returns-in-Ok-Some-clause-answer
returns-in-Ok-Some-clause-answer g c =
    hit_graph (g.R.KeepReader.held c.usable_entry.new.reader) c.args.work.now c.args.tree.now c.args.budget c.in-Ok-Some.entry
    (rw c.in-Ok-Some.field-0-is at c.in-Ok-Some.ensures.found)

pub returns-in-Ok-None-clause-answer : goal.returns-in-Ok-None-clause-answer
returns-in-Ok-None-clause-answer g c =
    miss_graph (g.R.KeepReader.held c.usable_entry.new.reader) c.args.work.now c.args.tree.now c.args.budget
    (rw c.in-Ok-None.field-0-is at c.in-Ok-None.ensures.found)

pub returns-in-Err-Fault-clause-answer : goal.returns-in-Err-Fault-clause-answer
returns-in-Err-Fault-clause-answer g c = fault_graph (g.R.KeepReader.held c.usable_entry.new.reader) c.args.work.now c.args.tree.now c.args.budget

pub returns-in-Err-Memory-clause-answer : goal.returns-in-Err-Memory-clause-answer
returns-in-Err-Memory-clause-answer g c = memory_graph (g.R.KeepReader.held c.usable_entry.new.reader) c.args.work.now c.args.tree.now c.args.budget
