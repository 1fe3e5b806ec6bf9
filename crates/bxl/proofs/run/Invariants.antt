use Rattle.bxl.proofs.run.Given as goal

abbrev pub ghost-new : goal.ghost-new
ghost-new g a = g.first.0

abbrev pub ghost-keeper : goal.ghost-keeper
ghost-keeper g a = g.first.1

abbrev pub ghost-graph_keeper : goal.ghost-graph_keeper
ghost-graph_keeper g a = g.first.2
