use Rattle.bxl.proofs.graph_keeper.Given as goal

abbrev pub ghost-new : goal.ghost-new
ghost-new g a = g.held
