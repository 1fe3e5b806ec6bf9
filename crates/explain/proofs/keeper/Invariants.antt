use Rattle.explain.proofs.keeper.Given as goal

abbrev pub ghost-new : goal.ghost-new
ghost-new g a = g.held
