use Rattle.bxl.proofs.keeper.Given as goal

abbrev pub ghost-new : goal.ghost-new
ghost-new g a = g.held
