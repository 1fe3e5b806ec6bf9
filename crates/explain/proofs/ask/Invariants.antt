use Rattle.explain.proofs.ask.Given as goal

abbrev pub ghost-keeper : goal.ghost-keeper
ghost-keeper g a = g.first
