use Rattle.bx_io.proofs.Changes.{keeps_all}
use Rattle.retire.proofs.retiring.save_if.Goals as goal

pub returns-then-not-cached-clause-first : goal.returns-then-not-cached-clause-first
returns-then-not-cached-clause-first g c = record { number = 0; each = keeps_all (g.K.Keeper.known c.args.keeper.now) }

pub returns-clause-all : goal.returns-clause-all
returns-clause-all g c = λ used. c.save_all.ensures.all
