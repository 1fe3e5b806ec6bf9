use Rattle.bx_io.proofs.Changes.{keeps_all}
use Rattle.two_phase.proofs.Prefixes.{nothing_put}
use Rattle.two_phase.proofs.saving.keep.Goals as goal

pub returns-in-Err-clause-first : goal.returns-in-Err-clause-first
returns-in-Err-clause-first g c =
    nothing_put (g.K.Keeper.known c.args.keeper.now) (g.K.Keeper.known c.args.keeper.now) c.args.ran.now (keeps_all (g.K.Keeper.known c.args.keeper.now))

pub keep_with-requires-clause-text : goal.keep_with-requires-clause-text
keep_with-requires-clause-text g c = λ κs live. c.in-Ok.ensures.text

pub keep_with-requires-clause-digest : goal.keep_with-requires-clause-digest
keep_with-requires-clause-digest g c = λ κs live. c.in-Ok.ensures.digest
