use Rattle.std.proofs.Common.{subst, sym, ◌∙◌}
use Rattle.bx_io.proofs.Changes.{keeps_all}
use Rattle.run_record.specs.Facts.{Facts}
use Rattle.two_phase.specs.Putting.{PutsAll, PutsUpTo}
use Rattle.two_phase.proofs.Prefixes.{nothing_put}
use Rattle.two_phase_meaning.specs.Saving.{IsGood}
use Rattle.retire.proofs.Decisions.{weak_there}
use Rattle.retire.proofs.savable.Savable.save.Goals as goal

pub keep-requires-clause-good : goal.keep-requires-clause-good
keep-requires-clause-good g c = λ κs live. subst IsGood (sym c.self.view_is) c.requires.good

pub returns-in_default-clause-saved : goal.returns-in_default-clause-saved
returns-in_default-clause-saved g c =
    λ saved. subst (λ (f : Facts). PutsAll (g.K.Keeper.known c.args.keeper.now) (g.K.Keeper.known c.keep.new.keeper) f) c.self.view_is (c.keep.ensures.saved saved)

pub returns-in_default-clause-first : goal.returns-in_default-clause-first
returns-in_default-clause-first g c =
    subst (λ (f : Facts). PutsUpTo (g.K.Keeper.known c.args.keeper.now) (g.K.Keeper.known c.keep.new.keeper) f) c.self.view_is c.keep.ensures.first

pub keep_with-requires-clause-good : goal.keep_with-requires-clause-good
keep_with-requires-clause-good g c = λ κs live. subst IsGood (sym c.self.view_is) c.requires.good

pub keep_with-requires-clause-text : goal.keep_with-requires-clause-text
keep_with-requires-clause-text g c = λ κs live.
    c.in-Ok.ensures.text ∙ (weak_there c.self.inside.ran.desc c.self.inside.weak c.in-Some.weak c.in-Some.is c.self.invariant).text

pub keep_with-requires-clause-digest : goal.keep_with-requires-clause-digest
keep_with-requires-clause-digest g c = λ κs live.
    c.in-Ok.ensures.digest ∙ (weak_there c.self.inside.ran.desc c.self.inside.weak c.in-Some.weak c.in-Some.is c.self.invariant).digest

pub returns-in-Ok-clause-saved : goal.returns-in-Ok-clause-saved
returns-in-Ok-clause-saved g c =
    λ saved.
    subst (λ (f : Facts). PutsAll (g.K.Keeper.known c.args.keeper.now) (g.K.Keeper.known c.keep_with.new.keeper) f) c.self.view_is (c.keep_with.ensures.saved saved)

pub returns-in-Ok-clause-first : goal.returns-in-Ok-clause-first
returns-in-Ok-clause-first g c =
    subst (λ (f : Facts). PutsUpTo (g.K.Keeper.known c.args.keeper.now) (g.K.Keeper.known c.keep_with.new.keeper) f) c.self.view_is c.keep_with.ensures.first

pub returns-in-Err-clause-first : goal.returns-in-Err-clause-first
returns-in-Err-clause-first g c =
    nothing_put (g.K.Keeper.known c.args.keeper.now) (g.K.Keeper.known c.args.keeper.now) c.args.self.now (keeps_all (g.K.Keeper.known c.args.keeper.now))
