use Rattle.std.proofs.Common.{List, Option, subst}
use Rattle.observed.specs.declared.ask.Ask.{Ask}
use Rattle.prints.specs.declared.weak_parts.WeakParts.{WeakParts}
use Rattle.two_phase_meaning.specs.Contents.{HoldsPaths, HoldsWeak}
use Rattle.two_phase.specs.Finding.{FindsOne}
use Rattle.cache_care_check.proofs.FoundTexts.{no_path_set, no_weak_text, texts_given}
use Rattle.cache_care_check.proofs.texts.texts_of.Goals as goal

pub returns-in-None-clause-found : goal.returns-in-None-clause-found
returns-in-None-clause-found g c =
    no_weak_text (g.K.Keeper.known c.weak_of.new.keeper).held c.args.entry.now
    (subst (λ (o : Option WeakParts). FindsOne (g.K.Keeper.known c.weak_of.new.keeper).held (λ S p. HoldsWeak S c.args.entry.now.weak p) o) c.in-None.is
    c.in_ok-weak.ensures.found)

pub returns-in-Some-2-clause-found : goal.returns-in-Some-2-clause-found
returns-in-Some-2-clause-found g c =
    texts_given (g.K.Keeper.known c.weak_of.new.keeper).held (g.K.Keeper.known c.paths_of.new.keeper).held (g.K.Keeper.known c.with_strong.new.keeper).held
    c.args.entry.now c.in-Some.weak c.in-Some-2.paths c.with_strong.result c.in_ok-paths.ensures.known.held c.with_strong.ensures.known.held
    (subst (λ (o : Option WeakParts). FindsOne (g.K.Keeper.known c.weak_of.new.keeper).held (λ S p. HoldsWeak S c.args.entry.now.weak p) o) c.in-Some.is
    c.in_ok-weak.ensures.found)
    (subst (λ (o : Option (List Ask)). FindsOne (g.K.Keeper.known c.paths_of.new.keeper).held (λ S p. HoldsPaths S c.args.entry.now.paths p) o)
    c.in-Some-2.is c.in_ok-paths.ensures.found)
    c.with_strong.ensures.found

pub returns-in-None-2-clause-found : goal.returns-in-None-2-clause-found
returns-in-None-2-clause-found g c =
    no_path_set (g.K.Keeper.known c.paths_of.new.keeper).held c.args.entry.now
    (subst (λ (o : Option (List Ask)). FindsOne (g.K.Keeper.known c.paths_of.new.keeper).held (λ S p. HoldsPaths S c.args.entry.now.paths p) o)
    c.in-None-2.is c.in_ok-paths.ensures.found)
