use Rattle.std.proofs.Common.{Option, Some, subst}
use Rattle.std.proofs.lemmas.Bool.{both_ways}
use Rattle.prints.specs.declared.strong_parts.StrongParts.{StrongParts}
use Rattle.two_phase_meaning.specs.Contents.{HoldsStrong}
use Rattle.two_phase.specs.Finding.{FindsOne}
use Rattle.cache_care_check.proofs.FoundTexts.{no_strong, strong_added, strong_left}
use Rattle.cache_care_check.proofs.texts.with_strong.Goals as goal

pub returns-then-not-is_strong_of-clause-found : goal.returns-then-not-is_strong_of-clause-found
returns-then-not-is_strong_of-clause-found g c =
    strong_left (g.K.Keeper.known c.strong_of.new.keeper).held c.args.entry.now c.args.weak c.args.paths c.in-Some.parts
    (subst (λ (o : Option StrongParts). FindsOne (g.K.Keeper.known c.strong_of.new.keeper).held (λ S q. HoldsStrong S c.args.entry.now.strong q) o) c.in-Some.is c.in_ok-parts.ensures.found)
    (λ of. both_ways c.is_strong_of.result c.if-not-is_strong_of.true (c.is_strong_of.ensures.1 of))

pub returns-else-not-is_strong_of-clause-found : goal.returns-else-not-is_strong_of-clause-found
returns-else-not-is_strong_of-clause-found g c =
    strong_added (g.K.Keeper.known c.strong_of.new.keeper).held c.args.entry.now c.args.weak c.args.paths c.in-Some.parts
    (subst (λ (o : Option StrongParts). FindsOne (g.K.Keeper.known c.strong_of.new.keeper).held (λ S q. HoldsStrong S c.args.entry.now.strong q) o) c.in-Some.is c.in_ok-parts.ensures.found)
    (c.is_strong_of.ensures.0 c.if-not-is_strong_of.false)

pub returns-in-None-clause-found : goal.returns-in-None-clause-found
returns-in-None-clause-found g c =
    no_strong (g.K.Keeper.known c.strong_of.new.keeper).held c.args.entry.now c.args.weak c.args.paths
    (subst (λ (o : Option StrongParts). FindsOne (g.K.Keeper.known c.strong_of.new.keeper).held (λ S q. HoldsStrong S c.args.entry.now.strong q) o) c.in-None.is c.in_ok-parts.ensures.found)
