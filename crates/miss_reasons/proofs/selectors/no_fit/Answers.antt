use Rattle.std.proofs.Common.{List, Option, subst}
use Rattle.observed.specs.declared.ask.Ask.{Ask}
use Rattle.two_phase_meaning.specs.Contents.{HoldsPaths}
use Rattle.two_phase.specs.Finding.{FindsOne}
use Rattle.miss_reasons.proofs.selectors.no_fit.Goals as goal

pub asked_now-requires-clause-paths : goal.asked_now-requires-clause-paths
asked_now-requires-clause-paths g c = λ κs live.
    subst (λ (o : Option (List Ask)). FindsOne (g.R.KeepReader.held c.path_set.new.reader) (λ S a. HoldsPaths S c.args.selector.now.paths a) o) c.in-Some.is c.in_ok-paths.ensures.found

pub asked_now-requires-clause-unusable : goal.asked_now-requires-clause-unusable
asked_now-requires-clause-unusable g c = λ κs live S told u. c.requires.unusable S (c.in_ok-paths.ensures.reader.held_is S told) u

pub returns-in-None-clause-fit : goal.returns-in-None-clause-fit
returns-in-None-clause-fit g c =
    subst (λ (o : Option (List Ask)). FindsOne (g.R.KeepReader.held c.path_set.new.reader) (λ S a. HoldsPaths S c.args.selector.now.paths a) o) c.in-None.is c.in_ok-paths.ensures.found
