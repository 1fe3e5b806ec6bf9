use Rattle.std.proofs.Common.{Option, subst}
use Rattle.memo_format.specs.PathsTexts.{PathsText}
use Rattle.two_phase_meaning.specs.Contents.{HoldsPaths}
use Rattle.two_phase.specs.Finding.{FindsOne}
use Rattle.two_phase.proofs.Fetched.{no_asks, set_asks}
use Rattle.two_phase.proofs.Tried.{leads_given, no_paths}
use Rattle.two_phase.proofs.lookups.follow.Goals as goal

pub returns-in-Some-clause-found : goal.returns-in-Some-clause-found
returns-in-Some-clause-found g c =
    leads_given (g.R.KeepReader.held c.path_set.new.reader) (g.R.KeepReader.held c.asked_now.new.reader) c.args.desc.now (g.V.View.answers c.args.view.now) c.args.selector.now c.in-Some.paths.asks c.asked_now.result
    c.asked_now.ensures.reader.held_is
    (set_asks (g.R.KeepReader.held c.path_set.new.reader) c.args.selector.now.paths c.in-Some.paths
    (subst (λ (o : Option PathsText). FindsOne (g.R.KeepReader.held c.path_set.new.reader) (λ S (p : PathsText). HoldsPaths S c.args.selector.now.paths p.asks) o) c.in-Some.is c.in_ok-paths.ensures.found))
    c.asked_now.ensures.found

pub returns-in-None-clause-found : goal.returns-in-None-clause-found
returns-in-None-clause-found g c =
    no_paths (g.R.KeepReader.held c.path_set.new.reader) c.args.desc.now (g.V.View.answers c.args.view.now) c.args.selector.now
    (no_asks (g.R.KeepReader.held c.path_set.new.reader) c.args.selector.now.paths
    (subst (λ (o : Option PathsText). FindsOne (g.R.KeepReader.held c.path_set.new.reader) (λ S (p : PathsText). HoldsPaths S c.args.selector.now.paths p.asks) o) c.in-None.is c.in_ok-paths.ensures.found))
