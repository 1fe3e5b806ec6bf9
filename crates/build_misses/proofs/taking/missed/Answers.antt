use Rattle.two_phase.proofs.Used.{reads_as}
use Rattle.build_misses.proofs.Decisions.{run_given, told_given}
use Rattle.build_misses.proofs.taking.missed.Goals as goal

pub returns-clause-taken : goal.returns-clause-taken
returns-clause-taken g c =
    run_given (g.R.KeepReader.held c.reason_of.new.reader) c.args.desc (g.V.View.answers c.reason_of.new.view) (g.V.View.answers c.args.view.now) c.in_ok-reason.reason c.run_for.result
    c.in_ok-reason.ensures.same (λ S told. c.requires.unusable S (c.in_ok-reason.ensures.reader.held_is S told)) c.run_for.ensures.outcome c.run_for.ensures.reason

pub returns-clause-reason : goal.returns-clause-reason
returns-clause-reason g c =
    told_given (g.R.KeepReader.held c.reason_of.new.reader) c.args.desc (g.V.View.answers c.args.view.now) c.in_ok-reason.reason c.run_for.result c.in_ok-reason.ensures.reason
    c.run_for.ensures.reason

pub returns-clause-reader : goal.returns-clause-reader
returns-clause-reader g c =
    reads_as _ _ _ _ _ _ _ _ (λ b. absurd (c.run_for.ensures.no_fault b)) (λ a. cc) c.in_ok-reason.ensures.reader
