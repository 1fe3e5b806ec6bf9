use Rattle.std.proofs.Common.{◌≡◌, IfOk, Some, refl, subst}
use Rattle.std.specs.Prelude.{is_some}
use Rattle.bx_io.specs.Holdings.{Holdings}
use Rattle.observed.specs.declared.ask.Ask.{Ask}
use Rattle.observed.specs.declared.access.Answer.{Answer}
use Rattle.two_phase_meaning.specs.Usable.{Usable}
use Rattle.two_phase.proofs.Kept.{hit_leads}
use Rattle.two_phase.proofs.Used.{ok_no_err, reads_as, reads_then}
use Rattle.retire.specs.Over as over
use Rattle.retire.specs.Over.{TakesOver, no_slot}
use Rattle.build_misses.specs.Going.{outcome_in, reason_in}
use Rattle.build_misses.specs.Reasoned as reasoned
use Rattle.build_misses.specs.Reasoned.{WhyAt}
use Rattle.build_misses.specs.declared.taking.Taken.{Taken}
use Rattle.build_misses.proofs.taking.take.Goals as goal

pub returns-in-Hit-clause-taken : goal.returns-in-Hit-clause-taken
returns-in-Hit-clause-taken g c = λ S told. over.hit c.in-Hit.found (λ no_run. no_run)
    (hit_leads S c.args.desc (g.V.View.answers c.args.view.now) c.in-Hit.found (c.in-Hit.ensures.answer S told)) c.in-Hit.ensures.now.0 refl refl

pub returns-in-Hit-clause-reason : goal.returns-in-Hit-clause-reason
returns-in-Hit-clause-reason g c = λ S told. reasoned.untold refl

pub returns-in-Hit-clause-reader : goal.returns-in-Hit-clause-reader
returns-in-Hit-clause-reader g c = reads_as _ _ _ _ _ _ _ _ (λ b. absurd (ok_no_err _ _ b)) (λ a. cc) c.in-Hit.ensures.reader

pub missed-requires-clause-unusable : goal.missed-requires-clause-unusable
missed-requires-clause-unusable g c = λ κs live S told u.
    c.in-Miss.ensures.answer S told (subst (λ (v : Ask → Answer). Usable S c.args.desc v) c.in-Miss.ensures.same u)

pub returns-in-Miss-clause-taken : goal.returns-in-Miss-clause-taken
returns-in-Miss-clause-taken g c =
    subst
    (λ (v : Ask → Answer). IfOk c.missed.result (λ (t : Taken). (S : Holdings) → g.R.KeepReader.held c.missed.new.reader ≡ Some S → TakesOver S c.args.desc v no_slot (outcome_in t) (is_some (reason_in t))))
    c.in-Miss.ensures.same c.missed.ensures.taken

pub returns-in-Miss-clause-reason : goal.returns-in-Miss-clause-reason
returns-in-Miss-clause-reason g c =
    subst (λ (v : Ask → Answer). IfOk c.missed.result (λ (t : Taken). (S : Holdings) → g.R.KeepReader.held c.missed.new.reader ≡ Some S → WhyAt S c.args.desc v (reason_in t)))
    c.in-Miss.ensures.same c.missed.ensures.reason

pub returns-in-Miss-clause-reader : goal.returns-in-Miss-clause-reader
returns-in-Miss-clause-reader g c = reads_then _ _ _ _ _ _ _ _ _ _ _ (λ e. cc) c.in-Miss.ensures.reader c.missed.ensures.reader
