use Rattle.std.proofs.Common.{Option, subst}
use Rattle.observed.specs.declared.access.Answer.{Answer}
use Rattle.two_phase.specs.Finding.{FindsOne}
use Rattle.cache_care_check.proofs.Described.{IsAnswerOf, one_unanswered}
use Rattle.cache_care_check.proofs.describing.answers_of.Goals as goal

pub returns-in-None-clause-found : goal.returns-in-None-clause-found
returns-in-None-clause-found g c =
    one_unanswered (g.K.Keeper.known c.answer_of.new.keeper).held c.args.lines.now c.lines.line-index c.line-item.result c.lines-test.true c.line-item.is
    (subst (λ (o : Option Answer). FindsOne (g.K.Keeper.known c.answer_of.new.keeper).held (λ S x. IsAnswerOf S c.line-item.result x) o) c.in-None.is
    c.in_ok-answer.ensures.found)
