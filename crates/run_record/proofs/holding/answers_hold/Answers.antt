use Rattle.std.proofs.Common.{◌≡◌, false, true, ap, sym, ◌∙◌, arith}
use Rattle.std.proofs.lemmas.Bool.{false≢true}
use Rattle.observed.specs.declared.ask.Ask.{Ask}
use Rattle.observed.specs.declared.access.Answer.{Answer}
use Rattle.run_record.proofs.SameAnswers.{another, one_more}
use Rattle.run_record.proofs.holding.answers_hold.Goals as goal

pub returns-then-not-is_same_answer-clause-hold : goal.returns-then-not-is_same_answer-clause-hold
returns-then-not-is_same_answer-clause-hold g c =
    let see = g.V.View.answers c.args.view.now in
    let ask = c.index-asks-index.result in (
      λ (yes : false ≡ true). absurd cc,
      λ same. absurd (another see c.args.stored.now c.args.asks.now c.asks.index c.index-stored-index.result c.in_ok-answer.answer ask
          c.asks-test.true c.index-stored-index.is c.index-asks-index.is
          (c.in_ok-answer.ensures.answer ∙ ap (λ (f : Ask → Answer). f ask) c.asks.invariant.meaning)
          (λ e. false≢true (sym c.if-not-is_same_answer.true ∙ c.is_same_answer.ensures.1 e)) same),
    )

pub asks-preserved : goal.asks-preserved
asks-preserved g c =
    let see = g.V.View.answers c.args.view.now in
    let ask = c.index-asks-index.result in
    record {
      agree =
          one_more see c.args.stored.now c.args.asks.now c.asks.index c.index-stored-index.result c.in_ok-answer.answer ask
          (omega arith) c.asks-test.true c.index-stored-index.is c.index-asks-index.is c.asks.invariant.agree
          (c.in_ok-answer.ensures.answer ∙ ap (λ (f : Ask → Answer). f ask) c.asks.invariant.meaning)
          (c.is_same_answer.ensures.0 c.if-not-is_same_answer.false);
      meaning = c.in_ok-answer.ensures.same ∙ c.asks.invariant.meaning;
    }
