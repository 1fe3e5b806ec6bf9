use Rattle.std.proofs.Common.{ap, sym, ◌∙◌, arith}
use Rattle.observed.specs.declared.ask.Ask.{Ask}
use Rattle.observed.specs.declared.access.Answer.{Answer}
use Rattle.run_record.specs.Digests.{digest_asked, digest_of_line}
use Rattle.run_record.proofs.Differ.{first_differ, is_other, is_same, one_more}
use Rattle.run_record.proofs.matching.first_difference.Goals as goal

pub returns-then-ne-clause-difference : goal.returns-then-ne-clause-difference
returns-then-ne-clause-difference g c =
    let see = g.V.View.answers c.args.view.now in
    let ask = c.index-asks-index.result in
    first_differ digest_of_line (digest_asked see) c.args.stored.now c.args.asks.now c.asks.index c.index-stored-index.result ask c.in_ok-held.held c.in_ok-now.now
    (omega arith) c.asks-test.true c.index-stored-index.is c.index-asks-index.is c.asks.invariant.agree c.in_ok-held.ensures
    (c.in_ok-now.ensures.digest ∙ ap (λ (f : Ask → Answer). digest_asked f ask) c.asks.invariant.meaning)
    (is_other c.in_ok-held.held c.in_ok-now.now c.ne.result c.ne.ensures c.if-ne.true)

pub asks-preserved : goal.asks-preserved
asks-preserved g c =
    let see = g.V.View.answers c.args.view.now in
    let ask = c.index-asks-index.result in
    record {
      agree =
          one_more digest_of_line (digest_asked see) c.args.stored.now c.args.asks.now c.asks.index c.index-stored-index.result ask
          (omega arith) c.asks-test.true c.index-stored-index.is c.index-asks-index.is c.asks.invariant.agree
          (sym c.in_ok-held.ensures ∙ is_same c.in_ok-held.held c.in_ok-now.now c.ne.result c.ne.ensures c.if-ne.false
          ∙ c.in_ok-now.ensures.digest ∙ ap (λ (f : Ask → Answer). digest_asked f ask) c.asks.invariant.meaning);
      meaning = c.in_ok-now.ensures.meaning ∙ c.asks.invariant.meaning;
    }
