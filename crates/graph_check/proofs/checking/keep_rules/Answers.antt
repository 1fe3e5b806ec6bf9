use Rattle.std.proofs.Common.{arith}
use Rattle.graph_check.proofs.Answering.{all_hold, by_rank}
use Rattle.graph_check.proofs.checking.keep_rules.Goals as goal

pub keep_rule-requires-2-clause-earlier : goal.keep_rule-requires-2-clause-earlier
keep_rule-requires-2-clause-earlier c =
    by_rank c.args.pips.now c.args.sources.now 2 (λ l. c.in_ok-keep_rule.ensures) (λ l. absurd (omega (arith, l))) (λ l. absurd (omega (arith, l)))
    (λ l. absurd (omega (arith, l))) (λ l. absurd (omega (arith, l))) (λ l. absurd (omega (arith, l)))

pub keep_rule-requires-3-clause-earlier : goal.keep_rule-requires-3-clause-earlier
keep_rule-requires-3-clause-earlier c =
    by_rank c.args.pips.now c.args.sources.now 3 (λ l. c.in_ok-keep_rule.ensures) (λ l. c.in_ok-keep_rule-2.ensures) (λ l. absurd (omega (arith, l)))
    (λ l. absurd (omega (arith, l))) (λ l. absurd (omega (arith, l))) (λ l. absurd (omega (arith, l)))

pub keep_rule-requires-4-clause-earlier : goal.keep_rule-requires-4-clause-earlier
keep_rule-requires-4-clause-earlier c =
    by_rank c.args.pips.now c.args.sources.now 4 (λ l. c.in_ok-keep_rule.ensures) (λ l. c.in_ok-keep_rule-2.ensures) (λ l. c.in_ok-keep_rule-3.ensures)
    (λ l. absurd (omega (arith, l))) (λ l. absurd (omega (arith, l))) (λ l. absurd (omega (arith, l)))

pub keep_rule-requires-5-clause-earlier : goal.keep_rule-requires-5-clause-earlier
keep_rule-requires-5-clause-earlier c =
    by_rank c.args.pips.now c.args.sources.now 5 (λ l. c.in_ok-keep_rule.ensures) (λ l. c.in_ok-keep_rule-2.ensures) (λ l. c.in_ok-keep_rule-3.ensures)
    (λ l. c.in_ok-keep_rule-4.ensures) (λ l. absurd (omega (arith, l))) (λ l. absurd (omega (arith, l)))

pub keep_rule-requires-6-clause-earlier : goal.keep_rule-requires-6-clause-earlier
keep_rule-requires-6-clause-earlier c =
    by_rank c.args.pips.now c.args.sources.now 6 (λ l. c.in_ok-keep_rule.ensures) (λ l. c.in_ok-keep_rule-2.ensures) (λ l. c.in_ok-keep_rule-3.ensures)
    (λ l. c.in_ok-keep_rule-4.ensures) (λ l. c.in_ok-keep_rule-5.ensures) (λ l. absurd (omega (arith, l)))

pub returns : goal.returns
returns c =
    all_hold c.args.pips.now c.args.sources.now c.in_ok-keep_rule.ensures c.in_ok-keep_rule-2.ensures c.in_ok-keep_rule-3.ensures
    c.in_ok-keep_rule-4.ensures c.in_ok-keep_rule-5.ensures c.in_ok-keep_rule-6.ensures
