use Rattle.std.proofs.Common.{◌≡◌, ◌≢◌, List, ℕ, ap, ◌∙◌}
use Rattle.run_record.proofs.Differ.{is_other, is_same}
use Rattle.memo_format.specs.declared.entry.Entry.{Entry}
use Rattle.sched_board.proofs.Comparisons.{another_line, another_weak}
use Rattle.sched_board.proofs.comparing.unlike_hit.Goals as goal

pub returns-then-ne : goal.returns-then-ne
returns-then-ne g c =
    another_weak c.args.own.now (g.V.View.answers c.args.view.now) c.args.found.now c.entry.result.now.weak c.in_ok-weak.weak (ap (λ (e : Entry). e.weak) c.entry.ensures.entry)
    c.in_ok-weak.ensures.digest c.new.result (is_other c.entry.result.now.weak c.in_ok-weak.weak c.ne.result c.ne.ensures c.if-ne.true) c.new.ensures.index
    c.new.ensures.held c.new.ensures.own

pub returns-in-Some : goal.returns-in-Some
returns-in-Some g c =
    let at = c.in-Some.at in
    let made = c.new-in-Some.ensures in
    another_line c.args.own.now (g.V.View.answers c.args.view.now) c.args.found.now c.entry.result.now.weak c.in_ok-weak.weak (ap (λ (e : Entry). e.weak) c.entry.ensures.entry)
    c.in_ok-weak.ensures.digest c.new-in-Some.result c.answers.result.now c.asks.result.now c.in_ok-at.field-0 at
    (is_same c.entry.result.now.weak c.in_ok-weak.weak c.ne.result c.ne.ensures c.if-ne.false) c.answers.ensures.answers
    (c.asks.ensures.asks ∙ c.paths-paths.ensures.paths) c.in-Some.is c.in_ok-at.ensures.difference made.index made.held made.own
