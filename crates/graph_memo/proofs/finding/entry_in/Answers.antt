use Rattle.std.proofs.Common.{sym, ◌∙◌, true≢false}
use Rattle.std.proofs.lemmas.Slice.Eq.{bytes_eq-Decides}
use Rattle.graph_memo.proofs.Usable.{other_graph}
use Rattle.graph_memo.proofs.finding.entry_in.Goals as goal

pub returns-then-eq-clause-checks : goal.returns-then-eq-clause-checks
returns-then-eq-clause-checks c = (
  c.in-Ok.ensures.0,
  c.in-Ok.ensures.1,
  (bytes_eq-Decides c.in-Ok.entry.key c.args.key.now).0 (sym c.eq.ensures ∙ c.if-eq.true),
)

pub returns-else-eq-clause-checks : goal.returns-else-eq-clause-checks
returns-else-eq-clause-checks c = λ e h is same.
    other_graph c.args.bytes.now c.args.key.now c.in-Ok.entry e c.in-Ok.ensures.0 c.in-Ok.ensures.1
    (λ k. true≢false (sym ((bytes_eq-Decides c.in-Ok.entry.key c.args.key.now).1 k) ∙ sym c.eq.ensures ∙ c.if-eq.false)) h is same

pub returns-in-Err-BadForm-clause-checks : goal.returns-in-Err-BadForm-clause-checks
returns-in-Err-BadForm-clause-checks c = λ e h is same. (rw c.in-Err-BadForm.field-0-is at c.in-Err-BadForm.ensures) e h is
