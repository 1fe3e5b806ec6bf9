use Rattle.std.proofs.Common.{◌≡◌, ℕ, List, IfOk, Option, if◌then◌else◌, subst}
use Rattle.tool_run_writes.specs.Writes.{has_below}
use Rattle.pip_view.specs.Seen.{ViewData, answer_by_source, answer_elsewhere, is_sealed_at, named_in}
use Rattle.pip_view.specs.Sees.{as_input, as_source}
use Rattle.pip_view.proofs.view.PipView.unnamed.Goals as goal

pub returns-in-Some-clause-answer : goal.returns-in-Some-clause-answer
returns-in-Some-clause-answer c =
    let ask = c.args.ask.now in
    let old = c.args.self.now in
    let below = has_below (named_in old) ask.path in
    let bytes = c.in-Some.blob.now in
    subst (λ (o : Option (List ℕ)). IfOk c.source.result (λ answer. answer ≡ answer_by_source old ask.kind ask.path below o)) c.in-Some.ensures.found
    (subst
    (λ (v : ViewData). IfOk c.source.result (λ answer. answer ≡ (if is_sealed_at v ask.path then as_input ask.kind bytes else as_source ask.kind)))
    c.in-Some.ensures.same c.source.ensures)

pub returns-in-None-clause-answer : goal.returns-in-None-clause-answer
returns-in-None-clause-answer c =
    let ask = c.args.ask.now in
    let old = c.args.self.now in
    let below = has_below (named_in old) ask.path in
    subst (λ (o : Option (List ℕ)). IfOk c.elsewhere.result (λ answer. answer ≡ answer_by_source old ask.kind ask.path below o)) c.in-None.ensures.found
    (subst
    (λ (v : ViewData). IfOk c.elsewhere.result (λ answer. answer ≡ answer_elsewhere v ask.path (has_below (named_in v) ask.path)))
    c.in-None.ensures.same c.elsewhere.ensures)
