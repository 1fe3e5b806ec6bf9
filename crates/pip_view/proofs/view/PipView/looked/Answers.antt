use Rattle.std.proofs.Common.{◌≡◌, IfOk, refl, subst, sym, ◌∙◌}
use Rattle.observed.specs.declared.access.Answer.{Answer}
use Rattle.tool_run_writes.specs.Writes.{has_below}
use Rattle.pip_view.specs.Seen.{named_in}
use Rattle.pip_view.proofs.Seeing.{found_answers, unnamed_answers}
use Rattle.pip_view.proofs.view.PipView.looked.Goals as goal

pub returns-in-Some-clause-answer : goal.returns-in-Some-clause-answer
returns-in-Some-clause-answer c =
    subst (λ (a : Answer). IfOk c.as_input.result (λ answer. answer ≡ a))
    (found_answers c.args.self.now c.args.ask.now c.in-Some.blob c.in_ok-named.ensures.there c.requires
    (sym c.in-Some.is ∙ c.in_ok-named.ensures.found))
    c.as_input.ensures

pub returns-in-None-clause-answer : goal.returns-in-None-clause-answer
returns-in-None-clause-answer c =
    let v = c.args.self.now in
    let ask = c.args.ask.now in
    subst (λ (a : Answer). IfOk c.unnamed.result (λ answer. answer ≡ a))
    (unnamed_answers v ask (has_below (named_in v) ask.path) c.in_ok-named.ensures.there c.requires (sym c.in-None.is ∙ c.in_ok-named.ensures.found) refl)
    c.unnamed.ensures.answer
