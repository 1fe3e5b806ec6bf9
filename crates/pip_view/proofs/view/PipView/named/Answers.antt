use Rattle.std.proofs.Common.{◌≡◌, ◌<◌, ℕ, List, Option, IfOk, length, subst, sym, ◌∙◌}
use Rattle.std.proofs.lemmas.Result.{IfOk-weaker}
use Rattle.pip_view.specs.Seen.{ViewData}
use Rattle.pip_view.proofs.Seeing.{named_first, named_member}
use Rattle.pip_view.proofs.view.PipView.named.Goals as goal

pub returns-in-Some-clause-found : goal.returns-in-Some-clause-found
returns-in-Some-clause-found c = named_first c.args.self.now c.args.path.now c.in-Some.blob (sym c.in-Some.is ∙ c.in_ok-taken.ensures)

pub returns-in-Some-clause-there : goal.returns-in-Some-clause-there
returns-in-Some-clause-there c = subst (λ (v : ViewData). v.pip < length v.pips) c.self.view_is c.self.invariant.there

pub returns-in-None-clause-found : goal.returns-in-None-clause-found
returns-in-None-clause-found c =
    subst (λ (o : Option (List ℕ)). IfOk c.member.result (λ found. found ≡ o))
    (named_member c.args.self.now c.args.path.now (sym c.in-None.is ∙ c.in_ok-taken.ensures)) c.member.ensures

pub returns-in-None-clause-there : goal.returns-in-None-clause-there
returns-in-None-clause-there c =
    IfOk-weaker c.member.result _ _ (λ found e. subst (λ (v : ViewData). v.pip < length v.pips) c.self.view_is c.self.invariant.there)
    c.member.ensures
