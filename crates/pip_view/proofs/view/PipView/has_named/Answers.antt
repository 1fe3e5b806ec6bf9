use Rattle.std.proofs.Common.{◌≡◌, Bool, false, IfOk, subst, sym, ◌∙◌}
use Rattle.pip_view.proofs.Seeing.{below_first, below_named}
use Rattle.pip_view.proofs.view.PipView.has_named.Goals as goal

pub returns-then-taken : goal.returns-then-taken
returns-then-taken c = below_first c.args.self.now c.args.path.now c.in_ok-taken.taken c.if-taken.true c.in_ok-taken.ensures

pub returns : goal.returns
returns c =
    subst (λ (t : Bool). IfOk c.has_member.result (λ yes. yes ≡ t))
    (below_named c.args.self.now c.args.path.now false (sym c.if-taken.false ∙ c.in_ok-taken.ensures))
    c.has_member.ensures
