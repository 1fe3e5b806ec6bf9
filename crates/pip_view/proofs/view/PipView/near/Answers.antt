use Rattle.std.proofs.Common.{List, Option, subst}
use Rattle.std.proofs.lemmas.Result.{IfOk-weaker}
use Rattle.pip_view.specs.Gathered.{dirs_now}
use Rattle.pip_view.specs.Seen.{KeepsView, ViewData}
use Rattle.pip_view.proofs.AroundMembers.{searched_if}
use Rattle.pip_view.proofs.view.PipView.near.Goals as goal

pub returns : goal.returns
returns c =
    let kept = dirs_now c.self.inside.opaque.items in
    let others = c.self.inside.others in
    let keeps = subst (λ (v : ViewData). KeepsView v kept others) c.self.view_is c.self.invariant in
    IfOk-weaker c.around_dirs.result _ _ (λ near h. searched_if c.args.self.now c.args.path.now kept others near keeps h) c.around_dirs.ensures
