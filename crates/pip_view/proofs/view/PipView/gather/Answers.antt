use Rattle.std.proofs.Common.{◌<◌, ap, length, subst, ◌∙◌}
use Rattle.std.proofs.lemmas.Result.{IfOk-weaker}
use Rattle.bx_tree.specs.Lent.{texts_now}
use Rattle.bx_tree.specs.Trees.{paths_of}
use Rattle.pip_view.specs.Seen.{ViewData}
use Rattle.pip_view.proofs.Seeing.{names_gathered}
use Rattle.pip_view.proofs.view.PipView.gather.Goals as goal

pub returns-clause-names : goal.returns-clause-names
returns-clause-names c =
    IfOk-weaker c.in_order.result _ _
    (λ names e.
    e ∙ names_gathered c.args.self.now (paths_of c.self.inside.sources.now) c.args.dir.now (texts_now c.new-names.result.items)
    (texts_now c.add_sources.new.names.items) (texts_now c.add_taken.new.names.items) (texts_now c.add_members.new.names.items)
    (ap (λ (v : ViewData). paths_of v.tree) c.self.view_is) (ap texts_now c.new-names.ensures.items)
    c.in_ok-add_sources.ensures c.in_ok-add_taken.ensures c.in_ok-add_members.ensures)
    c.in_order.ensures

pub returns-clause-there : goal.returns-clause-there
returns-clause-there c =
    IfOk-weaker c.in_order.result _ _ (λ names e. subst (λ (v : ViewData). v.pip < length v.pips) c.self.view_is c.self.invariant.there) c.in_order.ensures
