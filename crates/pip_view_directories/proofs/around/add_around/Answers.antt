use Rattle.std.proofs.lemmas.Result.{IfOk-weaker}
use Rattle.pip_view_directories.proofs.AtPaths.{around_all}
use Rattle.pip_view_directories.proofs.around.add_around.Goals as goal

pub returns : goal.returns
returns c =
    IfOk-weaker c.add_under.result _ _
    (λ few h e. around_all c.args.text.now c.args.dirs.now c.args.found.now.items c.add_at.new.found.items c.add_at-2.new.found.items
    c.add_over.new.found.items c.add_under.new.found.items (c.in_ok-add_at.ensures c.if-not-branch.false)
    (c.in_ok-add_at-2.ensures c.if-not-branch-2.false) (c.in_ok-add_over.ensures c.if-not-branch-3.false) (h e))
    c.add_under.ensures
