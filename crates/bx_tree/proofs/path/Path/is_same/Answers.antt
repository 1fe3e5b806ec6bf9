use Rattle.std.proofs.Common.{sym, ◌∙◌}
use Rattle.bx_tree.specs.Orders.{same_path_decides}
use Rattle.bx_tree.proofs.path.Path.is_same.Goals as goal

pub returns : goal.returns
returns c =
    let decides = same_path_decides c.args.self.now c.args.other.now in
    (λ e. decides.0 (sym c.eq.ensures ∙ e), λ e. c.eq.ensures ∙ decides.1 e)
