use Rattle.bx_tree.proofs.Roots.{root_decides, root_is}
use Rattle.bx_tree.proofs.path.Path.is_root.Goals as goal

pub returns-clause-root : goal.returns-clause-root
returns-clause-root c =
    root_decides c.args.self.now c.text.result.now c.eq.result c.text.ensures.is_path c.text.ensures.text c.eq.ensures

pub returns-clause-value : goal.returns-clause-value
returns-clause-value c =
    root_is c.args.self.now c.eq.result
    (root_decides c.args.self.now c.text.result.now c.eq.result c.text.ensures.is_path c.text.ensures.text c.eq.ensures)
