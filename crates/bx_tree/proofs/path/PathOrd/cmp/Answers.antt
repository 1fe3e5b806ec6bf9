use Rattle.std.proofs.Common.{sym, ◌∙◌}
use Rattle.bx_tree.proofs.PathTexts.{path_cmp-is}
use Rattle.bx_tree.proofs.path.PathOrd.cmp.Goals as goal

pub returns : goal.returns
returns c =
    c.cmp.ensures ∙ rw (c.text.ensures.text, c.text-2.ensures.text)
    (sym (path_cmp-is c.args.self.now c.args.other.now c.text.ensures.is_path c.text-2.ensures.is_path))
