use Rattle.std.proofs.Common.{sym, ◌∙◌}
use Rattle.bx_tree.proofs.PathTexts.{same_path-is}
use Rattle.bx_tree.proofs.path.PathPartialEq.eq.Goals as goal

pub returns : goal.returns
returns c =
    c.eq.ensures ∙ rw (c.text.ensures.text, c.text-2.ensures.text)
    (sym (same_path-is c.args.self.now c.args.other.now c.text.ensures.is_path c.text-2.ensures.is_path))
