use Rattle.std.proofs.Common.{◌≡◌, codes, ap, sym, ◌∙◌}
use Rattle.std.proofs.lemmas.Slice.Eq.{bytes_eq-Decides}
use Rattle.bx_tree.specs.Paths.{path_text}
use Rattle.bx_tree.proofs.PathTexts.{root_from_text}
use Rattle.bx_tree.proofs.ranges.prefix_of.Goals as goal
use Rattle.bx_tree.specs.Ranges.{prefix_below}

pub returns-then-eq-clause-prefix : goal.returns-then-eq-clause-prefix
returns-then-eq-clause-prefix c =
    let text : path_text c.args.dir.now ≡ codes "." =
    sym c.text-text.ensures.text ∙ (bytes_eq-Decides c.text-text.result.now (codes ".")).0 (sym c.eq.ensures ∙ c.if-eq.true) in
    c.new.ensures.items ∙ sym (ap prefix_below (root_from_text c.args.dir.now c.text-text.ensures.is_path text))
