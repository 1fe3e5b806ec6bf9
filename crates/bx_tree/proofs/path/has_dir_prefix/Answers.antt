use Rattle.std.proofs.Common.{rules}
use Rattle.std.proofs.lemmas.Bool.Decides.{Decides-eqb}
use Rattle.std.proofs.lemmas.Slice.Eq.{starts_is}
use Rattle.bx_tree.proofs.PathTexts.{prefix_with_slash}
use Rattle.bx_tree.proofs.path.has_dir_prefix.Goals as goal

pub returns : goal.returns
returns c =
    let starts = starts_is Decides-eqb c.args.text.now c.args.dir.now c.starts_with.result (search rules) in
    (λ t. prefix_with_slash c.args.text.now c.args.dir.now c.if-text-dir.false c.if-text-dir-ne47.false (starts.0 t), λ h. starts.1 _ h.1)
