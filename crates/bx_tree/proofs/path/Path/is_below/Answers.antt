use Rattle.bx_tree.proofs.BelowPaths.{below_is}
use Rattle.bx_tree.proofs.PathTexts.{TextBelow-is}
use Rattle.bx_tree.proofs.path.Path.is_below.Goals as goal

pub returns-clause-below : goal.returns-clause-below
returns-clause-below c =
    let known = rw (c.as_bytes-2.ensures.value, c.as_bytes.ensures.value, c.text-2.ensures.text, c.text.ensures.text) at c.lies_below.ensures in
    let both = TextBelow-is c.args.self.now c.args.dir.now c.text.ensures.is_path c.text-2.ensures.is_path in
    (λ t. both.0 (known.0 t), λ b. known.1 (both.1 b))

pub returns-clause-value : goal.returns-clause-value
returns-clause-value c =
    let known = rw (c.as_bytes-2.ensures.value, c.as_bytes.ensures.value, c.text-2.ensures.text, c.text.ensures.text) at c.lies_below.ensures in
    let both = TextBelow-is c.args.self.now c.args.dir.now c.text.ensures.is_path c.text-2.ensures.is_path in
    below_is c.args.self.now c.args.dir.now c.lies_below.result (λ t. both.0 (known.0 t), λ b. known.1 (both.1 b))
