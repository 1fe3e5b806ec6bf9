use Rattle.std.proofs.Common.{sym, ◌∙◌}
use Rattle.std.proofs.lemmas.Bool.{false≢true}
use Rattle.bx_path.proofs.LastAtoms.{not_below}
use Rattle.bx_path.proofs.globbing.is_hit.Goals as goal

pub returns-then-not-is_below : goal.returns-then-not-is_below
returns-then-not-is_below c =
    sym (not_below c.args.dir.now c.args.path.now c.args.pattern.now c.args.deep
    (λ b. false≢true (sym c.if-not-is_below.true ∙ c.is_below.ensures.below.1 b)))
