use Rattle.std.proofs.Common.{rules}
use Rattle.std.proofs.lemmas.Iterator.{cases_from_any, YieldsList-from_slice}
use Rattle.bx_tree.specs.Paths.{Atoms, IsBelow}
use Rattle.bx_tree.proofs.AnyElement.{any_or_none}
use Rattle.graph_check_outputs.proofs.nesting.any_below.Goals as goal

pub returns : goal.returns
returns c =
    any_or_none (λ (p : Atoms). IsBelow p c.args.dir.now) _ _
    (cases_from_any _ _ _ (λ (p : Atoms). IsBelow p c.args.dir.now) (λ (p : Atoms). IsBelow p c.args.dir.now → ⊥)
    c.any.ensures.ran (YieldsList-from_slice c.args.paths.now cc) (λ x q k. search rules) (λ x q k. search rules))
