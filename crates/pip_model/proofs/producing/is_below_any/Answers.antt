use Rattle.std.proofs.Common.{rules}
use Rattle.std.proofs.lemmas.Iterator.{cases_from_any, YieldsList-from_slice}
use Rattle.bx_tree.specs.Paths.{IsBelow}
use Rattle.bx_tree.proofs.AnyElement.{any_or_none}
use Rattle.pip_model_types.specs.declared.outputs.OutDir.{OutDir}
use Rattle.pip_model.proofs.producing.is_below_any.Goals as goal

pub returns : goal.returns
returns c =
    any_or_none (λ (d : OutDir). IsBelow c.args.path.now d.path) _ _
    (cases_from_any _ _ _ (λ (d : OutDir). IsBelow c.args.path.now d.path) (λ (d : OutDir). IsBelow c.args.path.now d.path → ⊥)
    c.any.ensures.ran (YieldsList-from_slice c.args.dirs.now cc) (λ x q k. search rules) (λ x q k. search rules))
