use Rattle.std.proofs.Common.{ap, map, max, refl, ◌∙◌}
use Rattle.dscript_value.specs.declared.value.Value.{Value}
use Rattle.dscript_value.specs.Depths.{depth_of}
use Rattle.dscript_value.specs.Plain.{plain_of}
use Rattle.dscript_value.proofs.Deeper.{deeper}
use Rattle.dscript_value.proofs.makers.deepest.Goals as goal

pub items-preserved : goal.items-preserved
items-preserved c =
    deeper (map plain_of) plain_of c.args.items.now c.items.item-index c.item-item.result c.items.depth c.larger-depth.result _ (λ x ys. refl)
    c.items-test.true
    (c.larger-depth.ensures ∙ ap (λ n. max c.items.depth n) (c.depth.ensures ∙ ap (λ (v : Value). depth_of (plain_of v)) c.item-item.is))
    c.items.invariant
