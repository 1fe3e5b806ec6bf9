use Rattle.std.proofs.Common.{◌∙◌, ap, refl}
use Rattle.bx_io.proofs.Changes.{made_put}
use Rattle.memo_format.specs.StoreNames.{at_blob}
use Rattle.two_phase.proofs.saving.put_bytes.Goals as goal

pub returns-clause-made : goal.returns-clause-made
returns-clause-made g c =
    made_put c.put.result (g.K.Keeper.known c.args.keeper.now) (g.K.Keeper.known c.put.new.self) c.as_str.result.now _ c.args.bytes.now c.args.bytes.now
    (c.as_str.ensures.value ∙ c.in_ok-name.ensures.name ∙ ap at_blob c.requires) refl c.put.ensures.made
