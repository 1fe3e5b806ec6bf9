use Rattle.std.proofs.Common.{arith}
use Rattle.std.proofs.lemmas.Grind.{common_steps}
use Rattle.bx_io.proofs.Changes.{made_put}
use Rattle.content_store.proofs.content.put_blob.Goals as goal

pub returns-clause-made : goal.returns-clause-made
returns-clause-made g c =
    made_put c.put.result _ _ _ _ _ _ (grind (arith, common_steps, c.in_ok-name.ensures.name)) (grind (arith, common_steps)) c.put.ensures.made
