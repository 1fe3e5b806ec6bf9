use Rattle.std.proofs.Common.{refl, ◌∙◌}
use Rattle.bx_io.proofs.Changes.{made_put}
use Rattle.memo_format.specs.StoreNames.{at_entry}
use Rattle.graph_memo.proofs.keeping.put_entry.Goals as goal

pub returns-clause-made : goal.returns-clause-made
returns-clause-made g c =
    made_put c.put.result (g.K.Keeper.known c.args.keeper.now) (g.K.Keeper.known c.put.new.self) c.as_str.result.now (at_entry c.args.key.now)
    c.args.text.now c.args.text.now (c.as_str.ensures.value ∙ c.in_ok-name.ensures.name) refl c.put.ensures.made
