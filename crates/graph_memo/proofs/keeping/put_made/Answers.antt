use Rattle.std.proofs.Common.{List, [], ◌∷◌, ℕ, subst, ◌∙◌}
use Rattle.std.specs.Prelude.{OnOk}
use Rattle.std.proofs.lemmas.Result.{on_ok_weaker}
use Rattle.bx_io.specs.Holdings.{Makes, Put}
use Rattle.memo_format.specs.StoreNames.{at_entry}
use Rattle.graph_memo.proofs.keeping.put_made.Goals as goal

pub returns-clause-made : goal.returns-clause-made
returns-clause-made g c =
    subst (λ (t : List ℕ). OnOk c.put_entry.result (Makes (g.K.Keeper.known c.args.keeper.now) (Put (at_entry c.args.key.now) t ∷ []) (g.K.Keeper.known c.put_entry.new.keeper)))
    (c.as_slice.ensures.value ∙ c.in_ok-text.ensures.text) c.put_entry.ensures.made

pub returns-clause-entry : goal.returns-clause-entry
returns-clause-entry g c = on_ok_weaker c.put_entry.result (λ made. c.in_ok-text.ensures.entry) c.put_entry.ensures.made
