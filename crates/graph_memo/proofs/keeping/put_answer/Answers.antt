use Rattle.std.proofs.Common.{[], ◌∷◌, ◌++◌, ap, ◌∙◌}
use Rattle.bx_io.proofs.Changes.{keeps_all}
use Rattle.content_store.specs.Contents.{blob_put}
use Rattle.dscript_sdk_calls.specs.Sources.{tree_answers}
use Rattle.graph_texts.specs.declared.asks.AskLine.{AskLine}
use Rattle.two_phase.proofs.Applied.{none_applied, whole_applied}
use Rattle.graph_memo.proofs.Put.{line_is, listing_put, text_of_ask}
use Rattle.graph_memo.proofs.keeping.put_answer.Goals as goal

pub returns-in_err-asked-clause-first : goal.returns-in_err-asked-clause-first
returns-in_err-asked-clause-first g c = none_applied (g.K.Keeper.known c.args.keeper.now) (g.K.Keeper.known c.args.keeper.now) _ (keeps_all (g.K.Keeper.known c.args.keeper.now))

pub returns-in_err-blob-clause-first : goal.returns-in_err-blob-clause-first
returns-in_err-blob-clause-first g c = none_applied (g.K.Keeper.known c.args.keeper.now) (g.K.Keeper.known c.args.keeper.now) _ (keeps_all (g.K.Keeper.known c.args.keeper.now))

pub returns-in_err-put_content-clause-first : goal.returns-in_err-put_content-clause-first
returns-in_err-put_content-clause-first g c =
    none_applied (g.K.Keeper.known c.args.keeper.now) (g.K.Keeper.known c.put_content.new.keeper) _ c.in_err-put_content.ensures.refused

pub returns-in_err-push-clause-first : goal.returns-in_err-push-clause-first
returns-in_err-push-clause-first g c =
    let text = text_of_ask (tree_answers c.args.tree.now) c.args.ask.now in
    whole_applied (g.K.Keeper.known c.args.keeper.now) (g.K.Keeper.known c.put_content.new.keeper) (blob_put text ∷ [])
    (listing_put (g.K.Keeper.known c.args.keeper.now) (g.K.Keeper.known c.put_content.new.keeper) c.in_ok-blob.blob text c.in_ok-blob.ensures c.in_ok-put_content.ensures.made)

pub returns-clause-made : goal.returns-clause-made
returns-clause-made g c =
    let text = text_of_ask (tree_answers c.args.tree.now) c.args.ask.now in
    listing_put (g.K.Keeper.known c.args.keeper.now) (g.K.Keeper.known c.put_content.new.keeper) c.in_ok-blob.blob text c.in_ok-blob.ensures c.in_ok-put_content.ensures.made

pub returns-clause-first : goal.returns-clause-first
returns-clause-first g c =
    let text = text_of_ask (tree_answers c.args.tree.now) c.args.ask.now in
    whole_applied (g.K.Keeper.known c.args.keeper.now) (g.K.Keeper.known c.put_content.new.keeper) (blob_put text ∷ [])
    (listing_put (g.K.Keeper.known c.args.keeper.now) (g.K.Keeper.known c.put_content.new.keeper) c.in_ok-blob.blob text c.in_ok-blob.ensures c.in_ok-put_content.ensures.made)

pub returns-clause-lines : goal.returns-clause-lines
returns-clause-lines g c =
    c.in_ok-push.ensures.items
    ∙ ap (λ (line : AskLine). c.args.lines.now.items ++ line ∷ [])
    (line_is (tree_answers c.args.tree.now) c.args.ask.now c.in_ok-asked.asked c.in_ok-blob.blob c.digest.result c.in_ok-asked.ensures c.digest.ensures c.in_ok-blob.ensures)
