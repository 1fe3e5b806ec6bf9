use Rattle.std.proofs.Common.{map}
use Rattle.dscript_names.specs.ProjectFiles.{paths_of_modules}
use Rattle.dscript_program.specs.Workspaces.{modules_data}
use Rattle.dscript_sdk_calls.specs.Sources.{tree_answers}
use Rattle.graph_texts.specs.Keys.{text_at}
use Rattle.graph_memo_meaning.specs.Contents.{listing_texts}
use Rattle.two_phase.proofs.Applied.{none_applied}
use Rattle.graph_memo.proofs.Put.{specs_first, texts_first, texts_made}
use Rattle.bx_io.specs.Holdings.{held_in}
use Rattle.graph_memo.proofs.keeping.put_texts.Goals as goal

pub put_content-requires-after_bounds : goal.put_content-requires-after_bounds
put_content-requires-after_bounds g c = λ κs within. c.new-held.ensures (held_in (g.K.Keeper.known c.args.keeper.now))

pub returns-in_err-put_content-clause-first : goal.returns-in_err-put_content-clause-first
returns-in_err-put_content-clause-first g c =
    none_applied (g.K.Keeper.known c.args.keeper.now) (g.K.Keeper.known c.put_content.new.keeper) _ c.in_err-put_content.ensures.refused

pub returns-in_err-put_modules-clause-first : goal.returns-in_err-put_modules-clause-first
returns-in_err-put_modules-clause-first g c =
    specs_first (g.K.Keeper.known c.args.keeper.now) (g.K.Keeper.known c.put_content.new.keeper) (g.K.Keeper.known c.put_modules.new.keeper) c.args.key.now
    (map (text_at c.args.tree.now) (paths_of_modules (modules_data c.args.work.now.modules.items))) (listing_texts (tree_answers c.args.tree.now) c.args.asks.now)
    c.in_ok-put_content.ensures.made (rw c.as_slice.ensures.value at c.in_err-put_modules.ensures.first)

pub returns-clause-made : goal.returns-clause-made
returns-clause-made g c =
    texts_made (g.K.Keeper.known c.args.keeper.now) (g.K.Keeper.known c.put_content.new.keeper) (g.K.Keeper.known c.put_modules.new.keeper)
    (g.K.Keeper.known c.put_answers.new.keeper) c.args.key.now (map (text_at c.args.tree.now) (paths_of_modules (modules_data c.args.work.now.modules.items)))
    (listing_texts (tree_answers c.args.tree.now) c.args.asks.now) c.put_answers.result c.in_ok-put_content.ensures.made
    (rw c.as_slice.ensures.value at c.in_ok-put_modules.ensures.made) c.put_answers.ensures.made

pub returns-clause-first : goal.returns-clause-first
returns-clause-first g c =
    texts_first (g.K.Keeper.known c.args.keeper.now) (g.K.Keeper.known c.put_content.new.keeper) (g.K.Keeper.known c.put_modules.new.keeper)
    (g.K.Keeper.known c.put_answers.new.keeper) c.args.key.now (map (text_at c.args.tree.now) (paths_of_modules (modules_data c.args.work.now.modules.items)))
    (listing_texts (tree_answers c.args.tree.now) c.args.asks.now) c.in_ok-put_content.ensures.made
    (rw c.as_slice.ensures.value at c.in_ok-put_modules.ensures.made) c.put_answers.ensures.first
