use Rattle.std.proofs.Common.{◌∙◌}
use Rattle.bx_io.proofs.Changes.{keeps_all}
use Rattle.graph_memo.specs.Finding.{work_of}
use Rattle.graph_memo.specs.Keeping.{made_by}
use Rattle.graph_memo.proofs.Kept.{graph_first, graph_made, made_cut, none_kept}
use Rattle.graph_memo.proofs.keeping.put_graph.Goals as goal

pub returns-in_err-text-clause-first : goal.returns-in_err-text-clause-first
returns-in_err-text-clause-first g c =
    none_kept (g.K.Keeper.known c.args.keeper.now) (g.K.Keeper.known c.args.keeper.now) (work_of c.args.work.now c.args.tree.now c.args.budget) (made_by c.args.asked.now)
    (keeps_all (g.K.Keeper.known c.args.keeper.now))

pub returns-in_err-key-clause-first : goal.returns-in_err-key-clause-first
returns-in_err-key-clause-first g c =
    none_kept (g.K.Keeper.known c.args.keeper.now) (g.K.Keeper.known c.args.keeper.now) (work_of c.args.work.now c.args.tree.now c.args.budget) (made_by c.args.asked.now)
    (keeps_all (g.K.Keeper.known c.args.keeper.now))

pub returns-in_err-lines-clause-first : goal.returns-in_err-lines-clause-first
returns-in_err-lines-clause-first g c =
    made_cut (g.K.Keeper.known c.args.keeper.now) (g.K.Keeper.known c.put_texts.new.keeper) (work_of c.args.work.now c.args.tree.now c.args.budget)
    (made_by c.args.asked.now) c.in_ok-key.key c.as_slice.result.now (c.in_ok-key.ensures ∙ c.in_ok-text.ensures.text) c.as_slice.ensures.value
    c.in_err-lines.ensures.first

pub returns-clause-made : goal.returns-clause-made
returns-clause-made g c =
    graph_made (g.K.Keeper.known c.args.keeper.now) (g.K.Keeper.known c.put_texts.new.keeper) (g.K.Keeper.known c.put_made.new.keeper)
    (work_of c.args.work.now c.args.tree.now c.args.budget) (made_by c.args.asked.now) c.in_ok-key.key c.digest.result c.as_slice-2.result.now c.as_slice.result.now
    c.put_made.result (c.in_ok-key.ensures ∙ c.in_ok-text.ensures.text) c.digest.ensures c.as_slice.ensures.value (c.as_slice-2.ensures.value ∙ c.in_ok-lines.ensures.lines)
    c.in_ok-lines.ensures.made c.put_made.ensures.made c.put_made.ensures.entry

pub returns-clause-first : goal.returns-clause-first
returns-clause-first g c =
    graph_first (g.K.Keeper.known c.args.keeper.now) (g.K.Keeper.known c.put_texts.new.keeper) (g.K.Keeper.known c.put_made.new.keeper)
    (work_of c.args.work.now c.args.tree.now c.args.budget) (made_by c.args.asked.now) c.in_ok-key.key c.digest.result c.as_slice-2.result.now c.as_slice.result.now
    c.put_made.result (c.in_ok-key.ensures ∙ c.in_ok-text.ensures.text) c.digest.ensures c.as_slice.ensures.value (c.as_slice-2.ensures.value ∙ c.in_ok-lines.ensures.lines)
    c.in_ok-lines.ensures.made c.put_made.ensures.made c.put_made.ensures.entry c.put_made.ensures.refused
