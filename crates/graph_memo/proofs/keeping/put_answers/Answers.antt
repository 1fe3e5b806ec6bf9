use Rattle.std.proofs.Common.{map}
use Rattle.bx_io.proofs.Changes.{keeps_all}
use Rattle.content_store.specs.Contents.{blob_put}
use Rattle.dscript_sdk_calls.specs.Sources.{tree_answers}
use Rattle.graph_memo_meaning.specs.Contents.{listing_texts}
use Rattle.two_phase.proofs.Applied.{blobs_whole, whole_applied}
use Rattle.two_phase.proofs.Used.{keeps_none, keeps_on, ok_no_err}
use Rattle.graph_memo.proofs.Put.{answer_cut, answer_more, line_more, lines_whole, mapped_length, text_of_ask}
use Rattle.graph_memo.proofs.keeping.put_answers.Goals as goal

pub asks-init : goal.asks-init
asks-init g c = record {
  made = keeps_all (g.K.Keeper.known c.args.keeper.now);
  lines = c.new-lines.ensures.items;
  held = c.requires;
  keeps = keeps_none (g.K.Keeper.bound c.args.keeper.now) (g.K.Keeper.faults c.args.keeper.now) ⊥ (λ e. e);
}

pub asks-preserved : goal.asks-preserved
asks-preserved g c =
    let put = c.in_ok-put_answer.ensures in
    record {
      made =
          answer_more (tree_answers c.args.tree.now) (g.K.Keeper.known c.args.keeper.now) (g.K.Keeper.known c.asks.keeper) (g.K.Keeper.known c.put_answer.new.keeper)
          c.args.asks.now c.asks.ask-index c.ask-item.result c.asks-test.true c.ask-item.is c.asks.invariant.made put.made;
      lines =
          line_more (tree_answers c.args.tree.now) c.args.asks.now c.asks.ask-index c.ask-item.result c.asks.lines.items c.put_answer.new.lines.items
          c.asks-test.true c.ask-item.is c.asks.invariant.lines put.lines;
      held = put.held;
      keeps = keeps_on _ _ _ _ _ _ _ (ok_no_err _ _) c.asks.invariant.keeps put.keeper;
    }

pub returns-in_err-put_answer-clause-first : goal.returns-in_err-put_answer-clause-first
returns-in_err-put_answer-clause-first g c =
    answer_cut (tree_answers c.args.tree.now) (g.K.Keeper.known c.args.keeper.now) (g.K.Keeper.known c.asks.keeper) (g.K.Keeper.known c.put_answer.new.keeper)
    c.args.asks.now c.asks.ask-index c.ask-item.result c.asks-test.true c.ask-item.is c.asks.invariant.made c.in_err-put_answer.ensures.first

pub returns-clause-made : goal.returns-clause-made
returns-clause-made g c =
    blobs_whole (g.K.Keeper.known c.args.keeper.now) (g.K.Keeper.known c.asks.keeper) (listing_texts (tree_answers c.args.tree.now) c.args.asks.now) c.asks.ask-index
    (mapped_length (text_of_ask (tree_answers c.args.tree.now)) c.args.asks.now c.asks.ask-index c.asks-test.false) c.asks.invariant.made

pub returns-clause-first : goal.returns-clause-first
returns-clause-first g c =
    whole_applied (g.K.Keeper.known c.args.keeper.now) (g.K.Keeper.known c.asks.keeper) (map blob_put (listing_texts (tree_answers c.args.tree.now) c.args.asks.now))
    (blobs_whole (g.K.Keeper.known c.args.keeper.now) (g.K.Keeper.known c.asks.keeper) (listing_texts (tree_answers c.args.tree.now) c.args.asks.now) c.asks.ask-index
    (mapped_length (text_of_ask (tree_answers c.args.tree.now)) c.args.asks.now c.asks.ask-index c.asks-test.false) c.asks.invariant.made)

pub returns-clause-lines : goal.returns-clause-lines
returns-clause-lines g c = lines_whole (tree_answers c.args.tree.now) c.args.asks.now c.asks.ask-index c.asks.lines.items c.asks-test.false c.asks.invariant.lines
