use Rattle.std.proofs.Common.{map, ◌∙◌}
use Rattle.bx_io.proofs.Changes.{keeps_all}
use Rattle.content_store.specs.Contents.{blob_put}
use Rattle.graph_texts.specs.Keys.{text_at}
use Rattle.two_phase.proofs.Applied.{blobs_cut, blobs_whole, whole_applied}
use Rattle.two_phase.proofs.Used.{keeps_none, keeps_on, ok_no_err}
use Rattle.graph_memo.proofs.Put.{mapped_more, mapped_length}
use Rattle.graph_memo.proofs.keeping.put_specs.Goals as goal

pub paths-init : goal.paths-init
paths-init g c = record {
  made = keeps_all (g.K.Keeper.known c.args.keeper.now);
  held = c.requires;
  keeps = keeps_none (g.K.Keeper.bound c.args.keeper.now) (g.K.Keeper.faults c.args.keeper.now) ⊥ (λ e. e);
}

pub paths-preserved : goal.paths-preserved
paths-preserved g c =
    let put = c.in_ok-put_content.ensures in
    record {
      made =
          mapped_more (text_at c.args.tree.now) (g.K.Keeper.known c.args.keeper.now) (g.K.Keeper.known c.paths.keeper) (g.K.Keeper.known c.put_content.new.keeper)
          c.args.paths.now c.paths.path-index c.path-item.result c.in_ok-blob.blob c.paths-test.true c.path-item.is
          (c.in_ok-blob.ensures ∙ c.in_ok-bytes.ensures.items ∙ c.spec_text.ensures) c.paths.invariant.made put.made;
      held = put.held;
      keeps = keeps_on _ _ _ _ _ _ _ (ok_no_err _ _) c.paths.invariant.keeps put.keeper;
    }

pub returns-in_err-bytes-clause-first : goal.returns-in_err-bytes-clause-first
returns-in_err-bytes-clause-first g c =
    blobs_cut (g.K.Keeper.known c.args.keeper.now) (g.K.Keeper.known c.paths.keeper) (g.K.Keeper.known c.paths.keeper) (map (text_at c.args.tree.now) c.args.paths.now)
    c.paths.path-index c.paths.invariant.made (keeps_all (g.K.Keeper.known c.paths.keeper))

pub returns-in_err-blob-clause-first : goal.returns-in_err-blob-clause-first
returns-in_err-blob-clause-first g c =
    blobs_cut (g.K.Keeper.known c.args.keeper.now) (g.K.Keeper.known c.paths.keeper) (g.K.Keeper.known c.paths.keeper) (map (text_at c.args.tree.now) c.args.paths.now)
    c.paths.path-index c.paths.invariant.made (keeps_all (g.K.Keeper.known c.paths.keeper))

pub returns-in_err-put_content-clause-first : goal.returns-in_err-put_content-clause-first
returns-in_err-put_content-clause-first g c =
    blobs_cut (g.K.Keeper.known c.args.keeper.now) (g.K.Keeper.known c.paths.keeper) (g.K.Keeper.known c.put_content.new.keeper) (map (text_at c.args.tree.now) c.args.paths.now)
    c.paths.path-index c.paths.invariant.made c.in_err-put_content.ensures.refused

pub returns-clause-made : goal.returns-clause-made
returns-clause-made g c =
    blobs_whole (g.K.Keeper.known c.args.keeper.now) (g.K.Keeper.known c.paths.keeper) (map (text_at c.args.tree.now) c.args.paths.now) c.paths.path-index
    (mapped_length (text_at c.args.tree.now) c.args.paths.now c.paths.path-index c.paths-test.false) c.paths.invariant.made

pub returns-clause-first : goal.returns-clause-first
returns-clause-first g c =
    whole_applied (g.K.Keeper.known c.args.keeper.now) (g.K.Keeper.known c.paths.keeper) (map blob_put (map (text_at c.args.tree.now) c.args.paths.now))
    (blobs_whole (g.K.Keeper.known c.args.keeper.now) (g.K.Keeper.known c.paths.keeper) (map (text_at c.args.tree.now) c.args.paths.now) c.paths.path-index
    (mapped_length (text_at c.args.tree.now) c.args.paths.now c.paths.path-index c.paths-test.false) c.paths.invariant.made)
