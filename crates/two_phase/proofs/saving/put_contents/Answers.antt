use Rattle.std.proofs.Common.{map}
use Rattle.bx_io.proofs.Changes.{keeps_all}
use Rattle.content_store.specs.Contents.{blob_put}
use Rattle.two_phase.proofs.Applied.{blob_more, blobs_cut, blobs_whole, whole_applied}
use Rattle.two_phase.proofs.Used.{keeps_none, keeps_on, ok_no_err}
use Rattle.two_phase.proofs.saving.put_contents.Goals as goal

pub contents-init : goal.contents-init
contents-init g c = record {
  made = keeps_all (g.K.Keeper.known c.args.keeper.now);
  held = c.requires;
  keeps = keeps_none (g.K.Keeper.bound c.args.keeper.now) (g.K.Keeper.faults c.args.keeper.now) ⊥ (λ e. e);
}

pub contents-preserved : goal.contents-preserved
contents-preserved g c =
    let put = c.in_ok-put_content.ensures in
    record {
      made = blob_more (g.K.Keeper.known c.args.keeper.now) (g.K.Keeper.known c.contents.keeper) (g.K.Keeper.known c.put_content.new.keeper) c.args.contents.now
          c.contents.blob-index c.blob-item.result c.contents-test.true c.blob-item.is c.contents.invariant.made put.made;
      held = put.held;
      keeps = keeps_on _ _ _ _ _ _ _ (ok_no_err _ _) c.contents.invariant.keeps put.keeper;
    }

pub returns-in_err-put_content-clause-first : goal.returns-in_err-put_content-clause-first
returns-in_err-put_content-clause-first g c =
    blobs_cut (g.K.Keeper.known c.args.keeper.now) (g.K.Keeper.known c.contents.keeper) (g.K.Keeper.known c.put_content.new.keeper) c.args.contents.now c.contents.blob-index
    c.contents.invariant.made c.in_err-put_content.ensures.refused

pub returns-clause-made : goal.returns-clause-made
returns-clause-made g c =
    blobs_whole (g.K.Keeper.known c.args.keeper.now) (g.K.Keeper.known c.contents.keeper) c.args.contents.now c.contents.blob-index c.contents-test.false c.contents.invariant.made

pub returns-clause-first : goal.returns-clause-first
returns-clause-first g c =
    whole_applied (g.K.Keeper.known c.args.keeper.now) (g.K.Keeper.known c.contents.keeper) (map blob_put c.args.contents.now)
    (blobs_whole (g.K.Keeper.known c.args.keeper.now) (g.K.Keeper.known c.contents.keeper) c.args.contents.now c.contents.blob-index c.contents-test.false c.contents.invariant.made)
