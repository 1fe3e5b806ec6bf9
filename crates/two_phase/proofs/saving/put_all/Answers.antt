use Rattle.std.proofs.Common.{◌∷◌, [], inl, map}
use Rattle.bx_io.specs.Holdings.{Put}
use Rattle.content_store.specs.Contents.{blob_put}
use Rattle.memo_format.specs.StoreNames.{at_entry, at_list}
use Rattle.two_phase.specs.Putting.{all_blobs}
use Rattle.two_phase.proofs.Applied.{all_but_next, in_first, in_next, made, made_or_not, one_applied, then}
use Rattle.two_phase.proofs.Noted.{held_by_entry, held_still, held_then_list}
use Rattle.two_phase.proofs.saving.put_all.Goals as goal

pub returns-in_err-put_blobs-clause-first : goal.returns-in_err-put_blobs-clause-first
returns-in_err-put_blobs-clause-first g c =
    let w = c.args.written.now in
    in_first (g.K.Keeper.known c.args.keeper.now) (g.K.Keeper.known c.put_blobs.new.keeper) (map blob_put (all_blobs w))
    (Put (at_entry w.strong.digest) w.entry.items ∷ Put (at_list w.weak.digest) c.args.list.now ∷ []) c.in_err-put_blobs.ensures.first

pub returns-in_err-put_entry-clause-first : goal.returns-in_err-put_entry-clause-first
returns-in_err-put_entry-clause-first g c =
    let w = c.args.written.now in
    all_but_next (g.K.Keeper.known c.args.keeper.now) (g.K.Keeper.known c.put_blobs.new.keeper) (g.K.Keeper.known c.put_entry.new.keeper) (map blob_put (all_blobs w))
    (Put (at_entry w.strong.digest) w.entry.items ∷ Put (at_list w.weak.digest) c.args.list.now ∷ []) c.in_ok-put_blobs.ensures.made
    c.in_err-put_entry.ensures.refused

pub returns-in_err-put_entry-clause-held : goal.returns-in_err-put_entry-clause-held
returns-in_err-put_entry-clause-held g c =
    held_still (g.K.Keeper.known c.put_blobs.new.keeper) (g.K.Keeper.known c.put_entry.new.keeper) c.put_blobs.new.held c.in_err-put_entry.ensures.refused
    c.in_ok-put_blobs.ensures.held

pub returns-clause-made : goal.returns-clause-made
returns-clause-made g c =
    let w = c.args.written.now in
    then (map blob_put (all_blobs w)) (Put (at_entry w.strong.digest) w.entry.items ∷ Put (at_list w.weak.digest) c.args.list.now ∷ [])
    (g.K.Keeper.known c.args.keeper.now) (g.K.Keeper.known c.put_blobs.new.keeper) (g.K.Keeper.known c.put_list.new.keeper) c.put_list.result c.in_ok-put_blobs.ensures.made
    (then (Put (at_entry w.strong.digest) w.entry.items ∷ []) (Put (at_list w.weak.digest) c.args.list.now ∷ []) (g.K.Keeper.known c.put_blobs.new.keeper)
    (g.K.Keeper.known c.put_entry.new.keeper) (g.K.Keeper.known c.put_list.new.keeper) c.put_list.result
    (one_applied (g.K.Keeper.known c.put_blobs.new.keeper) (g.K.Keeper.known c.put_entry.new.keeper) (Put (at_entry w.strong.digest) w.entry.items)
    (inl c.in_ok-put_entry.ensures.made))
    (made (g.K.Keeper.known c.put_entry.new.keeper) (g.K.Keeper.known c.put_list.new.keeper) (Put (at_list w.weak.digest) c.args.list.now) c.put_list.result
    c.put_list.ensures.made))

pub returns-clause-first : goal.returns-clause-first
returns-clause-first g c =
    let w = c.args.written.now in
    in_next (g.K.Keeper.known c.args.keeper.now) (g.K.Keeper.known c.put_blobs.new.keeper) (g.K.Keeper.known c.put_list.new.keeper) (map blob_put (all_blobs w))
    (Put (at_entry w.strong.digest) w.entry.items ∷ Put (at_list w.weak.digest) c.args.list.now ∷ []) c.in_ok-put_blobs.ensures.made
    (in_next (g.K.Keeper.known c.put_blobs.new.keeper) (g.K.Keeper.known c.put_entry.new.keeper) (g.K.Keeper.known c.put_list.new.keeper)
    (Put (at_entry w.strong.digest) w.entry.items ∷ []) (Put (at_list w.weak.digest) c.args.list.now ∷ [])
    (one_applied (g.K.Keeper.known c.put_blobs.new.keeper) (g.K.Keeper.known c.put_entry.new.keeper) (Put (at_entry w.strong.digest) w.entry.items)
    (inl c.in_ok-put_entry.ensures.made))
    (made_or_not (g.K.Keeper.known c.put_entry.new.keeper) (g.K.Keeper.known c.put_list.new.keeper) (Put (at_list w.weak.digest) c.args.list.now)
    c.put_list.result c.put_list.ensures.made c.put_list.ensures.refused))

pub returns-clause-held : goal.returns-clause-held
returns-clause-held g c =
    let w = c.args.written.now in
    held_then_list (g.K.Keeper.known c.put_entry.new.keeper) (g.K.Keeper.known c.put_list.new.keeper) c.put_blobs.new.held w.weak.digest c.args.list.now c.put_list.result
    (held_by_entry (g.K.Keeper.known c.put_blobs.new.keeper) (g.K.Keeper.known c.put_entry.new.keeper) c.put_blobs.new.held w.strong.digest w.entry.items
    c.in_ok-put_blobs.ensures.held c.in_ok-put_entry.ensures.made)
    c.put_list.ensures.made c.put_list.ensures.refused
