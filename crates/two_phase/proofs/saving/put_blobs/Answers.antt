use Rattle.std.proofs.Common.{◌∷◌, [], List, ℕ, map, subst}
use Rattle.std.specs.Prelude.{OnOk}
use Rattle.content_store.specs.Contents.{blob_put}
use Rattle.two_phase.specs.Applying.{AppliesAll, AppliesPrefix}
use Rattle.two_phase.proofs.Applied.{all_but_next, both, in_next, none_applied, one_applied, then}
use Rattle.two_phase.proofs.saving.put_blobs.Goals as goal

pub returns-in_err-put_text-clause-first : goal.returns-in_err-put_text-clause-first
returns-in_err-put_text-clause-first g c =
    none_applied (g.K.Keeper.known c.args.keeper.now) (g.K.Keeper.known c.put_text.new.keeper) _ c.in_err-put_text.ensures.refused

pub returns-in_err-put_content-clause-first : goal.returns-in_err-put_content-clause-first
returns-in_err-put_content-clause-first g c =
    let w = c.args.written.now in
    all_but_next (g.K.Keeper.known c.args.keeper.now) (g.K.Keeper.known c.put_text.new.keeper) (g.K.Keeper.known c.put_content.new.keeper) (blob_put w.weak.text.items ∷ [])
    (map blob_put (w.paths ∷ w.strong.text.items ∷ w.contents.items))
    (one_applied (g.K.Keeper.known c.args.keeper.now) (g.K.Keeper.known c.put_text.new.keeper) (blob_put w.weak.text.items) c.in_ok-put_text.ensures.made)
    c.in_err-put_content.ensures.refused

pub returns-in_err-put_text-2-clause-first : goal.returns-in_err-put_text-2-clause-first
returns-in_err-put_text-2-clause-first g c =
    let w = c.args.written.now in
    all_but_next (g.K.Keeper.known c.args.keeper.now) (g.K.Keeper.known c.put_content.new.keeper) (g.K.Keeper.known c.put_text-2.new.keeper)
    (map blob_put (w.weak.text.items ∷ w.paths ∷ [])) (map blob_put (w.strong.text.items ∷ w.contents.items))
    (both (blob_put w.weak.text.items ∷ []) (blob_put w.paths ∷ []) (g.K.Keeper.known c.args.keeper.now) (g.K.Keeper.known c.put_text.new.keeper)
    (g.K.Keeper.known c.put_content.new.keeper)
    (one_applied (g.K.Keeper.known c.args.keeper.now) (g.K.Keeper.known c.put_text.new.keeper) (blob_put w.weak.text.items) c.in_ok-put_text.ensures.made)
    (one_applied (g.K.Keeper.known c.put_text.new.keeper) (g.K.Keeper.known c.put_content.new.keeper) (blob_put w.paths) c.in_ok-put_content.ensures.made))
    c.in_err-put_text-2.ensures.refused

pub returns-clause-made : goal.returns-clause-made
returns-clause-made g c =
    let w = c.args.written.now in
    let one = one_applied (g.K.Keeper.known c.args.keeper.now) (g.K.Keeper.known c.put_text.new.keeper) (blob_put w.weak.text.items) c.in_ok-put_text.ensures.made in
    let two = both (blob_put w.weak.text.items ∷ []) (blob_put w.paths ∷ []) (g.K.Keeper.known c.args.keeper.now) (g.K.Keeper.known c.put_text.new.keeper)
    (g.K.Keeper.known c.put_content.new.keeper) one
    (one_applied (g.K.Keeper.known c.put_text.new.keeper) (g.K.Keeper.known c.put_content.new.keeper) (blob_put w.paths) c.in_ok-put_content.ensures.made) in
    let three = both (map blob_put (w.weak.text.items ∷ w.paths ∷ [])) (blob_put w.strong.text.items ∷ []) (g.K.Keeper.known c.args.keeper.now)
    (g.K.Keeper.known c.put_content.new.keeper) (g.K.Keeper.known c.put_text-2.new.keeper) two
    (one_applied (g.K.Keeper.known c.put_content.new.keeper) (g.K.Keeper.known c.put_text-2.new.keeper) (blob_put w.strong.text.items) c.in_ok-put_text-2.ensures.made) in
    then (map blob_put (w.weak.text.items ∷ w.paths ∷ w.strong.text.items ∷ [])) (map blob_put w.contents.items) (g.K.Keeper.known c.args.keeper.now)
    (g.K.Keeper.known c.put_text-2.new.keeper) (g.K.Keeper.known c.put_contents.new.keeper) c.put_contents.result three
    (subst (λ (xs : List (List ℕ)). OnOk c.put_contents.result (AppliesAll (g.K.Keeper.known c.put_text-2.new.keeper) (map blob_put xs) (g.K.Keeper.known c.put_contents.new.keeper)))
    c.as_slice.ensures.value c.put_contents.ensures.made)

pub returns-clause-first : goal.returns-clause-first
returns-clause-first g c =
    let w = c.args.written.now in
    let one = one_applied (g.K.Keeper.known c.args.keeper.now) (g.K.Keeper.known c.put_text.new.keeper) (blob_put w.weak.text.items) c.in_ok-put_text.ensures.made in
    let two = both (blob_put w.weak.text.items ∷ []) (blob_put w.paths ∷ []) (g.K.Keeper.known c.args.keeper.now) (g.K.Keeper.known c.put_text.new.keeper)
    (g.K.Keeper.known c.put_content.new.keeper) one
    (one_applied (g.K.Keeper.known c.put_text.new.keeper) (g.K.Keeper.known c.put_content.new.keeper) (blob_put w.paths) c.in_ok-put_content.ensures.made) in
    let three = both (map blob_put (w.weak.text.items ∷ w.paths ∷ [])) (blob_put w.strong.text.items ∷ []) (g.K.Keeper.known c.args.keeper.now)
    (g.K.Keeper.known c.put_content.new.keeper) (g.K.Keeper.known c.put_text-2.new.keeper) two
    (one_applied (g.K.Keeper.known c.put_content.new.keeper) (g.K.Keeper.known c.put_text-2.new.keeper) (blob_put w.strong.text.items) c.in_ok-put_text-2.ensures.made) in
    in_next (g.K.Keeper.known c.args.keeper.now) (g.K.Keeper.known c.put_text-2.new.keeper) (g.K.Keeper.known c.put_contents.new.keeper)
    (map blob_put (w.weak.text.items ∷ w.paths ∷ w.strong.text.items ∷ [])) (map blob_put w.contents.items) three
    (subst (λ (xs : List (List ℕ)). AppliesPrefix (g.K.Keeper.known c.put_text-2.new.keeper) (g.K.Keeper.known c.put_contents.new.keeper) (map blob_put xs))
    c.as_slice.ensures.value c.put_contents.ensures.first)
