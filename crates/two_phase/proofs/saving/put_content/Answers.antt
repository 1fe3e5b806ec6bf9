use Rattle.std.proofs.Common.{refl}
use Rattle.two_phase.proofs.Noted.{held_noted, held_still, left_out, put_made, put_same}
use Rattle.two_phase.proofs.saving.put_content.Goals as goal

pub returns-then-has-clause-made : goal.returns-then-has-clause-made
returns-then-has-clause-made g c =
    left_out (g.K.Keeper.known c.args.keeper.now) c.args.held.now _ c.args.content.now c.requires (c.if-has.ensures refl)

pub returns-clause-held : goal.returns-clause-held
returns-clause-held g c =
    held_noted (g.K.Keeper.known c.args.keeper.now) (g.K.Keeper.known c.put_bytes.new.keeper) c.args.held.now c.note.new.self c.digest-digest.result c.args.content.now
    c.digest-digest.ensures c.requires
    (put_same (g.K.Keeper.known c.args.keeper.now) (g.K.Keeper.known c.put_bytes.new.keeper) c.bytes.result.now c.args.content.now c.bytes.ensures c.in_ok-put_bytes.ensures.made)
    c.note.ensures

pub returns-clause-made : goal.returns-clause-made
returns-clause-made g c =
    put_made (g.K.Keeper.known c.args.keeper.now) (g.K.Keeper.known c.put_bytes.new.keeper) c.bytes.result.now c.args.content.now c.bytes.ensures c.in_ok-put_bytes.ensures.made

pub returns-in_err-put_bytes-clause-held : goal.returns-in_err-put_bytes-clause-held
returns-in_err-put_bytes-clause-held g c =
    held_still (g.K.Keeper.known c.args.keeper.now) (g.K.Keeper.known c.put_bytes.new.keeper) c.args.held.now c.in_err-put_bytes.ensures.refused c.requires
