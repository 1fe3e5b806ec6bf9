use Rattle.two_phase.proofs.Noted.{held_noted, held_still, put_made, put_same}
use Rattle.two_phase.proofs.saving.put_text.Goals as goal

pub returns-clause-held : goal.returns-clause-held
returns-clause-held g c =
    held_noted (g.K.Keeper.known c.args.keeper.now) (g.K.Keeper.known c.put_bytes.new.keeper) c.args.held.now c.forget.new.self c.args.printed.now.digest
    c.args.printed.now.text.items c.requires.digest c.requires.held
    (put_same (g.K.Keeper.known c.args.keeper.now) (g.K.Keeper.known c.put_bytes.new.keeper) c.as_slice.result.now c.args.printed.now.text.items c.as_slice.ensures.value
    c.in_ok-put_bytes.ensures.made)
    (c.forget.ensures c.args.printed.now.text.items)

pub returns-clause-made : goal.returns-clause-made
returns-clause-made g c =
    put_made (g.K.Keeper.known c.args.keeper.now) (g.K.Keeper.known c.put_bytes.new.keeper) c.as_slice.result.now c.args.printed.now.text.items c.as_slice.ensures.value
    c.in_ok-put_bytes.ensures.made

pub returns-in_err-put_bytes-clause-held : goal.returns-in_err-put_bytes-clause-held
returns-in_err-put_bytes-clause-held g c =
    held_still (g.K.Keeper.known c.args.keeper.now) (g.K.Keeper.known c.put_bytes.new.keeper) c.args.held.now c.in_err-put_bytes.ensures.refused c.requires.held
