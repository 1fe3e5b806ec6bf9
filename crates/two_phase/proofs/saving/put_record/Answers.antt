use Rattle.std.proofs.Common.{List, ℕ, subst, sym}
use Rattle.bx_io.proofs.Changes.{keeps_all}
use Rattle.two_phase.specs.Putting.{IsNextList}
use Rattle.two_phase.proofs.Noted.{held_still}
use Rattle.two_phase.proofs.Prefixes.{nothing_put, record_cut, record_made, strong_printed, weak_printed}
use Rattle.two_phase.proofs.saving.put_record.Goals as goal

pub put_all-requires-clause-weak : goal.put_all-requires-clause-weak
put_all-requires-clause-weak g c = λ κs a. weak_printed c.args.ran.now c.in_ok-written.written c.in_ok-written.ensures

pub put_all-requires-clause-strong : goal.put_all-requires-clause-strong
put_all-requires-clause-strong g c = λ κs a. strong_printed c.args.ran.now c.in_ok-written.written c.in_ok-written.ensures

pub put_all-requires-clause-held : goal.put_all-requires-clause-held
put_all-requires-clause-held g c =
    λ κs a. held_still (g.K.Keeper.known c.args.keeper.now) (g.K.Keeper.known c.next_list.new.keeper) c.args.held.now c.next_list.ensures.known c.requires.held

pub returns-in_err-written-clause-first : goal.returns-in_err-written-clause-first
returns-in_err-written-clause-first g c = nothing_put (g.K.Keeper.known c.args.keeper.now) (g.K.Keeper.known c.args.keeper.now) c.args.ran.now (keeps_all (g.K.Keeper.known c.args.keeper.now))

pub returns-in_err-list-clause-first : goal.returns-in_err-list-clause-first
returns-in_err-list-clause-first g c = nothing_put (g.K.Keeper.known c.args.keeper.now) (g.K.Keeper.known c.next_list.new.keeper) c.args.ran.now c.next_list.ensures.known

pub returns-in_err-list-clause-held : goal.returns-in_err-list-clause-held
returns-in_err-list-clause-held g c =
    held_still (g.K.Keeper.known c.args.keeper.now) (g.K.Keeper.known c.next_list.new.keeper) c.args.held.now c.next_list.ensures.known c.requires.held

pub returns-clause-made : goal.returns-clause-made
returns-clause-made g c =
    record_made (g.K.Keeper.known c.args.keeper.now) (g.K.Keeper.known c.next_list.new.keeper) (g.K.Keeper.known c.put_all.new.keeper) c.args.ran.now c.in_ok-written.written c.as_slice.result.now
    c.put_all.result c.next_list.ensures.known c.in_ok-written.ensures (subst (λ (text : List ℕ). IsNextList (g.K.Keeper.known c.next_list.new.keeper).held c.in_ok-written.written text) (sym c.as_slice.ensures.value)
    c.in_ok-list.ensures.list) c.put_all.ensures.made

pub returns-clause-first : goal.returns-clause-first
returns-clause-first g c =
    record_cut (g.K.Keeper.known c.args.keeper.now) (g.K.Keeper.known c.next_list.new.keeper) (g.K.Keeper.known c.put_all.new.keeper) c.args.ran.now c.in_ok-written.written c.as_slice.result.now
    c.next_list.ensures.known c.in_ok-written.ensures (subst (λ (text : List ℕ). IsNextList (g.K.Keeper.known c.next_list.new.keeper).held c.in_ok-written.written text) (sym c.as_slice.ensures.value)
    c.in_ok-list.ensures.list) c.put_all.ensures.first
