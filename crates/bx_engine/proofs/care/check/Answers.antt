use Rattle.std.proofs.Common.{inl, inr}
use Rattle.bx_engine.specs.Calls.{StoreChange, Written, change_of, written_of}
use Rattle.bx_engine.proofs.Checked.{check_stopped, check_told, checked_gone, checked_no_keeper, ended_blames, gone_noted, stopped_blames, stopped_status}
use Rattle.bx_engine.proofs.care.check.Goals as goal

pub returns-in-Ok-clause-checked : goal.returns-in-Ok-clause-checked
returns-in-Ok-clause-checked g c =
    let notes : Written =
    written_of (g.N.Sink.taken c.args.notes.now) (g.N.Sink.taken c.tell_list.new.notes) (g.N.Sink.faults c.args.notes.now) (g.N.Sink.faults c.tell_list.new.notes) in
    let store : StoreChange =
    change_of (g.K.Keeper.known c.args.keeper.now) (g.K.Keeper.known c.check_store.new.keeper) (g.K.Keeper.bound c.args.keeper.now) (g.K.Keeper.faults c.args.keeper.now)
    (g.K.Keeper.faults c.check_store.new.keeper) in
    check_told c.tell_list.result c.in-Ok.list notes store c.tell_list.ensures.status
    (ended_blames c.tell_list.result store _ _ _ c.in-Ok.ensures.keeper (λ e. cc) (checked_no_keeper c.tell_list.result c.in-Ok.list c.tell_list.ensures.status))
    c.in-Ok.ensures.known c.in-Ok.ensures.list c.tell_list.ensures.noted c.check_tells.ensures

pub returns-in-Ok-clause-no_notes : goal.returns-in-Ok-clause-no_notes
returns-in-Ok-clause-no_notes g c quiet = elim (checked_gone c.tell_list.result c.in-Ok.list c.tell_list.ensures.status) [
  | inl gone ↦ absurd (gone_noted c.tell_list.result gone quiet)
  | inr memory ↦ c.tell_list.ensures.no_notes memory
]

pub returns-in-Err-clause-checked : goal.returns-in-Err-clause-checked
returns-in-Err-clause-checked g c =
    let notes : Written =
    written_of (g.N.Sink.taken c.args.notes.now) (g.N.Sink.taken c.args.notes.now) (g.N.Sink.faults c.args.notes.now) (g.N.Sink.faults c.args.notes.now) in
    let store : StoreChange =
    change_of (g.K.Keeper.known c.args.keeper.now) (g.K.Keeper.known c.check_store.new.keeper) (g.K.Keeper.bound c.args.keeper.now) (g.K.Keeper.faults c.args.keeper.now)
    (g.K.Keeper.faults c.check_store.new.keeper) in
    check_stopped c.stopped.result notes store (stopped_status c.in-Err.fault c.stopped.result c.stopped.ensures)
    (stopped_blames c.in-Err.fault c.stopped.result store _ _ _ c.stopped.ensures c.in-Err.ensures.keeper (λ e. cc) (λ e. cc)) c.in-Err.ensures.known
