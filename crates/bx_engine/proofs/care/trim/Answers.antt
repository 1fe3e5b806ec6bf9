use Rattle.std.proofs.Common.{inl, inr}
use Rattle.bx_engine.specs.Calls.{StoreChange, Written, change_of, written_of}
use Rattle.bx_engine.proofs.Checked.{ended_blames, gone_noted, stopped_blames, stopped_status}
use Rattle.bx_engine.proofs.StoresCared.{counted_no_keeper, trim_stopped, trim_told}
use Rattle.bx_engine.proofs.care.trim.Goals as goal

pub returns-in-Ok-clause-trimmed : goal.returns-in-Ok-clause-trimmed
returns-in-Ok-clause-trimmed g c =
    let notes : Written =
    written_of (g.N.Sink.taken c.args.notes.now) (g.N.Sink.taken c.tell_count.new.notes) (g.N.Sink.faults c.args.notes.now) (g.N.Sink.faults c.tell_count.new.notes) in
    let store : StoreChange =
    change_of (g.K.Keeper.known c.args.keeper.now) (g.K.Keeper.known c.trim_alone.new.keeper) (g.K.Keeper.bound c.args.keeper.now) (g.K.Keeper.faults c.args.keeper.now)
    (g.K.Keeper.faults c.trim_alone.new.keeper) in
    trim_told c.args.keep c.tell_count.result c.in-Ok.count notes store c.trims_stay_honest.ensures c.trims_leave_trimmed.ensures c.tell_count.ensures.status
    (ended_blames c.tell_count.result store _ _ _ c.in-Ok.ensures.keeper (λ e. cc) (counted_no_keeper c.tell_count.result c.tell_count.ensures.status))
    c.in-Ok.ensures.trims c.in-Ok.ensures.alone c.in-Ok.ensures.counted c.in-Ok.ensures.trimmed c.tell_count.ensures.noted

pub returns-in-Ok-clause-no_notes : goal.returns-in-Ok-clause-no_notes
returns-in-Ok-clause-no_notes g c quiet = elim c.tell_count.ensures.status [
  | inl done ↦ absurd (gone_noted c.tell_count.result (inl done) quiet)
  | inr memory ↦ c.tell_count.ensures.no_notes memory
]

pub returns-in-Err-clause-trimmed : goal.returns-in-Err-clause-trimmed
returns-in-Err-clause-trimmed g c =
    let notes : Written =
    written_of (g.N.Sink.taken c.args.notes.now) (g.N.Sink.taken c.args.notes.now) (g.N.Sink.faults c.args.notes.now) (g.N.Sink.faults c.args.notes.now) in
    let store : StoreChange =
    change_of (g.K.Keeper.known c.args.keeper.now) (g.K.Keeper.known c.trim_alone.new.keeper) (g.K.Keeper.bound c.args.keeper.now) (g.K.Keeper.faults c.args.keeper.now)
    (g.K.Keeper.faults c.trim_alone.new.keeper) in
    trim_stopped c.args.keep c.stopped.result notes store c.trims_stay_honest.ensures (stopped_status c.in-Err.fault c.stopped.result c.stopped.ensures)
    (stopped_blames c.in-Err.fault c.stopped.result store _ _ _ c.stopped.ensures c.in-Err.ensures.keeper (λ e. cc) (λ e. cc)) c.in-Err.ensures.trims
    c.in-Err.ensures.alone c.in-Err.ensures.cut
