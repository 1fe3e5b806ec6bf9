use Rattle.std.proofs.Common.{◌≡◌, ◌+◌, ◌≤◌, ◌∙◌, Err, ap, arith, subst}
use Rattle.sched_board.specs.Board.{ShareData, one_more}
use Rattle.sched_board.specs.Publishing.{Publishes}
use Rattle.worker.specs.Workers.{WorkerData}
use Rattle.worker.proofs.Going.{goes_still}
use Rattle.worker.proofs.worker.Worker.show_on.Goals as goal

pub returns-in-Ok-clause-goes : goal.returns-in-Ok-clause-goes
returns-in-Ok-clause-goes g c =
    let published : c.publish.new.share ≡ one_more c.self.inside.share = c.in-Ok.ensures.publishes.3 in
    let after : c.complete.new.share ≡ one_more (one_more c.self.inside.share) = c.complete.ensures.share ∙ ap one_more published in
    let was = c.self.view_is in
    goes_still c.args.self.now _ (ap (λ (s : ShareData). s.worker) after ∙ ap (λ (w : WorkerData). w.share.worker) was)
    (let events = ap (λ (s : ShareData). s.events) after in let before = ap (λ (w : WorkerData). w.share.events) was in omega (arith, events, before))
    (ap (λ (w : WorkerData). w.tally.faults) was) (ap (λ (w : WorkerData). w.reader) was)

pub returns-in-Err-Refused-clause-goes : goal.returns-in-Err-Refused-clause-goes
returns-in-Err-Refused-clause-goes g c =
    let kept : c.publish.new.share ≡ c.self.inside.share =
    (subst (λ r. Publishes c.args.board.now c.self.inside.share c.args.job c.args.shown (Err r) c.publish.new.self c.publish.new.share) c.in-Err-Refused.field-0-is c.in-Err-Refused.ensures.publishes).3 in
    let after : c.release.new.share ≡ one_more c.self.inside.share = c.release.ensures.share ∙ ap one_more kept in
    let was = c.self.view_is in
    let last = c.leave.ensures in
    goes_still c.args.self.now c.leave.new.self
    (ap (λ (w : WorkerData). w.share.worker) last ∙ ap (λ (s : ShareData). s.worker) after ∙ ap (λ (w : WorkerData). w.share.worker) was)
    (let now = ap (λ (w : WorkerData). w.share.events) last in
    let events = ap (λ (s : ShareData). s.events) after in
    let before = ap (λ (w : WorkerData). w.share.events) was in
    omega (arith, now, events, before))
    (ap (λ (w : WorkerData). w.tally.faults) last ∙ ap (λ (w : WorkerData). w.tally.faults) was)
    (ap (λ (w : WorkerData). w.reader) last ∙ ap (λ (w : WorkerData). w.reader) was)

pub returns-in-Err-Memory-clause-goes : goal.returns-in-Err-Memory-clause-goes
returns-in-Err-Memory-clause-goes g c =
    let kept : c.publish.new.share ≡ c.self.inside.share =
    (subst (λ r. Publishes c.args.board.now c.self.inside.share c.args.job c.args.shown (Err r) c.publish.new.self c.publish.new.share) c.in-Err-Memory.field-0-is c.in-Err-Memory.ensures.publishes).2 in
    let after : c.release-in-Err-Memory.new.share ≡ one_more c.self.inside.share = c.release-in-Err-Memory.ensures.share ∙ ap one_more kept in
    let was = c.self.view_is in
    let last = c.starve.ensures in
    goes_still c.args.self.now c.starve.new.self
    (ap (λ (w : WorkerData). w.share.worker) last ∙ ap (λ (s : ShareData). s.worker) after ∙ ap (λ (w : WorkerData). w.share.worker) was)
    (let now = ap (λ (w : WorkerData). w.share.events) last in
    let events = ap (λ (s : ShareData). s.events) after in
    let before = ap (λ (w : WorkerData). w.share.events) was in
    omega (arith, now, events, before))
    (ap (λ (w : WorkerData). w.tally.faults) last ∙ ap (λ (w : WorkerData). w.tally.faults) was)
    (ap (λ (w : WorkerData). w.reader) last ∙ ap (λ (w : WorkerData). w.reader) was)
