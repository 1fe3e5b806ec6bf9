use Rattle.std.proofs.Common.{◌≡◌, ℕ, ap, sym, ◌∙◌, subst}
use Rattle.sched_core.specs.declared.event.Event.TheVariants as event
use Rattle.sched_board_slots.specs.Slots.{slot_at}
use Rattle.sched_board.specs.Board.{BoardData, IsBoard, IsFree, ShareData, one_more, stepped}
use Rattle.sched_board.proofs.After.{completed_free}
use Rattle.sched_board.proofs.Keeping.{sound_board}
use Rattle.sched_board.proofs.Moves.{at_pip, complete_can}
use Rattle.sched_board.proofs.board.Board.complete.Goals as goal

pub append-requires : goal.append-requires
append-requires g c =
    let b : BoardData = c.args.self.now in
    let board : IsBoard b = subst IsBoard c.self.view_is c.self.invariant.board in
    let can = at_pip b (λ (p w : ℕ). event.Complete p w) c.args.shut c.into_pip.result c.args.share.now.worker c.worker.result c.into_pip.ensures c.worker.ensures
    (complete_can b c.args.share.now c.args.shut board c.requires.published) in
    record { allowed = can.allowed; worker = can.worker; fits = can.fits }

pub returns-clause-free : goal.returns-clause-free
returns-clause-free g c =
    let b : BoardData = c.args.self.now in
    let share : ShareData = c.args.share.now in
    let board : IsBoard b = subst IsBoard c.self.view_is c.self.invariant.board in
    let free : IsFree (stepped b (event.Complete c.args.shut share.worker)) (one_more share) =
    completed_free b share c.args.shut (sound_board b board) c.requires.published in
    let now : c.append.new.self ≡ stepped b (event.Complete c.args.shut share.worker) =
    c.append.ensures.board
    ∙ ap (λ (p : ℕ). stepped b (event.Complete p c.worker.result)) c.into_pip.ensures
    ∙ ap (λ (w : ℕ). stepped b (event.Complete c.args.shut w)) c.worker.ensures in
    subst (λ (x : BoardData). IsFree x c.append.new.share) (sym now)
    (subst (λ (s : ShareData). IsFree (stepped b (event.Complete c.args.shut share.worker)) s) (sym c.append.ensures.share) free)
