use Rattle.std.proofs.Common.{◌≡◌, ℕ, Bool, ap, sym, ◌∙◌, subst}
use Rattle.sched_core.specs.Table.{allows}
use Rattle.sched_core.specs.declared.event.Event.TheVariants as event
use Rattle.sched_board_slots.specs.Slots.{HoldsOwn, is_good_held}
use Rattle.sched_board.specs.Board.{BoardData, IsBoard, filled}
use Rattle.sched_board.specs.Publishing.{slot_of}
use Rattle.sched_board.proofs.Keeping.{sound_board}
use Rattle.sched_board.proofs.Moves.{own_shown, published_is}
use Rattle.sched_board.proofs.ShownPips.{publish_allowed}
use Rattle.sched_board.proofs.board.Board.publish.Goals as goal

pub fill-requires-clause-allowed : goal.fill-requires-clause-allowed
fill-requires-clause-allowed g c =
    let b : BoardData = c.args.self.now in
    let board : IsBoard b = subst IsBoard c.self.view_is c.self.invariant.board in
    ap (λ (p : ℕ). allows b.core (event.Publish p c.worker.result c.is_good.result)) c.pip-pip.ensures
    ∙ ap (λ (w : ℕ). allows b.core (event.Publish c.args.job.pip w c.is_good.result)) c.worker.ensures
    ∙ ap (λ (good : Bool). allows b.core (event.Publish c.args.job.pip c.args.share.now.worker good)) (c.is_good.ensures ∙ ap is_good_held c.into_slot-slot.ensures)
    ∙ publish_allowed b c.args.share.now c.args.job c.args.shown (sound_board b board) c.requires.busy c.requires.shown

pub returns : goal.returns
returns g c =
    let b : BoardData = c.args.self.now in
    let board : IsBoard b = subst IsBoard c.self.view_is c.self.invariant.board in
    let own : HoldsOwn b.plan b.sources b.slots c.args.job.pip (is_good_held (slot_of c.args.shown)) (slot_of c.args.shown) =
    own_shown b c.deref.result.now c.deref-2.result.now c.as_slice-slots.result.now c.pip.result c.args.job.pip c.args.shown c.in-Ok.found
    (c.deref.ensures ∙ ap (λ (x : BoardData). x.plan) c.self.view_is) (c.deref-2.ensures ∙ ap (λ (x : BoardData). x.sources) c.self.view_is)
    (c.as_slice-slots.ensures.value ∙ ap (λ (x : BoardData). x.slots) c.self.view_is) c.pip.ensures c.in_default-found.is c.in-Ok.ensures in
    let made : c.fill.new.self ≡ filled b (event.Publish c.new.result c.worker.result c.is_good.result) c.into_slot-slot.result =
    c.fill.ensures.board
    ∙ ap (λ (p : ℕ). filled b (event.Publish p c.worker.result c.is_good.result) c.into_slot-slot.result) (sym c.new.ensures) in
    record {
      publishes = published_is b c.fill.new.self c.args.share.now c.fill.new.share c.args.job c.args.shown c.new.result c.worker.result c.is_good.result
          c.into_slot-slot.result board c.requires.busy own (c.new.ensures ∙ c.pip-pip.ensures) c.worker.ensures c.into_slot-slot.ensures c.is_good.ensures made
          c.fill.ensures.share;
    }
