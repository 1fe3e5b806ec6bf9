use Rattle.std.proofs.Common.{◌≡◌, arith, false, get_or, refl, subst, sym, take, true, ◌∙◌}
use Rattle.std.specs.Prelude.{All}
use Rattle.std.proofs.lemmas.Bool.{false≢true}
use Rattle.std.proofs.lemmas.List.{take_all, take_more}
use Rattle.std.proofs.lemmas.List.Elements.{All-push}
use Rattle.sched_board.specs.Board.{IsFree}
use Rattle.bx_engine.proofs.crew.all_fit.Goals as goal

pub returns-then-not-is_free : goal.returns-then-not-is_free
returns-then-not-is_free g c = (
  λ (yes : false ≡ true). absurd cc,
  λ all. absurd (false≢true (sym c.if-not-is_free.true
      ∙ c.is_free.ensures.1 (subst (IsFree c.args.board.now) (sym c.share-item.is) (all c.shares.share-index c.share-item.result c.shares-test.true)))),
)

pub shares-preserved : goal.shares-preserved
shares-preserved g c =
    let i = c.shares.share-index in
    let shares = c.args.shares.now in
    let share = c.share-item.result in
    subst (All (IsFree c.args.board.now)) (sym (take_more shares i share c.shares-test.true))
    (All-push (IsFree c.args.board.now) (take i shares) (get_or shares i share) c.shares.invariant
    (subst (IsFree c.args.board.now) c.share-item.is (c.is_free.ensures.0 c.if-not-is_free.false)))

pub returns : goal.returns
returns g c =
    let whole = take_all c.shares.share-index c.args.shares.now (omega (arith, c.shares-test.false)) in (
      λ yes. subst (All (IsFree c.args.board.now)) whole c.shares.invariant,
      λ all. refl,
    )
