use Rattle.std.proofs.Common.{◌≡◌, ◌<◌, false, true, length, sym, ◌∙◌, refl, arith}
use Rattle.std.proofs.lemmas.Bool.{false≢true}
use Rattle.prints.specs.Processes.{with_pip}
use Rattle.sched_board_slots.proofs.SameDirs.{one_list, one_numbering}
use Rattle.sched_board_slots.proofs.SamePlaces.{one_size, seen_all, seen_here, seen_more}
use Rattle.sched_board_slots.proofs.holding.are_same_dirs.Goals as goal

pub returns-then-a-b : goal.returns-then-a-b
returns-then-a-b c = (
  λ (yes : false ≡ true). absurd cc,
  λ same. absurd (c.if-a-b.true (one_size (with_pip 0) (with_pip 0) c.args.a.now c.args.b.now (one_list c.args.a.now c.args.b.now same))),
)

pub returns-then-not-is_same_dir : goal.returns-then-not-is_same_dir
returns-then-not-is_same_dir c =
    let other : c.dirs.place < length c.args.b.now = omega (arith, c.dirs-test.true, c.if-a-b.false) in (
      λ (yes : false ≡ true). absurd cc,
      λ same. absurd (false≢true (sym c.if-not-is_same_dir.true ∙ c.is_same_dir.ensures.1
          (seen_here (with_pip 0) (with_pip 0) c.args.a.now c.args.b.now c.dirs.place c.index-a-place.result c.index-b-place.result c.dirs-test.true other
          c.index-a-place.is c.index-b-place.is (one_list c.args.a.now c.args.b.now same)))),
    )

pub dirs-preserved : goal.dirs-preserved
dirs-preserved c =
    seen_more (with_pip 0) (with_pip 0) c.args.a.now c.args.b.now c.dirs.place c.index-a-place.result c.index-b-place.result
    c.dirs-test.true (omega (arith, c.dirs-test.true, c.if-a-b.false)) c.index-a-place.is c.index-b-place.is
    c.dirs.invariant (c.is_same_dir.ensures.0 c.if-not-is_same_dir.false)

pub returns : goal.returns
returns c = (
  λ yes.
      one_numbering c.args.a.now c.args.b.now
      (seen_all (with_pip 0) (with_pip 0) c.args.a.now c.args.b.now c.dirs.place c.if-a-b.false (omega (arith, c.dirs-test.false)) c.dirs.invariant),
  λ same. refl,
)
