use Rattle.std.proofs.Common.{List, ℕ, subst, sym}
use Rattle.std.proofs.lemmas.List.{get_or_default, take_all}
use Rattle.violations.specs.Least.{Covers, Passes, Stays, is_producer}
use Rattle.violations.proofs.LeastUnseen.{none_covered, with_covers, with_passes, with_stays}
use Rattle.violations.proofs.producing.least_of.Goals as goal

pub numbers-init : goal.numbers-init
numbers-init c = record {
  passes = λ p. p;
  stays = λ j at. at;
  covers = none_covered (is_producer c.args.dirs.now c.args.pip c.args.path.now c.args.pips.now) c.args.before;
}

pub numbers-preserved : goal.numbers-preserved
numbers-preserved c =
    let test : ℕ → _ = is_producer c.args.dirs.now c.args.pip c.args.path.now c.args.pips.now in
    let e = sym c.least_with-found.ensures in
    record {
      passes = λ p. subst (Passes test) e (with_passes test _ c.numbers.found (c.numbers.invariant.passes p));
      stays = subst (Stays c.args.before) e (with_stays test _ c.args.before c.numbers.found c.numbers.invariant.stays);
      covers = subst (Covers test _) e
          (with_covers test c.args.numbers.now c.numbers.number-index _ c.numbers.found c.numbers-test.true
          (get_or_default c.args.numbers.now c.numbers.number-index _ _ c.numbers-test.true)
          c.numbers.invariant.covers);
    }

pub returns-clause-covers : goal.returns-clause-covers
returns-clause-covers c =
    subst (λ (ns : List ℕ). Covers (is_producer c.args.dirs.now c.args.pip c.args.path.now c.args.pips.now) ns c.numbers.found)
    (take_all c.numbers.number-index c.args.numbers.now c.numbers-test.false) c.numbers.invariant.covers
