use Rattle.violations.specs.Least.{is_producer}
use Rattle.violations.proofs.LeastUnseen.{above_more, none_above}
use Rattle.violations.proofs.producing.least_above.Goals as goal

pub places-init : goal.places-init
places-init c = record {
  passes = λ p. p;
  stays = λ j at. at;
  covers = none_above (is_producer c.args.dirs.now c.args.pip c.args.path.now c.args.plan.now.pips) c.args.plan.now.pips c.args.text.now c.args.before;
}

pub places-preserved : goal.places-preserved
places-preserved c = record {
  passes = λ p. c.least_before-found.ensures.passes (c.places.invariant.passes p);
  stays = λ j at. c.least_before-found.ensures.stays j (c.places.invariant.stays j at);
  covers = above_more (is_producer c.args.dirs.now c.args.pip c.args.path.now c.args.plan.now.pips) c.args.plan.now.pips c.args.text.now
      c.places.at c.places.found _ c.places.invariant.covers c.least_before-found.ensures.stays c.least_before-found.ensures.covers;
}
