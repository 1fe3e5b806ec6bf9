-- Each law is a lemma.
use Rattle.sched_core.proofs.EventLaws.{nothing_after_release, held_by_one, holds_alone, published_once, reaches_sound, released_between, starts_after_inputs}
use Rattle.sched_core.proofs.Weights.{few_events}
use Rattle.sched_core.proofs.laws.legal_events.Goals as goal

pub returns : goal.returns
returns c = record {
  one_holder = held_by_one;
  one_pip = holds_alone;
  published_once = published_once;
  starts_after_inputs = starts_after_inputs;
  released_between = released_between;
  nothing_after_release = nothing_after_release;
  sound = reaches_sound;
  few = few_events;
}
