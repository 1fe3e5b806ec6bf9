use Rattle.std.proofs.Common.{ap, map, ◌∙◌}
use Rattle.pip_model.specs.Listings.{listing_seal}
use Rattle.pip_model.proofs.listings.Listings.of.Goals as goal

pub invariant_of-result : goal.invariant_of-result
invariant_of-result c = record {
  rising = c.in_order-files.ensures.rising;
  beside = c.in_ok-seals.ensures ∙ ap (map listing_seal) c.as_slice.ensures.value;
}
