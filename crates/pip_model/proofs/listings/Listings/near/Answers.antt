use Rattle.std.proofs.Common.{◌≡◌, List, map, sym, subst, ◌∙◌}
use Rattle.std.specs.List.{Contains}
use Rattle.bx_tree_paths.specs.Searches.{RiseByText}
use Rattle.pip_model.specs.Listings.{listing_path, listing_seal}
use Rattle.pip_model.specs.declared.listings.Listing.{Listing}
use Rattle.pip_model.proofs.Listed.{near_seal}
use Rattle.pip_model.proofs.listings.Listings.near.Goals as goal

pub span_between-at-requires : goal.span_between-at-requires
span_between-at-requires c = subst (RiseByText listing_path) (sym c.as_slice-files.ensures.value) c.self.invariant.rising

pub span_between-below-requires : goal.span_between-below-requires
span_between-below-requires c = subst (RiseByText listing_path) (sym c.as_slice-files.ensures.value) c.self.invariant.rising

pub returns : goal.returns
returns c = λ l k near.
    let files = c.as_slice-files.result.now in
    let at = c.span_between-at.result in
    let below = c.span_between-below.result in
    let span = c.joined-span.result in
    near_seal c.args.text.now files c.as_slice-seals.result.now at.from at.to below.from below.to span.from span.to
    (c.as_slice-seals.ensures.value ∙ subst (λ (fs : List Listing). c.self.inside.seals.items ≡ map listing_seal fs) (sym c.as_slice-files.ensures.value) c.self.invariant.beside)
    c.span_between-at.ensures c.span_between-below.ensures c.joined-span.ensures.within c.joined-span.ensures.has_one c.joined-span.ensures.has_other
    l (subst (λ (fs : List Listing). Contains fs l) (sym c.self.view_is ∙ sym c.as_slice-files.ensures.value) k) near
