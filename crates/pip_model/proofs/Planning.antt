-- What a plan keeps of its pips is what its pips say.
use Rattle.std.proofs.Common.{◌≡◌, ℕ, ◌≤◌, List, [], length, get_or, ap, subst, sym, ◌∙◌, arith}
use Rattle.std.specs.Prelude.{◌↔◌, IsSomeAnd}
use Rattle.std.specs.List.{Contains}
use Rattle.std.proofs.lemmas.List.{get_or_default}
use Rattle.std.proofs.lemmas.Option.{slice_get-get_or}
use Rattle.pip_model_types.specs.declared.pip.Pip.{Pip}
use Rattle.pip_model_types.specs.Makers.{IsPipList}
use Rattle.pip_model.specs.declared.plan.TheConstants.{MAX_PIPS}
use Rattle.pip_model.specs.Edges.{Edge, targets}
use Rattle.pip_model.specs.Listings.{HasListingsOf}
use Rattle.pip_model.specs.Outputs.{HasOutputsOf, Numbered}
use Rattle.pip_model.specs.declared.listings.Listing.{Listing}
use Rattle.pip_model.specs.Plans.{AreAllInputs, AreRows, IsReachOf, KeepsPlan}
use Rattle.pip_model.specs.Rows.{PointBack}
use Rattle.pip_model.specs.Walks.{ListEdge}
use Rattle.pip_model.proofs.EdgesBack.{edge_back, in_range}
use Rattle.pip_model.proofs.WalksBack.{walk_along}

-- each pip's inputs are smaller than it
pub inputs_back : (pips : List Pip) (all : List (List ℕ)) → IsPipList pips → AreAllInputs pips all → PointBack all
inputs_back pips all list h i l d k e within =
    let inputs = get_or all i d in
    let are = h.each i (omega (arith, l, h.size)) d in
    edge_back pips list i (get_or inputs k e)
    ((are.edges (get_or inputs k e)).0 (k, within, get_or_default inputs k (get_or inputs k e) e within))

-- the edges that the lists of inputs give are those of the pips
pub edges_of_lists : (pips : List Pip) (all : List (List ℕ)) → AreAllInputs pips all → (i j : ℕ) → ListEdge all i j ↔ Edge pips i j
edges_of_lists pips all h i j =
    let inputs = get_or all i [] in (
      λ x.
          let l = in_range all i (λ (ts : List ℕ). Contains ts j) x in
          let c = subst (λ o. IsSomeAnd o (λ (ts : List ℕ). Contains ts j)) (slice_get-get_or all i [] l) x in
          ((h.each i (omega (arith, l, h.size)) []).edges j).0 c,
      λ x.
          let l = in_range pips i (λ (pip : Pip). Contains (targets pips pip.kind) j) x in
          let c = ((h.each i l []).edges j).1 x in
          subst (λ o. IsSomeAnd o (λ (ts : List ℕ). Contains ts j)) (sym (slice_get-get_or all i [] (omega (arith, l, h.size)))) c,
    )

-- a row that is reached along edges is reached along any relation that holds for exactly those edges
reach_along : (E F : ℕ → ℕ → Type 0) → ((i j : ℕ) → E i j ↔ F i j) → (i : ℕ) (row : List ℕ) → IsReachOf E i row → IsReachOf F i row
reach_along E F both i row h k = (
  λ b. walk_along E F (λ i j. (both i j).0) i k ((h k).0 b),
  λ w. (h k).1 (walk_along F E (λ i j. (both i j).1) i k w),
)

pub keeps_plan : (pips : List Pip) (all lists rows : List (List ℕ)) → length pips ≤ MAX_PIPS → AreAllInputs pips all → lists ≡ all
    → length rows ≡ length lists → AreRows (ListEdge lists) rows → (outputs : Numbered) → HasOutputsOf pips outputs
    → (listings : List Listing) → HasListingsOf pips listings → KeepsPlan pips all rows outputs listings
keeps_plan pips all lists rows few h same size are outputs outputs_of listings listings_of =
    let by_all = subst (λ (ls : List (List ℕ)). AreRows (ListEdge ls) rows) same are in
    let long : length rows ≡ length all = size ∙ ap length same in record {
      few = few;
      all_inputs = h;
      all_rows = long ∙ h.size;
      reach = λ i l d. reach_along (ListEdge all) (Edge pips) (edges_of_lists pips all h) i (get_or rows i d)
          (by_all.each i (omega (arith, l, long, h.size)) d);
      outputs_of = outputs_of;
      listings_of = listings_of;
    }
