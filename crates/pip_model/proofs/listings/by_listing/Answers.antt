use Rattle.std.proofs.Common.{List, subst, sym, ◌∙◌}
use Rattle.std.specs.List.Sorted.{IsPermutation}
use Rattle.std.proofs.lemmas.Bool.{false≢true}
use Rattle.std.proofs.lemmas.Result.{IfOk-weaker}
use Rattle.pip_model.specs.declared.listings.Listing.{Listing}
use Rattle.pip_model.proofs.listings.by_listing.Goals as goal

pub returns-then-has_wide : goal.returns-then-has_wide
returns-then-has_wide c =
    IfOk-weaker c.of.result _ _ (λ found moved wide. subst (λ (ls : List Listing). IsPermutation ls found) c.in_ok-all_listings.ensures moved)
    c.of.ensures

pub returns : goal.returns
returns c =
    IfOk-weaker c.of-2.result _ _ (λ found moved wide. absurd (false≢true (sym c.if-has_wide.false ∙ c.has_wide.ensures ∙ wide))) c.of-2.ensures
