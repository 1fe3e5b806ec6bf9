use Rattle.std.proofs.Common.{◌≡◌, ◌∙◌, Option, None, Some, Vec, Global, ℕ, ap, subst, sym}
use Rattle.std.specs.FinMap.{get}
use Rattle.memo_format.specs.StoreNames.{at_list}
use Rattle.miss_reasons.specs.Finding.{IsListText, Told}
use Rattle.miss_reasons.proofs.reason.reason_of.Goals as goal

pub list_reason-requires-clause-held : goal.list_reason-requires-clause-held
list_reason-requires-clause-held g c = λ κs live S told.
    let own : get S (at_list c.in_ok-weak.weak) ≡ Some c.in-Some.text.items =
    subst (λ (o : Option (Vec ℕ Global)). Told (g.R.KeepReader.held c.list_text.new.reader) (λ S t. IsListText S c.in_ok-weak.weak t) o) c.in-Some.is c.in_ok-text.ensures.text S told in
    own ∙ ap Some (sym c.as_slice.ensures.value)

pub list_reason-requires-clause-unusable : goal.list_reason-requires-clause-unusable
list_reason-requires-clause-unusable g c = λ κs live S told u. c.requires.unusable S (c.in_ok-text.ensures.reader.held_is S told) u

pub no_list-requires-clause-absent : goal.no_list-requires-clause-absent
no_list-requires-clause-absent g c = λ κs live S told.
    let own : get S (at_list c.in_ok-weak.weak) ≡ None =
    subst (λ (o : Option (Vec ℕ Global)). Told (g.R.KeepReader.held c.list_text.new.reader) (λ S t. IsListText S c.in_ok-weak.weak t) o) c.in-None.is c.in_ok-text.ensures.text S told in
    ap (λ w. get S (at_list w)) (sym c.in_ok-weak.ensures.digest) ∙ own

pub returns-in-None-clause-reason : goal.returns-in-None-clause-reason
returns-in-None-clause-reason g c = c.no_list.ensures.reason (g.V.View.answers c.args.view.now)
