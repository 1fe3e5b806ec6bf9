use Rattle.std.proofs.Common.{◌≡◌, ◌∙◌}
use Rattle.memo_format.specs.StoreNames.{at_list}
use Rattle.two_phase.proofs.Fetched.{held_given, none_listed}
use Rattle.two_phase.proofs.saving.held_list.Goals as goal

pub returns-in-Found-clause-list : goal.returns-in-Found-clause-list
returns-in-Found-clause-list g c =
    let named : c.as_str.result.now ≡ at_list c.args.weak.now = c.as_str.ensures.value ∙ c.in_ok-name.ensures.name in
    held_given (g.K.Keeper.known c.get.new.self).held c.args.weak.now c.as_str.result.now c.in-Found.text c.as_slice.result.now c.in_ok-selectors_in-in-Found.field-0.items named c.in-Found.ensures.found
    c.as_slice.ensures.value c.in_ok-selectors_in-in-Found.ensures

pub returns-in-None-clause-list : goal.returns-in-None-clause-list
returns-in-None-clause-list g c =
    let named : c.as_str.result.now ≡ at_list c.args.weak.now = c.as_str.ensures.value ∙ c.in_ok-name.ensures.name in
    none_listed (g.K.Keeper.known c.get.new.self).held c.args.weak.now c.as_str.result.now c.new.result.items named c.in-None.ensures.found c.new.ensures.items
