use Rattle.std.proofs.Common.{◌≡◌, ◌∙◌}
use Rattle.memo_format.specs.StoreNames.{at_list}
use Rattle.two_phase.proofs.Fetched.{list_given, no_list}
use Rattle.two_phase.proofs.fetching.selectors.Goals as goal

pub returns-in-Found-clause-found : goal.returns-in-Found-clause-found
returns-in-Found-clause-found g c =
    let named : c.as_str.result.now ≡ at_list c.args.weak.now = c.as_str.ensures.value ∙ c.in_ok-name.ensures.name in
    list_given (g.R.KeepReader.held c.get.new.self) c.args.weak.now c.as_str.result.now c.in-Found.text c.as_slice.result.now c.read_list.result named c.in-Found.ensures.found
    c.as_slice.ensures.value c.read_list.ensures.read

pub returns-in-None-clause-found : goal.returns-in-None-clause-found
returns-in-None-clause-found g c =
    let named : c.as_str.result.now ≡ at_list c.args.weak.now = c.as_str.ensures.value ∙ c.in_ok-name.ensures.name in
    no_list (g.R.KeepReader.held c.get.new.self) c.args.weak.now c.as_str.result.now named c.in-None.ensures.found
