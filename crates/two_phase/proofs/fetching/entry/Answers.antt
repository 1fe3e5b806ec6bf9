use Rattle.std.proofs.Common.{◌≡◌, ◌∙◌}
use Rattle.memo_format.specs.StoreNames.{at_entry}
use Rattle.two_phase.proofs.Fetched.{entry_held, entry_named, no_entry}
use Rattle.two_phase.proofs.fetching.entry.Goals as goal

pub returns-in-Found-clause-found : goal.returns-in-Found-clause-found
returns-in-Found-clause-found g c =
    let named : c.as_str.result.now ≡ at_entry c.args.strong.now = c.as_str.ensures.value ∙ c.in_ok-name.ensures.name in
    entry_held (g.R.KeepReader.held c.get.new.self) c.args.strong.now c.as_str.result.now c.in-Found.text c.read_held_entry.result named c.in-Found.ensures.found
    c.read_held_entry.ensures.read

pub returns-in-Found-clause-entry : goal.returns-in-Found-clause-entry
returns-in-Found-clause-entry g c = entry_named c.in-Found.text.items c.args.strong.now c.read_held_entry.result c.read_held_entry.ensures.read

pub returns-in-None-clause-found : goal.returns-in-None-clause-found
returns-in-None-clause-found g c =
    let named : c.as_str.result.now ≡ at_entry c.args.strong.now = c.as_str.ensures.value ∙ c.in_ok-name.ensures.name in
    no_entry (g.R.KeepReader.held c.get.new.self) c.args.strong.now c.as_str.result.now named c.in-None.ensures.found
